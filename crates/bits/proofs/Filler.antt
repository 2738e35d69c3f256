-- Places with their filler, and how they are laid in front of a word.
use mathlib.Core.Path.{◌≡◌, sym, ap, ◌∙◌}
use mathlib.Core.List.{List, ◌++◌}
use Prim.Native.Nat.{ℕ, ◌+◌, ◌-◌, ◌≤◌, ◌<◌}
use native.Mathlib.Nat.{zero-add}
use native.Mathlib.Omega.{arith}
use lib.ListN.{length, get_or, take, drop, replicate, length-append, length-replicate, get_or-replicate, get_or-append}
use lib.Seq.{get_or-append-add, get_or-drop, get_or-take}
use Rattle.bits.specs.Bits.{with_filler}
use Rattle.bits.specs.Steps.Places.{Laid, Marked}
use Rattle.bits.proofs.Lists.{length_part}
use Rattle.bits.proofs.Ranges.{below_or}

module _ (places : ℕ) (mine : List ℕ) where
  pub length-filled : length mine ≤ places → length (with_filler places mine) ≡ places
  unfolding with_filler
  length-filled h =
      length-append mine (replicate (places - length mine) 2) ∙ omega (arith, length-replicate {A = ℕ} (places - length mine) 2)

  pub filled-own : (p : ℕ) → p < length mine → get_or (with_filler places mine) p 0 ≡ get_or mine p 0
  unfolding with_filler
  filled-own p h = get_or-append mine (replicate (places - length mine) 2) 0 p h

  pub filled_mark : (p : ℕ) → length mine ≤ p → p < places → get_or (with_filler places mine) p 0 ≡ 2
  unfolding with_filler
  filled_mark p h k =
      let at : length mine + (p - length mine) ≡ p = omega arith in
      ap (λ (i : ℕ). get_or (mine ++ replicate (places - length mine) 2) i 0) (sym at)
      ∙ get_or-append-add mine (replicate (places - length mine) 2) (p - length mine) 0
      ∙ get_or-replicate (places - length mine) (p - length mine) 2 0 (omega arith)

-- what stands in front of a word, and marks behind it
pub marked-filled : (mine b c : List ℕ) (places : ℕ) → ((p : ℕ) → p < length mine → get_or b p 0 ≡ get_or mine p 0) → Marked (length mine) places b c
    → (p : ℕ) → p < places → get_or c p 0 ≡ get_or (with_filler places mine) p 0
marked-filled mine b c places front marks p q =
    below_or p (length mine) (λ o. marks.below p o ∙ front p o ∙ sym (filled-own places mine p o)) (λ o. marks.marked p o q ∙ sym (filled_mark places mine p o q))

-- own bits laid from `start` on, and marks behind them
pub laid-marked : (bits a b c : List ℕ) (start own places : ℕ) → own ≤ places → start + own ≤ length bits
    → Laid bits start own a 0 b → Marked own places b c → (p : ℕ) → p < places → get_or c p 0 ≡ get_or (with_filler places (take own (drop start bits))) p 0
laid-marked bits a b c start own places h l laid marks =
    let mine = take own (drop start bits) in
    let size : length mine ≡ own = length_part own start bits l in
    marked-filled mine b c places
    (λ p o. ap (λ (i : ℕ). get_or b i 0) (sym (zero-add p)) ∙ laid.inside p (omega arith) ∙ sym (get_or-drop start bits p 0) ∙ sym (get_or-take own (drop start bits) p 0 (omega arith)))
    (rw size marks)
