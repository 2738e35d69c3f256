-- A coded block whose filler lies in one stretch: its kept places are two runs.
use mathlib.Core.Path.{◌≡◌, sym, ap, ap₂, ◌∙◌}
use mathlib.Core.List.{List, [], ◌++◌}
use Prim.Native.Nat.{ℕ, ◌+◌, ◌-◌, ◌≤◌, ◌<◌}
use native.Mathlib.Omega.{arith}
use lib.ListN.{length, get_or, take, drop, length-append, length-drop, take-append-drop, get_or-append}
use lib.Seq.{get_or-append-add, get_or-drop, get_or-take, length-take-le, drop-drop}
use Rattle.matching.specs.Matching.{kept}
use Rattle.matching.specs.Steps.Places.{Filled}
use Rattle.matching.proofs.Kept.{kept_append, unmarked, all-marked}

module _ (s : List ℕ) (own places : ℕ) (f : Filled s own places) where
  pub kept-is : kept s ≡ take own s ++ drop places s
  kept-is =
      let n = places - own in
      let order : own ≤ places = f.order in
      let within : places ≤ length s = f.within in
      let first : kept (take own s) ≡ take own s =
      unmarked (take own s) (λ k h e. f.before k (omega (arith, length-take-le own s (omega arith))) (sym (get_or-take own s k 0 (omega (arith, length-take-le own s (omega arith)))) ∙ e)) in
      let length-mid : length (take n (drop own s)) ≡ n = length-take-le n (drop own s) (omega (arith, length-drop own s)) in
      let middle : kept (take n (drop own s)) ≡ [] =
      all-marked (take n (drop own s)) (λ k h. get_or-take n (drop own s) k 0 (omega arith) ∙ get_or-drop own s k 0 ∙ f.marked (own + k) (omega arith) (omega arith)) in
      let last : kept (drop places s) ≡ drop places s =
      unmarked (drop places s) (λ k h e. f.after (places + k) (omega arith) (omega (arith, length-drop places s)) (sym (get_or-drop places s k 0) ∙ e)) in
      let end : own + n ≡ places = omega arith in
      let cut : drop n (drop own s) ≡ drop places s = drop-drop n own s ∙ ap (λ (j : ℕ). drop j s) end in
      ap kept (sym (take-append-drop own s)) ∙ kept_append (take own s) (drop own s)
      ∙ ap₂ (λ (x y : List ℕ). x ++ y) first
      (ap kept (sym (take-append-drop n (drop own s))) ∙ kept_append (take n (drop own s)) (drop n (drop own s))
      ∙ ap₂ (λ (x y : List ℕ). x ++ y) middle (ap kept cut ∙ last))

  pub kept-length : length (kept s) ≡ own + (length s - places)
  kept-length =
      let order : own ≤ places = f.order in
      let within : places ≤ length s = f.within in
      ap length kept-is ∙ length-append (take own s) (drop places s)
      ∙ omega (arith, length-take-le own s (omega arith), length-drop places s)

  pub kept-first : (k : ℕ) → k < own → get_or (kept s) k 0 ≡ get_or s k 0
  kept-first k h =
      let l : length (take own s) ≡ own = length-take-le own s (omega (arith, f.order, f.within)) in
      ap (λ (x : List ℕ). get_or x k 0) kept-is ∙ get_or-append (take own s) (drop places s) 0 k (omega arith) ∙ get_or-take own s k 0 h

  pub kept_second : (k : ℕ) → get_or (kept s) (own + k) 0 ≡ get_or s (places + k) 0
  kept_second k =
      let l : length (take own s) ≡ own = length-take-le own s (omega (arith, f.order, f.within)) in
      ap₂ (λ (x : List ℕ) (j : ℕ). get_or x (j + k) 0) kept-is (sym l) ∙ get_or-append-add (take own s) (drop places s) k 0 ∙ get_or-drop places s k 0
