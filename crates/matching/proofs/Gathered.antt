-- The word gathered from a stretch: four runs, each in its place, undo the turn.
use mathlib.Core.Path.{◌≡◌, refl, sym, ap, ap₂, ◌∙◌}
use mathlib.Core.List.{List, ◌++◌}
use Prim.Native.Nat.{ℕ, ◌+◌, ◌-◌, ◌≤◌, ◌<◌}
use native.Mathlib.Nat.{zero-add}
use native.Mathlib.Omega.{arith}
use lib.ListN.{length, get_or, take, drop, length-drop, take-append-drop}
use lib.Seq.{ext_get_or, get_or-drop, get_or-take, length-take-le}
use Rattle.bits.specs.Bits.{with_filler}
use Rattle.bits.specs.Steps.Places.{Laid, Marked}
use Rattle.bits.proofs.Filler.{length-filled, laid-marked}
use Rattle.bits.proofs.Lists.{length_part}
use Rattle.bits.proofs.Ranges.{below_or}
use Rattle.matching.specs.Steps.Places.{least, kept_before}
use Rattle.matching.specs.Steps.Line.{in_line, heard}
use Rattle.matching.proofs.Heard.{in_line_length, line_first, line_then}

-- ---- own bits, filler, and the parity bits, of a stretch in line

gathered-word : (s a b c d : List ℕ) (own places n : ℕ) → own ≤ places → places ≤ length a → own + (length a - places) ≤ length s → n ≡ length a - places
    → Laid s 0 own a 0 b → Marked own places b c → Laid s own n c places d → d ≡ with_filler places (take own s) ++ take (length a - places) (drop own s)
gathered-word s a b c d own places n h l m is one marks two =
    let long : length d ≡ length a = two.len ∙ marks.len ∙ one.len in
    let size : length (with_filler places (take own s)) ≡ places = length-filled places (take own s) (omega (arith, length-take-le own s (omega arith))) in
    let size' : length (take places d) ≡ places = length-take-le places d (omega arith) in
    let first : take places d ≡ with_filler places (take own s) =
    ext_get_or 0 (take places d) (with_filler places (take own s)) (size' ∙ sym size)
    (λ p q. get_or-take places d p 0 (omega arith) ∙ two.below p (omega arith) ∙ laid-marked s a b c 0 own places h (omega arith) one marks p (omega arith)) in
    let short : length (take (length a - places) (drop own s)) ≡ length a - places = length_part (length a - places) own s m in
    let short' : length (drop places d) ≡ length a - places = length-drop places d ∙ omega arith in
    let rest : drop places d ≡ take (length a - places) (drop own s) =
    ext_get_or 0 (drop places d) (take (length a - places) (drop own s)) (short' ∙ sym short)
    (λ p q. get_or-drop places d p 0 ∙ two.inside p (omega arith) ∙ sym (get_or-drop own s p 0) ∙ sym (get_or-take (length a - places) (drop own s) p 0 (omega arith))) in
    sym (take-append-drop places d) ∙ ap₂ (λ (x y : List ℕ). x ++ y) first rest

-- ---- two runs of s, one after the other, where another list holds what they hold

laid-two : (s line a b c : List ℕ) (f g from n m at next all : ℕ) → next ≡ at + n → all ≡ n + m → Laid s f n a at b → Laid s g m b next c
    → ((p : ℕ) → p < n → get_or line (from + p) 0 ≡ get_or s (f + p) 0) → ((p : ℕ) → p < m → get_or line (from + n + p) 0 ≡ get_or s (g + p) 0)
    → Laid line from all a at c
laid-two s line a b c f g from n m at next all ends sum one two first second =
    record {
      len = two.len ∙ one.len;
      inside = λ k h.
          below_or k n
          (λ o. two.below (at + k) (omega arith) ∙ one.inside k o ∙ sym (first k o))
          (λ o.
          let there : next + (k - n) ≡ at + k = omega arith in
          let here : from + n + (k - n) ≡ from + k = omega arith in
          ap (λ (x : ℕ). get_or c x 0) (sym there) ∙ two.inside (k - n) (omega arith) ∙ sym (second (k - n) (omega arith)) ∙ ap (λ (x : ℕ). get_or line x 0) here);
      below = λ p h. two.below p (omega arith) ∙ one.below p h;
      above = λ p h. two.above p (omega arith) ∙ one.above p (omega arith);
    }

-- ---- the four runs: low of the own bits and high of the parity bits stand before the start

module _ (s : List ℕ) (own rest low high n k : ℕ) (is : n ≡ own + rest) (sum : k ≡ low + high) (long : n ≤ length s) (few : low ≤ own) (some : high ≤ rest)
    (one-run : low < own → high ≡ 0) where
  own-laid : (a b c : List ℕ) → Laid s (n - k) low a 0 b → Laid s 0 (own - low) b low c → Laid (in_line n k s) 0 own a 0 c
  own-laid a b c one two =
      laid-two s (in_line n k s) a b c (n - k) 0 0 low (own - low) 0 low own (omega arith) (omega arith) one two
      (λ p h. ap (λ (x : ℕ). get_or (in_line n k s) x 0) (zero-add p) ∙ line_first n k s (omega arith) long p (omega arith))
      (λ p h.
      let none : high ≡ 0 = one-run (omega arith) in
      let at : 0 + low + p ≡ k + p = omega arith in
      ap (λ (x : ℕ). get_or (in_line n k s) x 0) at ∙ line_then n k s (omega arith) long p (omega arith) ∙ ap (λ (x : ℕ). get_or s x 0) (sym (zero-add p)))

  rest-laid : (a b c : List ℕ) (places : ℕ) → Laid s (n - k + low) high a places b → Laid s (own - low) (rest - high) b (places + high) c
      → Laid (in_line n k s) own rest a places c
  rest-laid a b c places one two =
      laid-two s (in_line n k s) a b c (n - k + low) (own - low) own high (rest - high) places (places + high) rest (omega arith) (omega arith) one two
      (λ p h.
      let all : low ≡ own = below_or low own (λ l. absurd (omega (arith, one-run l))) (λ l. omega arith) in
      let at : n - k + (own + p) ≡ n - k + low + p = omega arith in
      line_first n k s (omega arith) long (own + p) (omega arith) ∙ ap (λ (x : ℕ). get_or s x 0) at)
      (λ p h.
      let at : own + high + p ≡ k + (own - low + p) = omega arith in
      ap (λ (x : ℕ). get_or (in_line n k s) x 0) at ∙ line_then n k s (omega arith) long (own - low + p) (omega arith))

-- how many they are

past_is : (places start : ℕ) → start - least places start ≡ start - places
past_is places start = omega arith

before-is : (own places start : ℕ) → kept_before own places start ≡ least own start + (start - places)
unfolding kept_before
before-is own places start = ap (λ (x : ℕ). least own start + x) (past_is places start)

one-kind : (own places start low : ℕ) → own ≤ places → low ≡ least own start → low < own → start - places ≡ 0
one-kind own places start low h p l = omega arith

module _ (s a : List ℕ) (own places start : ℕ) (order : own ≤ places) (within : places ≤ length a) (in-word : start ≤ length a)
    (long : own + (length a - places) ≤ length s) where
  pub gathered : (low high : ℕ) → low ≡ least own start → high ≡ start - places → (b c d f g : List ℕ)
      → Laid s (own + (length a - places) - (low + high)) low a 0 b → Laid s 0 (own - low) b low c → Marked own places c d
      → Laid s (own + (length a - places) - (low + high) + low) high d places f → Laid s (own - low) (length a - places - high) f (places + high) g
      → g ≡ with_filler places (take own (heard own places start (length a) s)) ++ take (length a - places) (drop own (heard own places start (length a) s))
  gathered low high p q b c d f g one two marks three four =
      let rest : ℕ = length a - places in
      let n : ℕ = own + (length a - places) in
      let k : ℕ = kept_before own places start in
      let sum : kept_before own places start ≡ low + high = before-is own places start ∙ ap₂ (λ (x y : ℕ). x + y) (sym p) (sym q) in
      let few : low ≤ own = omega arith in
      let some : high ≤ length a - places = omega arith in
      let one-run : low < own → high ≡ 0 = λ h. q ∙ one-kind own places start low order p h in
      let turn : own + (length a - places) - (low + high) ≡ n - k = ap (λ (x : ℕ). n - x) (sym sum) in
      let front = own-laid s own rest low high n k refl sum long few some one-run a b c (rw (sym turn) one) two in
      let back = rest-laid s own rest low high n k refl sum long few some one-run d f g places (rw (sym turn) three) four in
      gathered-word (in_line n k s) a c d g own places rest order within (omega (arith, in_line_length n k s long)) refl front marks back
