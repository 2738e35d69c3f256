-- Octets laid over a list: the loop, and what stands in front then.
use mathlib.Core.Path.{◌≡◌, refl, sym, ap, ◌∙◌}
use mathlib.Core.List.{List, ◌++◌}
use Prim.Native.Nat.{ℕ, ◌+◌, ◌-◌, ◌≤◌, ◌<◌}
use native.Mathlib.Nat.{zero-add}
use native.Mathlib.Omega.{arith}
use lib.ListN.{length, get_or, take, drop, set, length-append, length-set, get_or-append}
use lib.Seq.{get_or-set_same, get_or-set_other, get_or-append-add, get_or-drop, get_or-take, length-take-le, ext_get_or}
use Rattle.bits.specs.Steps.Places.{Laid}
use Rattle.bits.proofs.Lists.{length_part}
use Rattle.bits.proofs.Ranges.{below_or, last_or}
use Rattle.bits.proofs.Listed.{list_of, written}

-- ---- octets laid over a list

pub laid_none : (s a : List ℕ) (from at : ℕ) → Laid s from 0 a at a
laid_none s a from at = record { len = refl; inside = λ k h. absurd (omega arith); below = λ p h. refl; above = λ p h. refl }

pub laid_more : (s a b : List ℕ) (from k at : ℕ) → Laid s from k a at b → at + k < length a
    → Laid s from (k + 1) a at (set b (at + k) (get_or s (from + k) 0))
laid_more s a b from k at l h =
    let x = get_or s (from + k) 0 in
    record {
      len = length-set b (at + k) x ∙ l.len;
      inside = λ j m.
          last_or j k (omega arith)
          (λ o. get_or-set_other b (at + k) (at + j) x 0 (λ e. omega arith) ∙ l.inside j o)
          (λ e. ap (λ (i : ℕ). get_or (set b (at + k) x) (at + i) 0) e ∙ get_or-set_same b (at + k) x 0 (omega (arith, l.len)) ∙ ap (λ (i : ℕ). get_or s (from + i) 0) (sym e));
      below = λ p m. get_or-set_other b (at + k) p x 0 (λ e. omega arith) ∙ l.below p m;
      above = λ p m. get_or-set_other b (at + k) p x 0 (λ e. omega arith) ∙ l.above p (omega arith);
    }

-- what was laid behind a front
pub laid-front : (s a b : List ℕ) (from n at : ℕ) → from + n ≤ length s → at + n ≤ length a → Laid s from n a at b → take (at + n) b ≡ take at a ++ take n (drop from s)
laid-front s a b from n at h l w =
    let first : length (take at a) ≡ at = length-take-le at a (omega arith) in
    let second : length (take n (drop from s)) ≡ n = length_part n from s h in
    let long : length (take (at + n) b) ≡ at + n = length-take-le (at + n) b (omega (arith, w.len)) in
    ext_get_or 0 (take (at + n) b) (take at a ++ take n (drop from s)) (long ∙ sym (length-append (take at a) (take n (drop from s)) ∙ omega (arith, first, second)))
    (λ k q.
    let inside : k < at + n = omega (arith, long) in
    get_or-take (at + n) b k 0 inside ∙ below_or k at
    (λ o. w.below k o ∙ sym (get_or-append (take at a) (take n (drop from s)) 0 k (omega arith) ∙ get_or-take at a k 0 o))
    (λ o.
    let back : at + (k - at) ≡ k = omega arith in
    let back' : length (take at a) + (k - at) ≡ k = omega arith in
    ap (λ (i : ℕ). get_or b i 0) (sym back) ∙ w.inside (k - at) (omega arith)
    ∙ sym (ap (λ (i : ℕ). get_or (take at a ++ take n (drop from s)) i 0) (sym back') ∙ get_or-append-add (take at a) (take n (drop from s)) (k - at) 0
    ∙ get_or-take n (drop from s) (k - at) 0 (omega arith) ∙ get_or-drop from s (k - at) 0)))

-- what was laid over the front of a list
pub laid-over : (s a b : List ℕ) (n : ℕ) → n ≤ length s → n ≤ length a → Laid s 0 n a 0 b → b ≡ take n s ++ drop n a
laid-over s a b n h l w =
    let f : ℕ → ℕ = λ k. get_or s k 0 in
    written n f a b l w.len
    (λ k m. ap (λ (i : ℕ). get_or b i 0) (sym (zero-add k)) ∙ w.inside k m ∙ ap f (zero-add k))
    (λ p m. w.above p (omega arith))
    ∙ ap (λ (x : List ℕ). x ++ drop n a) (sym (list_of n f (take n s) (length-take-le n s h) (λ k m. get_or-take n s k 0 m)))
