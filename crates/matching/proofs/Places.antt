-- Lists by their places: what a list from a rule holds, and the loops that lay octets over a list and repeat its front.
use mathlib.Core.Path.{◌≡◌, refl, sym, ap, ◌∙◌}
use mathlib.Core.List.{List}
use Prim.Native.Nat.{ℕ, ◌+◌, ◌-◌, ◌%◌, ◌≤◌, ◌<◌}
use native.Mathlib.Nat.{mod-eq_of_lt, mod-eq-sub-mod}
use native.Mathlib.Omega.{arith}
use lib.ListN.{length, get_or, set, length-set}
use lib.Seq.{get_or-set_same, get_or-set_other}
use Rattle.bits.proofs.Ranges.{last_or}
use Rattle.matching.specs.Steps.Places.{Repeated}

-- ---- a front repeated

pub repeated_none : (n : ℕ) (a : List ℕ) → Repeated n n a a
repeated_none n a = record { len = refl; inside = λ k h. ap (λ (j : ℕ). get_or a j 0) (sym (mod-eq_of_lt h)); above = λ p h. refl }

pub repeated_more : (n k : ℕ) (a b : List ℕ) → 0 < n → n ≤ k → k < length a → Repeated n k a b
    → Repeated n (k + 1) a (set b k (get_or b (k - n) 0))
repeated_more n k a b some front h r =
    let x = get_or b (k - n) 0 in
    let here : x ≡ get_or a (k % n) 0 = r.inside (k - n) (omega arith) ∙ ap (λ (j : ℕ). get_or a j 0) (sym (mod-eq-sub-mod front)) in
    record {
      len = length-set b k x ∙ r.len;
      inside = λ j m.
          last_or j k (omega arith)
          (λ o. get_or-set_other b k j x 0 (λ e. omega arith) ∙ r.inside j o)
          (λ e. ap (λ (i : ℕ). get_or (set b k x) i 0) e ∙ get_or-set_same b k x 0 (omega (arith, r.len)) ∙ here ∙ ap (λ (i : ℕ). get_or a (i % n) 0) (sym e));
      above = λ p m. get_or-set_other b k p x 0 (λ e. omega arith) ∙ r.above p (omega arith);
    }
