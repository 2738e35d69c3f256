-- A hosted call by its two ways: the lookup refuses, or the record was found and the coding part answers on it.
use mathlib.Core.Path.{◌≡◌, refl, sym, ap, ◌∙◌, subst}
use mathlib.Core.Bool.{Bool, true, false}
use mathlib.Core.List.{List, [], ◌∷◌}
use mathlib.Core.Logic.{◌⊎◌, ⊎_elim}
use Prim.Native.Nat.{ℕ, ◌≤◌, ◌<◌}
use native.Mathlib.Omega.{arith}
use Rattle.bits.specs.Numbers.{answered}
use Rattle.bits.specs.declared.number.Written.{Written}
use Rattle.bits.proofs.Ranges.{equal_or}
use Rattle.checking.specs.Promises.{WordChecked}
use Rattle.checking.specs.declared.Verdict.{Verdict}
use Rattle.shelf.specs.Lookup.{lookup_number, lookup_record}
use Rattle.shelf.specs.Promises.{Hosted, HostedChecked}

module _ (private public : List ℕ) (t p : ℕ) (promised : List ℕ → Type 0) where
  -- the lookup refuses with n
  pub hosted-refused : (out : List ℕ) (n : ℕ) → n ≡ lookup_number private public t p → (n ≡ 0 → ⊥)
      → Hosted private public t p promised out (record { number = n; count = 0 }) out
  hosted-refused out n e h =
      record { refused = λ h. (ap (λ (k : ℕ). record { number = k; count = 0 }) e, refl); found = λ z. absurd (h (e ∙ z)) }

  -- it does not, and R is the record
  pub hosted-found : (out : List ℕ) (r : Written) (out' : List ℕ) → lookup_number private public t p ≡ 0
      → (R : List ℕ) → R ≡ lookup_record private public t p → promised R → Hosted private public t p promised out r out'
  hosted-found out r out' z R e s = record { refused = λ n. absurd (n z); found = λ y. subst promised e s }

-- a check by its two ways
module _ (private public : List ℕ) (t p z' : ℕ) (word : List ℕ) where
  pub check_refused : (n : ℕ) → n ≡ lookup_number private public t p → (n ≡ 0 → ⊥)
      → HostedChecked private public t p z' word (record { number = n; checks = false })
  check_refused n e h =
      record { refused = λ m. ap (λ (k : ℕ). record { number = k; checks = false }) e; found = λ z. absurd (h (e ∙ z)) }

  pub check_found : (r : Verdict) → lookup_number private public t p ≡ 0 → (R : List ℕ) → R ≡ lookup_record private public t p
      → WordChecked R z' word r → HostedChecked private public t p z' word r
  check_found r z R e c = record { refused = λ n. absurd (n z); found = λ y. subst (λ (X : List ℕ). WordChecked X z' word r) e c }

four : (a b c d : Bool) → answered ((1, a) ∷ (2, b) ∷ (3, c) ∷ (4, d) ∷ []) ≤ 4
unfolding answered
four true b c d = omega arith
four false true c d = omega arith
four false false true d = omega arith
four false false false true = omega arith
four false false false false = omega arith

four_at_most : (private public : List ℕ) (t p : ℕ) → lookup_number private public t p ≤ 4
unfolding lookup_number
four_at_most private public t p = four _ _ _ _

-- 1 to 4 are lookup's numbers: a call that answers them where the lookup refuses has found the record with any other
pub found_with : (private public : List ℕ) (t p number : ℕ) → ((lookup_number private public t p ≡ 0 → ⊥) → number ≡ lookup_number private public t p)
    → (number ≡ 0) ⊎ (4 < number) → lookup_number private public t p ≡ 0
found_with private public t p number refused s =
    equal_or (lookup_number private public t p) 0 (λ z. z)
    (λ n. absurd (⊎_elim (λ z. n (sym (refused n) ∙ z)) (λ l. omega (arith, refused n, four_at_most private public t p)) s))

module _ {private public : List ℕ} {t p : ℕ} {promised : List ℕ → Type 0} {out : List ℕ} {r : Written} {out' : List ℕ}
    (h : Hosted private public t p promised out r out') where
  pub looked_up : (r.number ≡ 0) ⊎ (4 < r.number) → lookup_number private public t p ≡ 0
  looked_up s = found_with private public t p r.number (λ n. ap (λ (w : Written). w.number) (h.refused n).0) s

  pub hosted_promised : (r.number ≡ 0) ⊎ (4 < r.number) → promised (lookup_record private public t p)
  hosted_promised s = h.found (looked_up s)
