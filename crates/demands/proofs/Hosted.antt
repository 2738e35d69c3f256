-- What the first demand says of a hosted call, from what it says of the call on the record that was found: once for all hosted calls.
use mathlib.Core.Path.{◌≡◌, sym, ap, ◌∙◌}
use mathlib.Core.Bool.{Bool}
use mathlib.Core.List.{List, [], ◌++◌}
use Prim.Native.Nat.{ℕ}
use native.Mathlib.Omega.{arith}
use Rattle.bits.specs.Bits.{number_at}
use Rattle.bits.specs.Numbers.{answered}
use Rattle.bits.specs.declared.number.Written.{Written}
use Rattle.bits.proofs.Answers.{Refusals, first_part, last_part, when_refused}
use Rattle.bits.proofs.Ranges.{equal_or}
use Rattle.profile.specs.Record.{kb, header_right, well_formed}
use Rattle.cutting.specs.Promises.{plan_number}
use Rattle.shelf.specs.Lookup.{lookup_conditions, lookup_number, lookup_record}
use Rattle.shelf.specs.Promises.{Hosted}
use Rattle.demands.specs.Numbers.{Answers}
use Rattle.demands.specs.Outputs.{Confined, Alike}
use Rattle.demands.proofs.Order.{answers}
use Rattle.demands.proofs.Outputs.{untouched}

-- nothing is no profile record
none-planned : (ed octets : ℕ) → plan_number [] ed octets ≡ 0 → ⊥
unfolding plan_number answered well_formed header_right kb number_at
none-planned ed octets e = omega arith

-- a lookup that refuses gives nothing, so an accepted profile was looked up
pub planned-found : (private public : List ℕ) (t p ed octets : ℕ) → plan_number (lookup_record private public t p) ed octets ≡ 0 → lookup_number private public t p ≡ 0
unfolding lookup_record
planned-found private public t p ed octets e =
    equal_or (lookup_number private public t p) 0 (λ z. z)
    (λ n. absurd (none-planned ed octets (ap (λ (l : List ℕ). plan_number l ed octets) (sym (when_refused (lookup_number private public t p) _ [] n)) ∙ e)))

-- lookup's number where it refuses, and else that of the call on the record: lookup's numbers, and then the call's
pub looked_answers : (private public : List ℕ) (t p : ℕ) (last : List (ℕ × Bool)) → Refusals (lookup_conditions private public t p ++ last) → {number : ℕ}
    → (lookup_number private public t p ≡ 0 → number ≡ answered last)
    → ((lookup_number private public t p ≡ 0 → ⊥) → number ≡ lookup_number private public t p)
    → Answers number (lookup_conditions private public t p ++ last)
unfolding lookup_number Refusals
looked_answers private public t p last some found refused =
    let first = lookup_conditions private public t p in
    answers (first ++ last) some
    (equal_or (answered first) 0 (λ z. found z ∙ sym (last_part first last tt z)) (λ n. refused n ∙ sym (first_part first last n)))

module _ {private public : List ℕ} {t p : ℕ} {promised : List ℕ → Type 0} {out : List ℕ} {r : Written} {o : List ℕ}
    (h : Hosted private public t p promised out r o) where
  pub hosted-answers : (last : List (ℕ × Bool)) → Refusals (lookup_conditions private public t p ++ last)
      → (promised (lookup_record private public t p) → r.number ≡ answered last) → Answers r.number (lookup_conditions private public t p ++ last)
  hosted-answers last some is =
      looked_answers private public t p last some (λ z. is (h.found z)) (λ n. ap (λ (w : Written). w.number) (h.refused n).0)

  pub hosted-confined : (promised (lookup_record private public t p) → Confined out r o) → Confined out r o
  hosted-confined confined =
      equal_or (lookup_number private public t p) 0
      (λ z. confined (h.found z))
      (λ n. untouched (ap (λ (w : Written). w.count) (h.refused n).0) (h.refused n).1)

  pub hosted-alike : {promised' : List ℕ → Type 0} {other : List ℕ} {s : Written} {u : List ℕ} → Hosted private public t p promised' other s u
      → (promised (lookup_record private public t p) → promised' (lookup_record private public t p) → Alike r o s u) → Alike r o s u
  hosted-alike {s = s} {u = u} k alike =
      equal_or (lookup_number private public t p) 0
      (λ z. alike (h.found z) (k.found z))
      (λ n.
      let c : r.count ≡ 0 = ap (λ (w : Written). w.count) (h.refused n).0 in
      let d : s.count ≡ 0 = ap (λ (w : Written). w.count) (k.refused n).0 in
      record { answer = (h.refused n).0 ∙ sym (k.refused n).0; octets = rw (c, d) })
