-- Isolation of the tenants (demand 2), over the promises of the calls.
use mathlib.Core.Path.{◌≡◌, refl, sym, ap, ◌∙◌, subst}
use mathlib.Core.Bool.{Bool, true, false, cond, not, ◌||◌}
use mathlib.Core.List.{List}
use mathlib.Core.Logic.{◌⊎◌, inl, inr}
use Prim.Native.Nat.{ℕ, ◌<◌}
use native.Mathlib.Omega.{arith}
use lib.Dec.{eqb}
use borrow.Author.Tests.{eqb-true, eq-eqb, not-false}
use Rattle.bits.specs.declared.number.Written.{Written}
use Rattle.bits.proofs.Answers.{passed, when-done}
use Rattle.bits.proofs.Ranges.{both, First, first_some, none_any}
use Rattle.checking.specs.Promises.{WordChecked}
use Rattle.checking.specs.declared.Verdict.{Verdict}
use Rattle.shelf.specs.Shelf.{count, tenant, profile, private_shelf, public_shelf}
use Rattle.shelf.specs.Lookup.{is_entry, has, entry_of, record_of, lookup_number, lookup_record, lookup_place}
use Rattle.shelf.specs.Promises.{Hosted, HostedChecked}
use Rattle.shelf.specs.Isolation.{Own, Public, AlikeFor}

-- ---- "Two well-formed private shelves that agree on that tenant's records give it the same answers and bits, with all else equal."

module _ {t : ℕ} {S S' : List ℕ} (alike : AlikeFor t S S') (public : List ℕ) (p : ℕ) where
  pub same_number : lookup_number S public t p ≡ lookup_number S' public t p
  unfolding lookup_number
  same_number = rw (alike.formed, alike.agree.numbers p)

  same-own : cond (has S t p) (record_of S t p) (record_of public 0 p) ≡ cond (has S' t p) (record_of S' t p) (record_of public 0 p)
  same-own = by_value (has S t p) refl
    where
      by_value : (b : Bool) → has S t p ≡ b → cond b (record_of S t p) (record_of public 0 p) ≡ cond (has S' t p) (record_of S' t p) (record_of public 0 p)
      by_value true e = rw (← alike.agree.numbers p, e) (alike.agree.records p e)
      by_value false e = rw (← alike.agree.numbers p, e)

  pub same_record : lookup_record S public t p ≡ lookup_record S' public t p
  unfolding lookup_record
  same_record = rw (same_number, same-own)

  -- the place too, where the tenant has no record of that number of its own
  pub same_place : has S t p ≡ false → (q q' r : ℕ × ℕ) → lookup_place S public t p q r ≡ lookup_place S' public t p q' r
  unfolding lookup_place
  same_place none q q' r = rw (same_number, ← alike.agree.numbers p, none)

  -- whatever meets a hosted call's promise over the one shelf meets it over the other
  pub same_promise : {promised : List ℕ → Type 0} {out : List ℕ} {r : Written} {o : List ℕ}
      → Hosted S public t p promised out r o → Hosted S' public t p promised out r o
  same_promise {promised} h =
      record {
        refused = λ n.
            let kept = h.refused (λ z. n (sym same_number ∙ z)) in
            (kept.0 ∙ ap (λ (k : ℕ). record { number = k; count = 0 }) same_number, kept.1);
        found = λ z. subst promised same_record (h.found (same_number ∙ z));
      }

  pub same_check : {z' : ℕ} {word : List ℕ} {r : Verdict} → HostedChecked S public t p z' word r → HostedChecked S' public t p z' word r
  same_check {z'} {word} {r} h =
      record {
        refused = λ n. h.refused (λ z. n (sym same_number ∙ z)) ∙ ap (λ (k : ℕ). record { number = k; checks = false }) same_number;
        found = λ z. subst (λ (R : List ℕ). WordChecked R z' word r) same_record (h.found (same_number ∙ z));
      }

-- ---- "A tenant is served from its own private records or the public shelf."

entry_is : (S : List ℕ) (t p k : ℕ) → is_entry S t p k ≡ true → (tenant S k ≡ t) × (profile S k ≡ p)
unfolding is_entry
entry_is S t p k e =
    let parts = both (eqb (tenant S k) t) (eqb (profile S k) p) e in
    (eqb-true (tenant S k) t parts.0, eqb-true (profile S k) p parts.1)

is-entry : (S : List ℕ) (t p k : ℕ) → tenant S k ≡ t → profile S k ≡ p → is_entry S t p k ≡ true
unfolding is_entry
is-entry S t p k a b = rw (eq-eqb (tenant S k) t a, eq-eqb (profile S k) p b)

found : (S : List ℕ) (t p : ℕ) → has S t p ≡ true → First (count S) (is_entry S t p) (entry_of S t p)
unfolding has entry_of
found S t p e = first_some (count S) (is_entry S t p) e

no-entry : (S : List ℕ) (t p : ℕ) → has S t p ≡ false → (k : ℕ) → k < count S → tenant S k ≡ t → profile S k ≡ p → ⊥
unfolding has
no-entry S t p e k l a b =
    let z : ◌≡◌ {A = Bool} true false = sym (is-entry S t p k a b) ∙ none_any (count S) (is_entry S t p) e k l in
    let y : ◌≡◌ {A = ℕ} 0 1 = cc in
    omega arith

-- where the record is the public one, the private shelf has none
pub public-none : {private public : List ℕ} {t p : ℕ} {R : List ℕ} → Public private public t p R → has private t p ≡ false
public-none {private} {t = t} {p = p} h = by_value (has private t p) refl
  where
    by_value : (b : Bool) → has private t p ≡ b → b ≡ false
    by_value false e = refl
    by_value true e =
        let f = found private t p e in
        let is = entry_is private t p (entry_of private t p) f.holds in
        absurd (h.none (entry_of private t p) f.below is.0 is.1)

some-has : (private public : List ℕ) (t p : ℕ) → lookup_number private public t p ≡ 0 → (has private t p || has public 0 p) ≡ true
unfolding lookup_number
some-has private public t p z =
    let one = (passed 1 _ (eqb t 0) (omega arith) z).1 in
    let two = (passed 2 _ (not (private_shelf private)) (omega arith) one).1 in
    let three = (passed 3 _ (not (public_shelf public)) (omega arith) two).1 in
    not-false (has private t p || has public 0 p) (passed 4 _ (not (has private t p || has public 0 p)) (omega arith) three).0

pub served : (private public : List ℕ) (t p : ℕ) → lookup_number private public t p ≡ 0
    → Own private t p (lookup_record private public t p) ⊎ Public private public t p (lookup_record private public t p)
unfolding lookup_record record_of
served private public t p z = by_value (has private t p) refl
  where
    by_value : (b : Bool) → has private t p ≡ b → Own private t p (lookup_record private public t p) ⊎ Public private public t p (lookup_record private public t p)
    by_value true e =
        let f = found private t p e in
        let is = entry_is private t p (entry_of private t p) f.holds in
        inl (record {
          entry = entry_of private t p;
          below = f.below;
          owner = is.0;
          number = is.1;
          octets = rw (when-done {A = List ℕ} _ _ _ z, e);
        })
    by_value false e =
        let here : has public 0 p ≡ true = rw e at (some-has private public t p z) in
        let f = found public 0 p here in
        let is = entry_is public 0 p (entry_of public 0 p) f.holds in
        inr (record {
          none = no-entry private t p e;
          entry = entry_of public 0 p;
          below = f.below;
          owner = is.0;
          number = is.1;
          octets = rw (when-done {A = List ℕ} _ _ _ z, e);
        })
