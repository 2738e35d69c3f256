-- Keeping a private shelf (issue 22): "the new shelf is well formed; the tenant then finds exactly what was put (or, removed, nothing of its own); and for EVERY
-- other tenant, and every other profile of this one, the old and the new shelf agree, so by isolation all its answers and bits stay the same." S is the old
-- shelf, and the new one is the front of the output, as many octets as the call counts.
use mathlib.Core.Path.{◌≡◌, refl, sym, ap, ◌∙◌, subst}
use mathlib.Core.Bool.{Bool, true, false, cond}
use mathlib.Core.List.{List, [], ◌∷◌, ◌++◌}
use Prim.Native.Nat.{ℕ, zero, suc, ◌≤◌}
use native.Mathlib.Omega.{arith}
use lib.ListN.{length, take, drop}
use lib.Seq.{take_at}
use borrow.Author.Tests.{eqb-false, not-false}
use Rattle.bits.specs.Bits.{number_at}
use Rattle.bits.specs.Numbers.{answered}
use Rattle.bits.specs.Ranges.{sum_below, all_below, any_below}
use Rattle.bits.specs.declared.number.Written.{Written}
use Rattle.bits.specs.declared.count.Terms.{Terms}
use Rattle.bits.proofs.Answers.{when-done}
use Rattle.checking.specs.Promises.{WordChecked}
use Rattle.checking.specs.declared.Verdict.{Verdict}
use Rattle.profile.specs.Record.{kb, m, x, kind, t, z, rows, columns, table_size, table, entry, kind_right, header_right, sizes_right, offsets_right, shift_right, table_right}
use Rattle.profile.specs.Staircase.{filled, filled_between, first_column, next_due, next_column, staircase, row_ends, extension_row, extended, staircases}
use Rattle.shelf.specs.Shelf.{count, tenant, profile, offset, size, record_at, rises, offset_due, chained, ends_right, tenant_right, well_formed, private_shelf, public_shelf}
use Rattle.shelf.specs.Lookup.{is_entry, has, record_of, lookup_number, lookup_record}
use Rattle.shelf.specs.Promises.{Hosted, HostedSent, HostedReceived, HostedChecked}
use Rattle.shelf.specs.Isolation.{AgreeFor}
use Rattle.shelf.proofs.Agreement.{hosted_send_agree, hosted_receive_agree, hosted_check_agree}
use Rattle.shelf.proofs.Finding.{own-has, public-has, neither-has}
use Rattle.shelf.proofs.Isolation.{same_record as isolated-record}
use Rattle.keeping.specs.Entries.{Entry, entry_at, entries_from, entries, two_octets, head, heads, records, shelf_of, below, keep, before, after, entries_put, entries_left, shelf_put, shelf_left}
use Rattle.keeping.specs.Promises.{Kept, overfull, put_number, RecordPut, remove_number, RecordRemoved}
use Rattle.demands.specs.Numbers.{NoneHolds}
use Rattle.demands.specs.Worked.{toy}
use Rattle.demands.proofs.Demand1.{put-number, remove-number}
use Rattle.demands.proofs.Demand2.{lookup_number_isolated, send-isolated, receive-isolated}
use Rattle.demands.proofs.Checkers.{check_isolated}
use Rattle.demands.proofs.Examples.{bent}
use Rattle.demands.proofs.Kept as kept
use Rattle.profile.specs.Record as profiles
use Rattle.demands.proofs.Kept.{AgreeOn, agree_for}

-- ---- "all its answers and bits stay the same"

-- whoever serves tenant u with profile q from S' finds, answers, writes and decides what was found, answered, written and decided from S, with all else equal
pub record Unchanged (u q : ℕ) (S S' : List ℕ) : Type 0 where
  pub looks : (public : List ℕ) {n n' : ℕ} → n ≡ lookup_number S public u q → n' ≡ lookup_number S' public u q → n ≡ n'
  pub finds : (public : List ℕ) → lookup_record S public u q ≡ lookup_record S' public u q
  pub sends : (public : List ℕ) {block : List ℕ} {terms : Terms} {g : ℕ} {out : List ℕ} {r r' : Written} {o o' : List ℕ}
      → HostedSent S public u q block terms g out r o → HostedSent S' public u q block terms g out r' o' → (r ≡ r') × (o ≡ o')
  pub receives : (public : List ℕ) {a : ℕ} {terms : Terms} {bits out : List ℕ} {r r' : Written} {o o' : List ℕ}
      → HostedReceived S public u q a terms bits out r o → HostedReceived S' public u q a terms bits out r' o' → (r ≡ r') × (o ≡ o')
  pub checks : (public : List ℕ) {z : ℕ} {word : List ℕ} {r r' : Verdict} → HostedChecked S public u q z word r → HostedChecked S' public u q z word r' → r ≡ r'

-- a tenant for whom the shelves agree, by isolation
isolated : (u q : ℕ) (S S' : List ℕ) → private_shelf S ≡ true → private_shelf S' ≡ true → AgreeFor u S S' → Unchanged u q S S'
isolated u q S S' formed formed' agree =
    record {
      looks = λ public a b. lookup_number_isolated formed formed' agree public q a b;
      finds = λ public. isolated-record (record { formed = formed ∙ sym formed'; agree = agree }) public q;
      sends = λ public a b. send-isolated formed formed' agree public q a b;
      receives = λ public a b. receive-isolated formed formed' agree public q a b;
      checks = λ public a b. check_isolated formed formed' agree public q a b;
    }

-- one pair on which they agree
module _ {u q : ℕ} {S S' : List ℕ} (formed : private_shelf S ≡ true) (formed' : private_shelf S' ≡ true) (agree : AgreeOn u q S S') (public : List ℕ) where
  same_number : lookup_number S public u q ≡ lookup_number S' public u q
  unfolding lookup_number
  same_number = rw (formed, formed', agree.number)

  same-own : cond (has S u q) (record_of S u q) (record_of public 0 q) ≡ cond (has S' u q) (record_of S' u q) (record_of public 0 q)
  same-own = by_value (has S u q) refl
    where
      by_value : (b : Bool) → has S u q ≡ b → cond b (record_of S u q) (record_of public 0 q) ≡ cond (has S' u q) (record_of S' u q) (record_of public 0 q)
      by_value true e = rw (← agree.number, e) (agree.octets e)
      by_value false e = rw (← agree.number, e)

  same_record : lookup_record S public u q ≡ lookup_record S' public u q
  unfolding lookup_record
  same_record = rw (same_number, same-own)

  over : {promised : List ℕ → Type 0} {out : List ℕ} {r : Written} {o : List ℕ} → Hosted S public u q promised out r o → Hosted S' public u q promised out r o
  over {promised} h =
      record {
        refused = λ n.
            let answer = h.refused (λ z. n (sym same_number ∙ z)) in
            (answer.0 ∙ ap (λ (k : ℕ). record { number = k; count = 0 }) same_number, answer.1);
        found = λ z. subst promised same_record (h.found (same_number ∙ z));
      }

  checks-over : {z : ℕ} {word : List ℕ} {r : Verdict} → HostedChecked S public u q z word r → HostedChecked S' public u q z word r
  checks-over {z} {word} {r} h =
      record {
        refused = λ n. h.refused (λ e. n (sym same_number ∙ e)) ∙ ap (λ (k : ℕ). record { number = k; checks = false }) same_number;
        found = λ e. subst (λ (R : List ℕ). WordChecked R z word r) same_record (h.found (same_number ∙ e));
      }

on-pair : (u q : ℕ) (S S' : List ℕ) → private_shelf S ≡ true → private_shelf S' ≡ true → AgreeOn u q S S' → Unchanged u q S S'
on-pair u q S S' formed formed' agree =
    record {
      looks = λ public a b. a ∙ same_number formed formed' agree public ∙ sym b;
      finds = λ public. same_record formed formed' agree public;
      sends = λ public a b. hosted_send_agree (over formed formed' agree public a) b;
      receives = λ public a b. hosted_receive_agree (over formed formed' agree public a) b;
      checks = λ public a b. hosted_check_agree (checks-over formed formed' agree public a) b;
    }

-- ---- the new shelf is what was written

written : (n : ℕ) (new out : List ℕ) (r : Written) (o : List ℕ) → Kept n new out r o → r.number ≡ 0 → take r.count o ≡ new
written n new out r o h done =
    let z : n ≡ 0 = sym h.number ∙ done in
    let c : r.count ≡ length new = h.count ∙ when-done n (length new) 0 z in
    let w : o ≡ new ++ drop (length new) out = h.output ∙ when-done n (new ++ drop (length new) out) out z in
    rw (c, w) (take_at new (drop (length new) out) (length new) refl)

-- ---- a record put

module _ (S : List ℕ) (t p : ℕ) (R : List ℕ) {out : List ℕ} {r : Written} {o : List ℕ} (h : RecordPut S t p R out r o) (done : r.number ≡ 0) where
  put-asked : (1 ≤ t) × (private_shelf S ≡ true) × (overfull (entries_put S t p R) ≡ false)
  unfolding NoneHolds
  put-asked =
      let none = (put-number S t p R h).only_done done in
      let zero = eqb-false t 0 none.0 in
      (omega arith, not-false (private_shelf S) none.1.0, none.1.1.1.1.0)

  put_written : take r.count o ≡ shelf_put S t p R
  put_written = written _ (shelf_put S t p R) out r o h done

  -- "the new shelf is well formed"
  pub put_formed : private_shelf (take r.count o) ≡ true
  put_formed = rw put_written (kept.put_formed S t p R put-asked.1 put-asked.0 put-asked.2)

  -- "the tenant then finds exactly what was put"
  pub put_has : has (take r.count o) t p ≡ true
  put_has = rw put_written (kept.put_has S t p R put-asked.1 put-asked.0 put-asked.2)

  pub put_record : record_of (take r.count o) t p ≡ R
  put_record = rw put_written (kept.put_record S t p R put-asked.1 put-asked.0 put-asked.2)

  pub put_lookup : (public : List ℕ) → public_shelf public ≡ true → (lookup_number (take r.count o) public t p ≡ 0) × (lookup_record (take r.count o) public t p ≡ R)
  unfolding lookup_record
  put_lookup public shared =
      let number = own-has (take r.count o) public t p put-asked.0 put_formed shared put_has in
      (number, rw (when-done {A = List ℕ} _ _ _ number, put_has) put_record)

  -- "every other profile of this one"
  pub put_others : (u q : ℕ) → (u ≡ t → q ≡ p → ⊥) → AgreeOn u q S (take r.count o)
  put_others u q other = rw put_written (kept.put_others S t p R put-asked.1 put-asked.0 put-asked.2 u q other)

  -- "for EVERY other tenant .. the old and the new shelf agree"
  pub put_agrees : (u : ℕ) → (u ≡ t → ⊥) → AgreeFor u S (take r.count o)
  put_agrees u other = agree_for u S (take r.count o) (λ q. put_others u q (λ e f. other e))

  pub put_isolated : (u : ℕ) → (u ≡ t → ⊥) → (q : ℕ) → Unchanged u q S (take r.count o)
  put_isolated u other q = isolated u q S (take r.count o) put-asked.1 put_formed (put_agrees u other)

  pub put_unchanged : (q : ℕ) → (q ≡ p → ⊥) → Unchanged t q S (take r.count o)
  put_unchanged q other = on-pair t q S (take r.count o) put-asked.1 put_formed (put_others t q (λ e f. other f))

-- ---- a record removed

module _ (S : List ℕ) (t p : ℕ) {out : List ℕ} {r : Written} {o : List ℕ} (h : RecordRemoved S t p out r o) (done : r.number ≡ 0) where
  remove-asked : (1 ≤ t) × (private_shelf S ≡ true)
  unfolding NoneHolds
  remove-asked =
      let none = (remove-number S t p h).only_done done in
      let zero = eqb-false t 0 none.0 in
      (omega arith, not-false (private_shelf S) none.1.0)

  remove-written : take r.count o ≡ shelf_left S t p
  remove-written = written _ (shelf_left S t p) out r o h done

  pub remove_formed : private_shelf (take r.count o) ≡ true
  remove_formed = rw remove-written (kept.left-formed S t p remove-asked.1)

  -- "removed, nothing of its own": the public record of that number, or 4
  pub remove_has : has (take r.count o) t p ≡ false
  remove_has = rw remove-written (kept.left-none S t p remove-asked.1)

  pub remove_lookup : (public : List ℕ) → public_shelf public ≡ true → has public 0 p ≡ true
      → (lookup_number (take r.count o) public t p ≡ 0) × (lookup_record (take r.count o) public t p ≡ record_of public 0 p)
  unfolding lookup_record
  remove_lookup public shared some =
      let number = public-has (take r.count o) public t p remove-asked.0 remove_formed shared remove_has some in
      (number, rw (when-done {A = List ℕ} _ _ _ number, remove_has))

  pub remove_none : (public : List ℕ) → public_shelf public ≡ true → has public 0 p ≡ false → lookup_number (take r.count o) public t p ≡ 4
  remove_none public shared none = neither-has (take r.count o) public t p remove-asked.0 remove_formed shared remove_has none

  pub remove_others : (u q : ℕ) → (u ≡ t → q ≡ p → ⊥) → AgreeOn u q S (take r.count o)
  remove_others u q other = rw remove-written (kept.left-others S t p remove-asked.1 u q other)

  pub remove_agrees : (u : ℕ) → (u ≡ t → ⊥) → AgreeFor u S (take r.count o)
  remove_agrees u other = agree_for u S (take r.count o) (λ q. remove_others u q (λ e f. other e))

  pub remove_isolated : (u : ℕ) → (u ≡ t → ⊥) → (q : ℕ) → Unchanged u q S (take r.count o)
  remove_isolated u other q = isolated u q S (take r.count o) remove-asked.1 remove_formed (remove_agrees u other)

  pub remove_unchanged : (q : ℕ) → (q ≡ p → ⊥) → Unchanged t q S (take r.count o)
  remove_unchanged q other = on-pair t q S (take r.count o) remove-asked.1 remove_formed (remove_others t q (λ e f. other f))

-- ---- no statement is empty: a shelf on which tenant 1 has number 7, the octets 5 and 6, and tenant 2 has number 9, the octet 4

unfoldable pub two : List ℕ
two = 0 ∷ 2 ∷ 0 ∷ 1 ∷ 0 ∷ 7 ∷ 0 ∷ 18 ∷ 0 ∷ 2 ∷ 0 ∷ 2 ∷ 0 ∷ 9 ∷ 0 ∷ 20 ∷ 0 ∷ 1 ∷ 5 ∷ 6 ∷ 4 ∷ []

-- the record of tenant 1 replaced by the toy record, which has 26 octets: that of tenant 2 is found further on
pub worked_replaced : shelf_put two 1 7 toy ≡ 0 ∷ 2 ∷ 0 ∷ 1 ∷ 0 ∷ 7 ∷ 0 ∷ 18 ∷ 0 ∷ 26 ∷ 0 ∷ 2 ∷ 0 ∷ 9 ∷ 0 ∷ 44 ∷ 0 ∷ 1 ∷ (toy ++ (4 ∷ []))
unfolding two toy entries_put before after keep below entries entries_from entry_at shelf_of heads head two_octets records record_at count tenant profile offset size number_at
worked_replaced = refl

-- a record of tenant 1 between the two
pub worked-new : shelf_put two 1 8 toy
    ≡ 0 ∷ 3 ∷ 0 ∷ 1 ∷ 0 ∷ 7 ∷ 0 ∷ 26 ∷ 0 ∷ 2 ∷ 0 ∷ 1 ∷ 0 ∷ 8 ∷ 0 ∷ 28 ∷ 0 ∷ 26 ∷ 0 ∷ 2 ∷ 0 ∷ 9 ∷ 0 ∷ 54 ∷ 0 ∷ 1 ∷ 5 ∷ 6 ∷ (toy ++ (4 ∷ []))
unfolding two toy entries_put before after keep below entries entries_from entry_at shelf_of heads head two_octets records record_at count tenant profile offset size number_at
worked-new = refl

-- the record of tenant 2 removed
pub worked_removed : shelf_left two 2 9 ≡ 0 ∷ 1 ∷ 0 ∷ 1 ∷ 0 ∷ 7 ∷ 0 ∷ 10 ∷ 0 ∷ 2 ∷ 5 ∷ 6 ∷ []
unfolding two entries_left before after keep below entries entries_from entry_at shelf_of heads head two_octets records record_at count tenant profile offset size number_at
worked_removed = refl

-- 64 empty records of tenant 1: no entry is free, and one may be replaced
unfoldable pub crowd : ℕ → ℕ → List Entry
crowd zero k = []
crowd (suc n) k = record { owner = 1; number = k; octets = [] } ∷ crowd n (suc k)

-- 1, 2, 5, 6, 26, 11 and 0 of putting
pub worked_puts : ◌≡◌ {A = List ℕ}
    (put_number two 0 7 toy 45
    ∷ put_number [] 1 7 toy 45
    ∷ put_number two 1 7 [] 45
    ∷ put_number two 1 7 bent 45
    ∷ put_number (shelf_of (crowd 64 0)) 1 64 toy 0
    ∷ put_number two 1 7 toy 44
    ∷ put_number two 1 7 toy 45
    ∷ put_number (shelf_of (crowd 64 0)) 1 63 toy 540
    ∷ [])
    (1 ∷ 2 ∷ 5 ∷ 6 ∷ 26 ∷ 11 ∷ 0 ∷ 0 ∷ [])
unfolding crowd two toy bent put_number answered overfull entries_put before after keep below entries entries_from entry_at shelf_of heads head two_octets records record_at count tenant profile offset size number_at
    all_below any_below sum_below rises offset_due chained ends_right tenant_right well_formed kb m x kind t z rows columns table_size table entry kind_right header_right sizes_right offsets_right shift_right table_right filled filled_between
    first_column next_due next_column staircase row_ends extension_row extended staircases profiles.offset profiles.rises profiles.offset_due profiles.ends_right profiles.well_formed
worked_puts = refl

-- 1, 2, 4, 11 and 0 of removing
pub worked_removals : ◌≡◌ {A = List ℕ}
    (remove_number two 0 9 12 ∷ remove_number [] 2 9 12 ∷ remove_number two 1 9 12 ∷ remove_number two 2 9 11 ∷ remove_number two 2 9 12 ∷ []) (1 ∷ 2 ∷ 4 ∷ 11 ∷ 0 ∷ [])
unfolding two remove_number answered has is_entry entries_left before after keep below entries entries_from entry_at shelf_of heads head two_octets records record_at count tenant profile offset size number_at
    all_below any_below rises offset_due chained ends_right tenant_right well_formed
worked_removals = refl
