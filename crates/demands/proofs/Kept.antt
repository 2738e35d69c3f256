-- What a shelf is after a record was put on it or removed: well formed, with that record or without it, and with every other record as it was.
use mathlib.Core.Path.{◌≡◌, refl, sym, ap, ap₂, ◌∙◌, subst}
use mathlib.Core.Bool.{Bool, true, false}
use mathlib.Core.List.{List, ◌∷◌, ◌++◌}
use mathlib.Core.Logic.{inl, inr, ⊎_elim}
use Prim.Native.Nat.{ℕ, ◌+◌, ◌*◌, ◌≤◌}
use native.Mathlib.Omega.{arith}
use lib.Dec.{ltb}
use lib.ListN.{length, length-append}
use borrow.Author.Tests.{leb-true, ltb-false}
use Rattle.bits.proofs.Ranges.{neither, either_way}
use Rattle.shelf.specs.Shelf.{count, tenant, offset_due, tenant_right, private_shelf}
use Rattle.shelf.specs.Lookup.{has, record_of}
use Rattle.shelf.specs.Isolation.{AgreeFor}
use Rattle.shelf.proofs.WellFormed.{Formed, formed-is}
use Rattle.keeping.specs.Entries.{Entry, entry_at, entries, below, before, after, entries_put, entries_left, shelf_put, shelf_left, records, shelf_of}
use Rattle.keeping.specs.Promises.{overfull}
use Rattle.demands.proofs.Placed.{Holds, shelf-holds, entries_hold}
use Rattle.keeping.proofs.Pairs.{Lower, below-lower, lower-below, In, in_from}
use Rattle.demands.proofs.Sorted.{lower-later, compared, Under, in_left, in_right, in_either, in_keep, keep_in, Sorted, sorted_keep, sorted_append, sorted_entries, keep_fewer}
use Rattle.keeping.proofs.Spelled.{length-shelf, records-append}
use Rattle.keeping.proofs.Stretches.{length_from, span}
use Rattle.demands.proofs.Found.{shelf-formed, Finds, has_in, in-has, in-record}

-- ---- the entries below a pair, and those above it

module _ (S : List ℕ) (t p : ℕ) where
  in-before : (e : Entry) → In e (entries S) → Lower e.owner e.number t p → In e (before S t p)
  unfolding before
  in-before e i l = in_keep (λ e. below e.owner e.number t p) e (entries S) (lower-below e.owner e.number t p l) i

  in_after : (e : Entry) → In e (entries S) → Lower t p e.owner e.number → In e (after S t p)
  unfolding after
  in_after e i l = in_keep (λ e. below t p e.owner e.number) e (entries S) (lower-below t p e.owner e.number l) i

  before-in : (e : Entry) → In e (before S t p) → Lower e.owner e.number t p × In e (entries S)
  unfolding before
  before-in e i =
      let r = keep_in (λ e. below e.owner e.number t p) e (entries S) i in
      (below-lower e.owner e.number t p r.0, r.1)

  after-in : (e : Entry) → In e (after S t p) → Lower t p e.owner e.number × In e (entries S)
  unfolding after
  after-in e i =
      let r = keep_in (λ e. below t p e.owner e.number) e (entries S) i in
      (below-lower t p e.owner e.number r.0, r.1)

  no-pair : (e : Entry) → In e (entries_left S t p) → e.owner ≡ t → e.number ≡ p → ⊥
  unfolding entries_left
  no-pair e i a b =
      ⊎_elim
      (λ l. omega (arith, (before-in e l).0.numbers a))
      (λ r. omega (arith, (after-in e r).0.numbers (sym a)))
      (in_either e (before S t p) (after S t p) i)

  module _ (formed : private_shelf S ≡ true) where
    f : Formed S true
    f = formed-is S true formed

    sorted : Sorted (entries S)
    sorted = sorted_entries S true f

    owned : (e : Entry) → In e (entries S) → 1 ≤ e.owner
    unfolding entries entry_at tenant_right
    owned e i =
        let at = in_from S (count S) 0 e i in
        let l = leb-true 1 (tenant S at.place) (f.entries at.place (omega (arith, at.most))).owner in
        let same : e.owner ≡ tenant S at.place = ap (λ (g : Entry). g.owner) at.there in
        omega arith

    sorted_before : Sorted (before S t p)
    unfolding before
    sorted_before = sorted_keep (λ e. below e.owner e.number t p) (entries S) sorted

    sorted_after : Sorted (after S t p)
    unfolding after
    sorted_after = sorted_keep (λ e. below t p e.owner e.number) (entries S) sorted

    apart : (e g : Entry) → In e (before S t p) → In g (after S t p) → Under e g
    apart e g i j = record { lower = lower-later (before-in e i).0 (after-in g j).0 }

    pub sorted-left : Sorted (entries_left S t p)
    unfolding entries_left
    sorted-left = sorted_append (before S t p) (after S t p) sorted_before sorted_after apart

    pub sorted-put : (R : List ℕ) → Sorted (entries_put S t p R)
    unfolding entries_put Sorted In
    sorted-put R =
        let new : Entry = record { owner = t; number = p; octets = R } in
        sorted_append (before S t p) (new ∷ after S t p) sorted_before ((λ g i. record { lower = (after-in g i).0 }), sorted_after)
        (λ e g i j. ⊎_elim (λ z. subst (λ (h : Entry). Under e h) (sym z) (record { lower = (before-in e i).0 })) (λ k. apart e g i k) j)

    owned-left : (e : Entry) → In e (entries_left S t p) → 1 ≤ e.owner
    unfolding entries_left
    owned-left e i = ⊎_elim (λ l. owned e (before-in e l).1) (λ r. owned e (after-in e r).1) (in_either e (before S t p) (after S t p) i)

    owned-put : 1 ≤ t → (R : List ℕ) (e : Entry) → In e (entries_put S t p R) → 1 ≤ e.owner
    unfolding entries_put In
    owned-put h R e i =
        ⊎_elim (λ l. owned e (before-in e l).1)
        (λ r. ⊎_elim (λ z. let same : e.owner ≡ t = ap (λ (g : Entry). g.owner) z in omega arith) (λ a. owned e (after-in e a).1) r)
        (in_either e (before S t p) (record { owner = t; number = p; octets = R } ∷ after S t p) i)

-- ---- every other pair

-- es has what the entries of S have of every other pair, and nothing else
record Others (S : List ℕ) (t p : ℕ) (es : List Entry) : Type 0 where
  from : (e : Entry) → In e es → (e.owner ≡ t → e.number ≡ p → ⊥) → In e (entries S)
  to : (e : Entry) → In e (entries S) → (e.owner ≡ t → e.number ≡ p → ⊥) → In e es

module _ (S : List ℕ) (t p : ℕ) where
  others-left : Others S t p (entries_left S t p)
  unfolding entries_left
  others-left =
      record {
        from = λ e i n. ⊎_elim (λ l. (before-in S t p e l).1) (λ r. (after-in S t p e r).1) (in_either e (before S t p) (after S t p) i);
        to = λ e i n.
            compared e.owner e.number t p
            (λ l. in_left e (before S t p) (after S t p) (in-before S t p e i l))
            (λ a b. absurd (n a b))
            (λ l. in_right e (before S t p) (after S t p) (in_after S t p e i l));
      }

  others_put : (R : List ℕ) → Others S t p (entries_put S t p R)
  unfolding entries_put In
  others_put R =
      let new : Entry = record { owner = t; number = p; octets = R } in
      record {
        from = λ e i n.
            ⊎_elim (λ l. (before-in S t p e l).1)
            (λ r. ⊎_elim (λ z. absurd (n (ap (λ (g : Entry). g.owner) z) (ap (λ (g : Entry). g.number) z))) (λ a. (after-in S t p e a).1) r)
            (in_either e (before S t p) (new ∷ after S t p) i);
        to = λ e i n.
            compared e.owner e.number t p
            (λ l. in_left e (before S t p) (new ∷ after S t p) (in-before S t p e i l))
            (λ a b. absurd (n a b))
            (λ l. in_right e (before S t p) (new ∷ after S t p) (inr (in_after S t p e i l)));
      }

-- both shelves have a record for t and p or neither has, and the same one
pub record AgreeOn (t p : ℕ) (S S' : List ℕ) : Type 0 where
  pub number : has S t p ≡ has S' t p
  pub octets : has S t p ≡ true → record_of S t p ≡ record_of S' t p

pub agree_for : (t : ℕ) (S S' : List ℕ) → ((p : ℕ) → AgreeOn t p S S') → AgreeFor t S S'
agree_for t S S' h = record { numbers = λ p. (h p).number; records = λ p e. (h p).octets e }

-- an entry of one list that is in the other is found on the other's shelf
module _ (S : List ℕ) (es : List Entry) (h : Holds S es) (formed : private_shelf S ≡ true) (t p : ℕ) where
  found-has : (R : List ℕ) (es' : List Entry) → (q : Finds es' t p R) → In q.entry es → has S t p ≡ true
  found-has R es' q i = ap₂ (has S) (sym q.owner) (sym q.number) ∙ in-has S es h formed q.entry i

  found-record : (R : List ℕ) (es' : List Entry) → (q : Finds es' t p R) → In q.entry es → R ≡ record_of S t p
  found-record R es' q i =
      q.octets ∙ sym (in-record S es h formed q.entry i) ∙ ap₂ (record_of S) q.owner q.number

module _ (S : List ℕ) (formed : private_shelf S ≡ true) (t p : ℕ) (es : List Entry) (others : Others S t p es) (new : private_shelf (shelf_of es) ≡ true) where
  others-agree : (t' p' : ℕ) → (t' ≡ t → p' ≡ p → ⊥) → AgreeOn t' p' S (shelf_of es)
  others-agree t' p' n =
      let mine = entries_hold S in
      let its = shelf-holds es in
      let there : (e : has S t' p' ≡ true) → In (has_in S (entries S) mine t' p' e).entry es =
      λ e. let q = has_in S (entries S) mine t' p' e in others.to q.entry q.inside (λ a b. n (sym q.owner ∙ a) (sym q.number ∙ b)) in
      let back : (e : has (shelf_of es) t' p' ≡ true) → In (has_in (shelf_of es) es its t' p' e).entry (entries S) =
      λ e. let q = has_in (shelf_of es) es its t' p' e in others.from q.entry q.inside (λ a b. n (sym q.owner ∙ a) (sym q.number ∙ b)) in
      record {
        number =
            either_way (has S t' p') (has (shelf_of es) t' p')
            (λ e. found-has (shelf_of es) es its new t' p' (record_of S t' p') (entries S) (has_in S (entries S) mine t' p' e) (there e))
            (λ e. found-has S (entries S) mine formed t' p' (record_of (shelf_of es) t' p') es (has_in (shelf_of es) es its t' p' e) (back e));
        octets = λ e. found-record (shelf_of es) es its new t' p' (record_of S t' p') (entries S) (has_in S (entries S) mine t' p' e) (there e);
      }

-- ---- a record put

module _ (S : List ℕ) (t p : ℕ) (R : List ℕ) (formed : private_shelf S ≡ true) (asked : 1 ≤ t) (room : overfull (entries_put S t p R) ≡ false) where
  pub put_formed : private_shelf (shelf_put S t p R) ≡ true
  unfolding overfull
  put_formed =
      let es = entries_put S t p R in
      let parts = neither (ltb 64 (length es)) (ltb 65535 (length (shelf_of es))) room in
      shelf-formed es (sorted-put S t p formed R)
      (ltb-false 64 (length es) parts.0) (ltb-false 65535 (length (shelf_of es)) parts.1) (owned-put S t p formed asked R)

  new_in : In (record { owner = t; number = p; octets = R }) (entries_put S t p R)
  unfolding entries_put In
  new_in =
      in_right (record { owner = t; number = p; octets = R }) (before S t p) (record { owner = t; number = p; octets = R } ∷ after S t p) (inl refl)

  pub put_has : has (shelf_put S t p R) t p ≡ true
  put_has = in-has (shelf_put S t p R) (entries_put S t p R) (shelf-holds (entries_put S t p R)) put_formed (record { owner = t; number = p; octets = R }) new_in

  pub put_record : record_of (shelf_put S t p R) t p ≡ R
  put_record = in-record (shelf_put S t p R) (entries_put S t p R) (shelf-holds (entries_put S t p R)) put_formed (record { owner = t; number = p; octets = R }) new_in

  pub put_others : (t' p' : ℕ) → (t' ≡ t → p' ≡ p → ⊥) → AgreeOn t' p' S (shelf_put S t p R)
  put_others = others-agree S formed t p (entries_put S t p R) (others_put S t p R) put_formed

-- ---- a record removed

-- the count, the heads and the records are all of a shelf
due_all : (S : List ℕ) (private : Bool) → Formed S private → 2 + 8 * count S + length (records (entries S)) ≡ length S
unfolding entries offset_due
due_all S private f =
    let all : offset_due S (0 + count S) ≡ offset_due S (count S) = ap (offset_due S) (let z : 0 + count S ≡ count S = omega arith in z) in
    omega (arith, span S private f (count S) 0 (omega arith), all, f.ends)

module _ (S : List ℕ) (t p : ℕ) (formed : private_shelf S ≡ true) where
  apart-both : (e : Entry) → below e.owner e.number t p ≡ true → below t p e.owner e.number ≡ true → ⊥
  apart-both e a b =
      let l = below-lower e.owner e.number t p a in
      let h = below-lower t p e.owner e.number b in
      let same : e.owner ≡ t = omega (arith, l.owners, h.owners) in
      omega (arith, l.numbers same, h.numbers (sym same))

  left-size : (length (entries_left S t p) ≤ 64) × (length (shelf_left S t p) ≤ length S)
  unfolding entries_left before after entries
  left-size =
      let f = formed-is S true formed in
      let n = count S in
      let few = keep_fewer (λ e. below e.owner e.number t p) (λ e. below t p e.owner e.number) apart-both (entries S) in
      let a = before S t p in
      let b = after S t p in
      let many : length (a ++ b) ≤ n = omega (arith, length-append a b, few.entries, length_from S n 0) in
      let all = due_all S true f in (
        omega (arith, many, f.sizes.few),
        omega (arith, many, length-shelf (a ++ b), ap length (records-append a b), length-append (records a) (records b), few.octets, all),
      )

  pub left-formed : private_shelf (shelf_left S t p) ≡ true
  left-formed =
      shelf-formed (entries_left S t p) (sorted-left S t p formed) left-size.0
      (omega (arith, left-size.1, (formed-is S true formed).sizes.short)) (owned-left S t p formed)

  pub left-none : has (shelf_left S t p) t p ≡ false
  left-none = by_value (has (shelf_left S t p) t p) refl
    where
      by_value : (b : Bool) → has (shelf_left S t p) t p ≡ b → b ≡ false
      by_value true e =
          let q = has_in (shelf_left S t p) (entries_left S t p) (shelf-holds (entries_left S t p)) t p e in
          absurd (no-pair S t p q.entry q.inside q.owner q.number)
      by_value false e = refl

  pub left-others : (t' p' : ℕ) → (t' ≡ t → p' ≡ p → ⊥) → AgreeOn t' p' S (shelf_left S t p)
  left-others = others-agree S formed t p (entries_left S t p) (others-left S t p) left-formed
