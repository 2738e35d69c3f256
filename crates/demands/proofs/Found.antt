-- Entries that rise give a well-formed shelf, and on a well-formed shelf a tenant finds the record of its entry.
use mathlib.Core.Path.{◌≡◌, refl, sym, ap, ◌∙◌}
use mathlib.Core.Bool.{true}
use mathlib.Core.List.{List}
use Prim.Native.Nat.{ℕ, zero, suc, ◌≤◌, ◌<◌}
use native.Mathlib.Omega.{arith}
use lib.Dec.{eqb}
use lib.ListN.{length}
use borrow.Author.Tests.{eqb-true, le-leb, eq-eqb}
use Rattle.bits.proofs.Ranges.{both, any_of, first_some}
use Rattle.shelf.specs.Shelf.{count, tenant, profile, record_at, rises, tenant_right, private_shelf}
use Rattle.shelf.specs.Lookup.{is_entry, has, entry_of, record_of}
use Rattle.shelf.proofs.WellFormed.{is-formed, one_entry}
use Rattle.keeping.specs.Entries.{Entry, below, shelf_of}
use Rattle.keeping.proofs.Spelled.{length-shelf}
use Rattle.demands.proofs.Placed.{at, Holds, shelf-holds, chain_at, ends_at}
use Rattle.keeping.proofs.Pairs.{lower-below, In}
use Rattle.demands.proofs.Sorted.{at_in, At, in_at, Sorted, sorted_next}

-- ---- "Pairs (tenant, profile number) strictly rise", "Every tenant is .. 1 or more in a private one"

module _ (es : List Entry) (sorted : Sorted es) where
  rising : (k : ℕ) → k < length es → rises (shelf_of es) k ≡ true
  unfolding rises below
  rising zero l = refl
  rising (suc k) l =
      let h = shelf-holds es in
      let one = h.owner k (omega arith) in
      let two = h.number k (omega arith) in
      let three = h.owner (suc k) l in
      let four = h.number (suc k) l in
      rw (one, two, three, four)
      (lower-below (at es k).owner (at es k).number (at es (suc k)).owner (at es (suc k)).number (sorted_next es k sorted l).lower)

  pub shelf-formed : length es ≤ 64 → length (shelf_of es) ≤ 65535 → ((e : Entry) → In e es → 1 ≤ e.owner) → private_shelf (shelf_of es) ≡ true
  unfolding tenant_right
  shelf-formed few short owners =
      let h = shelf-holds es in
      let many = h.many in
      is-formed (shelf_of es) true
      (record {
        sizes = record { short = short; few = omega arith; room = omega (arith, length-shelf es) };
        entries = λ k l.
            let m : k < length es = omega arith in
            record {
              owner = le-leb 1 (tenant (shelf_of es) k) (omega (arith, h.owner k m, owners (at es k) (at_in es k m)));
              rising = rising k m;
              chain = chain_at es k m;
            };
        ends = ends_at es ∙ ap (Rattle.shelf.specs.Shelf.offset_due (shelf_of es)) (sym many);
      })

-- ---- what a tenant finds

pub record Finds (es : List Entry) (t p : ℕ) (R : List ℕ) : Type 0 where
  pub entry : Entry
  pub inside : In entry es
  pub owner : entry.owner ≡ t
  pub number : entry.number ≡ p
  pub octets : R ≡ entry.octets

module _ (S : List ℕ) (es : List Entry) (h : Holds S es) where
  pub has_in : (t p : ℕ) → has S t p ≡ true → Finds es t p (record_of S t p)
  unfolding has entry_of record_of is_entry
  has_in t p e =
      let f = first_some (count S) (is_entry S t p) e in
      let k = entry_of S t p in
      let m : k < length es = omega (arith, f.below, h.many) in
      let parts = both (eqb (tenant S k) t) (eqb (profile S k) p) f.holds in
      record {
        entry = at es k;
        inside = at_in es k m;
        owner = sym (h.owner k m) ∙ eqb-true (tenant S k) t parts.0;
        number = sym (h.number k m) ∙ eqb-true (profile S k) p parts.1;
        octets = h.octets k m;
      }

  module _ (formed : private_shelf S ≡ true) (e : Entry) (i : In e es) where
    here : At es e
    here = in_at es e i

    abbrev k : ℕ
    k = here.place

    low : k < count S
    low = omega (arith, here.inside, h.many)

    owner_here : tenant S k ≡ e.owner
    owner_here = h.owner k here.inside ∙ ap (λ (f : Entry). f.owner) here.there

    number-here : profile S k ≡ e.number
    number-here = h.number k here.inside ∙ ap (λ (f : Entry). f.number) here.there

    is-here : is_entry S e.owner e.number k ≡ true
    unfolding is_entry
    is-here = rw (eq-eqb (tenant S k) e.owner owner_here, eq-eqb (profile S k) e.number number-here)

    pub in-has : has S e.owner e.number ≡ true
    unfolding has
    in-has = any_of (count S) (is_entry S e.owner e.number) k low is-here

    pub in-record : record_of S e.owner e.number ≡ e.octets
    unfolding has entry_of record_of is_entry
    in-record =
        let t = e.owner in
        let p = e.number in
        let f = first_some (count S) (is_entry S t p) in-has in
        let j = entry_of S t p in
        let parts = both (eqb (tenant S j) t) (eqb (profile S j) p) f.holds in
        let same : j ≡ k =
        one_entry S true formed j k f.below low
        (eqb-true (tenant S j) t parts.0 ∙ sym owner_here) (eqb-true (profile S j) p parts.1 ∙ sym number-here) in
        ap (record_at S) same ∙ h.octets k here.inside ∙ ap (λ (f : Entry). f.octets) here.there
