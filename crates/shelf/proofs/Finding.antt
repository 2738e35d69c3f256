-- What a search says of the entry, and a lookup inside of the record.
use mathlib.Core.Path.{◌≡◌, refl, sym, ap, ◌∙◌}
use mathlib.Core.Bool.{Bool, true, false, ◌&&◌}
use mathlib.Core.List.{List, []}
use mathlib.Core.Logic.{⊎_elim}
use Prim.Native.Nat.{ℕ, ◌+◌, ◌*◌, ◌≤◌, ◌<◌}
use native.Mathlib.Nat.{zero-add, eq-or-lt_of_le}
use native.Mathlib.Omega.{arith}
use lib.Dec.{eqb, ltb}
use lib.ListN.{length}
use borrow.Author.Tests.{eqb-true, lt-ltb, le-ltb, eq-eqb, ne_eqb}
use Rattle.bits.specs.Bits.{AreOctets}
use Rattle.bits.specs.Numbers.{answered}
use Rattle.bits.proofs.Answers.{when-done, when_refused}
use Rattle.bits.proofs.Ranges.{below_or, both, either_way, any_none, first_some, first-none, first-is}
use Rattle.shelf.specs.Shelf.{count, tenant, profile, record_at, well_formed, private_shelf, public_shelf}
use Rattle.shelf.specs.Lookup.{is_entry, has, entry_of, record_of, lookup_number, lookup_record, into, lookup_place}
use Rattle.shelf.specs.Steps.Walking.{pair, PairsRise}
use Rattle.shelf.specs.Steps.Finding.{Parted, entry_found, stretch_of, place_of, Located}
use Rattle.shelf.proofs.WellFormed.{Formed, formed-is, pairs-rise, record_within, profile-small}

-- ---- where the pairs part is the entry, or there is none

module _ (S : List ℕ) (octets : AreOctets S) (t p : ℕ) (short : p < 65536) where
  asked_is : (k : ℕ) → is_entry S t p k ≡ eqb (pair S k) (t * 65536 + p)
  unfolding is_entry pair
  asked_is k =
      let small = profile-small S octets k in
      either_way (eqb (tenant S k) t && eqb (profile S k) p) (eqb (pair S k) (t * 65536 + p))
      (λ e.
      let parts = both (eqb (tenant S k) t) (eqb (profile S k) p) e in
      eq-eqb (pair S k) (t * 65536 + p) (omega (arith, eqb-true (tenant S k) t parts.0, eqb-true (profile S k) p parts.1)))
      (λ e.
      let same = eqb-true (pair S k) (t * 65536 + p) e in
      rw (eq-eqb (tenant S k) t (omega (arith, same, small)), eq-eqb (profile S k) p (omega (arith, same, small))))

  other : (k : ℕ) → (pair S k ≡ t * 65536 + p → ⊥) → is_entry S t p k ≡ false
  other k n = asked_is k ∙ ne_eqb (pair S k) (t * 65536 + p) n

  module _ (k : ℕ) (h : Parted S (t * 65536 + p) k k) where
    pub entry-is_found : k < count S → pair S k ≡ t * 65536 + p → k ≡ entry_of S t p
    unfolding entry_of
    entry-is_found l e =
        sym
        (first-is (count S) (is_entry S t p) k
        (record {
          below = l;
          holds = asked_is k ∙ eq-eqb (pair S k) (t * 65536 + p) e;
          none = λ j m. other j (λ z. omega (arith, h.below j m));
        }))

    pub entry-none : PairsRise S → (k < count S → pair S k ≡ t * 65536 + p → ⊥) → has S t p ≡ false
    unfolding has
    entry-none up n = any_none (count S) (is_entry S t p) (λ j l. other j (not-here j l))
      where
        not-here : (j : ℕ) → j < count S → pair S j ≡ t * 65536 + p → ⊥
        not-here j l e =
            below_or j k
            (λ m. omega (arith, h.below j m))
            (λ m. ⊎_elim (λ z. n (omega arith) (ap (pair S) z ∙ e)) (λ b. omega (arith, up k j b l, h.others k (omega arith) (omega arith))) (eq-or-lt_of_le m))

-- ---- what a search says

-- a shelf has the record exactly where the search ends before the count
pub has-below : (S : List ℕ) (t p : ℕ) → has S t p ≡ ltb (entry_of S t p) (count S)
unfolding has entry_of
has-below S t p = by_value (has S t p) refl
  where
    by_value : (b : Bool) → has S t p ≡ b → b ≡ ltb (entry_of S t p) (count S)
    by_value true e = sym (lt-ltb (entry_of S t p) (count S) (first_some (count S) (is_entry S t p) e).below)
    by_value false e =
        let none : entry_of S t p ≡ count S = first-none (count S) (is_entry S t p) e in
        sym (le-ltb (entry_of S t p) (count S) (omega arith))

pub has_it : (S : List ℕ) (t p k : ℕ) → k ≡ entry_of S t p → k < count S → has S t p ≡ true
has_it S t p k e l = has-below S t p ∙ lt-ltb (entry_of S t p) (count S) (omega arith)

module _ (private public : List ℕ) (t p : ℕ) where
  -- ---- the number by its tests

  pub tenant_zero : t ≡ 0 → lookup_number private public t p ≡ 1
  unfolding lookup_number answered
  tenant_zero e = rw e

  module _ (asked : 1 ≤ t) where
    asking : eqb t 0 ≡ false
    asking = ne_eqb t 0 (λ e. omega arith)

    pub private-wrong : private_shelf private ≡ false → lookup_number private public t p ≡ 2
    unfolding lookup_number answered
    private-wrong e = rw (asking, e)

    module _ (own : private_shelf private ≡ true) where
      pub public-wrong : public_shelf public ≡ false → lookup_number private public t p ≡ 3
      unfolding lookup_number answered
      public-wrong e = rw (asking, own, e)

      module _ (shared : public_shelf public ≡ true) where
        pub neither-has : has private t p ≡ false → has public 0 p ≡ false → lookup_number private public t p ≡ 4
        unfolding lookup_number answered
        neither-has a b = rw (asking, own, shared, a, b)

        pub own-has : has private t p ≡ true → lookup_number private public t p ≡ 0
        unfolding lookup_number answered
        own-has a = rw (asking, own, shared, a)

        pub public-has : has private t p ≡ false → has public 0 p ≡ true → lookup_number private public t p ≡ 0
        unfolding lookup_number answered
        public-has a b = rw (asking, own, shared, a, b)

  -- ---- what is found

  -- with a refusal there is nothing, at the start of the public shelf
  pub none-found : (lookup_number private public t p ≡ 0 → ⊥) → ([] ≡ lookup_record private public t p) × ((q r : ℕ × ℕ) → r ≡ lookup_place private public t p q r)
  unfolding lookup_record lookup_place
  none-found n = (sym (when_refused {A = List ℕ} _ _ _ n), λ q r. sym (when_refused {A = ℕ × ℕ} _ _ _ n))

  module _ (z : lookup_number private public t p ≡ 0) where
    pub looked-own : Formed private true → (k : ℕ) → k ≡ entry_of private t p → has private t p ≡ true → k < count private
        → Located private public t p (entry_found true private k)
    unfolding entry_found stretch_of place_of lookup_record lookup_place record_of record_at
    looked-own f k e h l =
        record {
          done = z;
          octets = rw (when-done {A = List ℕ} _ _ _ z, h, e);
          place = λ q r. rw (when-done {A = ℕ × ℕ} _ _ _ z, h, e);
          inside =
              let here = record_within private true f k l in
              record { short = omega (arith, here, f.sizes.short); within = here };
        }

    pub looked-public : Formed public false → (k : ℕ) → k ≡ entry_of public 0 p → has private t p ≡ false → k < count public
        → Located private public t p (entry_found false public k)
    unfolding entry_found stretch_of place_of lookup_record lookup_place record_of record_at
    looked-public f k e h l =
        record {
          done = z;
          octets = rw (when-done {A = List ℕ} _ _ _ z, h, e);
          place = λ q r. rw (when-done {A = ℕ × ℕ} _ _ _ z, h, e);
          inside =
              let here = record_within public false f k l in
              record { short = omega (arith, here, f.sizes.short); within = here };
        }

  module _ (asked : 1 ≤ t) (own : private_shelf private ≡ true) (shared : public_shelf public ≡ true) where
    pub chosen-own : (k : ℕ) → (k ≡ entry_of private t p) × (k < count private) → Located private public t p (entry_found true private k)
    chosen-own k e =
        let it = has_it private t p k e.0 e.1 in
        looked-own (own-has asked own shared it) (formed-is private true own) k e.0 it e.1

    module _ (none : has private t p ≡ false) where
      pub chosen-public : (k : ℕ) → (k ≡ entry_of public 0 p) × (k < count public) → Located private public t p (entry_found false public k)
      chosen-public k e =
          looked-public (public-has asked own shared none (has_it public 0 p k e.0 e.1)) (formed-is public false shared) k e.0 none e.1

-- a shelf that is well formed can be searched
pub searched : (S : List ℕ) → AreOctets S → (private : Bool) → well_formed private S ≡ true → (2 + 8 * count S ≤ length S) × PairsRise S
searched S octets private e =
    let f = formed-is S private e in
    (f.sizes.room, pairs-rise S octets private f)
