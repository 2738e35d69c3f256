-- What the tests of a shelf say, in the document's order and in the code's.
use mathlib.Core.Path.{◌≡◌, refl, sym, ap, subst}
use mathlib.Core.Bool.{Bool, true, false, cond, ◌&&◌, ◌||◌}
use mathlib.Core.List.{List}
use mathlib.Core.Logic.{⊎_elim}
use Prim.Native.Nat.{ℕ, zero, suc, ◌+◌, ◌-◌, ◌*◌, ◌≤◌, ◌<◌}
use native.Mathlib.Nat.{eq-or-lt_of_le}
use native.Mathlib.Numerals.{add-one}
use native.Mathlib.Omega.{arith}
use lib.Dec.{eqb, leb, ltb}
use lib.ListN.{length}
use borrow.Author.Tests.{ltb-true, leb-true, eqb-true, lt-ltb, le-ltb, le-leb, eq-eqb, ne_eqb}
use Rattle.bits.specs.Bits.{AreOctets, number_at}
use Rattle.bits.specs.Ranges.{all_below}
use Rattle.bits.proofs.Ranges.{last_or, below_or, equal_or, both, either_way, all-at, all_of}
use Rattle.shelf.specs.Shelf.{count, tenant, profile, offset, size, rises, offset_due, chained, ends_right, tenant_right, well_formed}
use Rattle.shelf.specs.Steps.Walking.{sizes_right, tenants_right, pair, least_pair, PairsRise, entry_right, entries_right, walk_right}

module _ (S : List ℕ) where
  -- ---- what a walk carries from entry to entry

  pub least-next : (k : ℕ) → least_pair S (k + 1) ≡ pair S k + 1
  unfolding least_pair
  least-next k = simp add-one

  pub due-after : (k : ℕ) → offset_due S (k + 1) ≡ offset S k + size S k
  unfolding offset_due
  due-after k = rw add-one

  -- ---- a well-formed shelf

  pub record Sizes : Type 0 where
    pub short : length S ≤ 65535
    pub few : count S ≤ 64
    pub room : 2 + 8 * count S ≤ length S

  pub record Entry (private : Bool) (k : ℕ) : Type 0 where
    pub owner : tenant_right private (tenant S k) ≡ true
    pub rising : rises S k ≡ true
    pub chain : offset S k ≡ offset_due S k

  pub record Formed (private : Bool) : Type 0 where
    pub sizes : Sizes
    pub entries : (k : ℕ) → k < count S → Entry private k
    pub ends : length S ≡ offset_due S (count S)

  -- ---- the records stand one behind the other, so each is due at or behind the one before, and the first behind the entries

  due-next : (k : ℕ) → offset S k ≡ offset_due S k → offset_due S k ≤ offset_due S (suc k)
  unfolding offset_due
  due-next k e = omega (arith, e)

  due-rises : ((k : ℕ) → k < count S → offset S k ≡ offset_due S k) → (d k : ℕ) → k + d ≡ count S → offset_due S k ≤ offset_due S (count S)
  due-rises chain zero k e =
      let last : offset_due S k ≡ offset_due S (count S) = ap (offset_due S) (let z : k ≡ count S = omega arith in z) in
      omega (arith, last)
  due-rises chain (suc d) k e = omega (arith, due-rises chain d (suc k) (omega arith), due-next k (chain k (omega arith)))

  entries-inside : ((k : ℕ) → k < count S → offset S k ≡ offset_due S k) → length S ≡ offset_due S (count S) → 2 + 8 * count S ≤ length S
  unfolding offset_due
  entries-inside chain ends =
      let first : 2 + 8 * count S ≤ offset_due S (count S) = due-rises chain (count S) 0 (omega arith) in
      omega (arith, first, ends)

  pub record_within : (private : Bool) → Formed private → (k : ℕ) → k < count S → offset S k + size S k ≤ length S
  unfolding offset_due
  record_within private f k l =
      let next : offset S k + size S k ≤ offset_due S (count S) = due-rises (λ j m. (f.entries j m).chain) (count S - suc k) (suc k) (omega arith) in
      omega (arith, next, f.ends)

  -- ---- in the document's order

  chain-is : (k : ℕ) → chained S k ≡ true → offset S k ≡ offset_due S k
  unfolding chained
  chain-is k e = eqb-true (offset S k) (offset_due S k) e

  is-chain : (k : ℕ) → offset S k ≡ offset_due S k → chained S k ≡ true
  unfolding chained
  is-chain k e = eq-eqb (offset S k) (offset_due S k) e

  pub formed-is : (private : Bool) → well_formed private S ≡ true → Formed private
  unfolding well_formed ends_right
  formed-is private e =
      let n = count S in
      let few = leb n 64 in
      let up = all_below n (rises S) in
      let chain = all_below n (chained S) in
      let short = leb (length S) 65535 in
      let owners = all_below n (λ k. tenant_right private (tenant S k)) in
      let five = both (few && up && chain && ends_right S && short) owners e in
      let four = both (few && up && chain && ends_right S) short five.0 in
      let three = both (few && up && chain) (ends_right S) four.0 in
      let two = both (few && up) chain three.0 in
      let one = both few up two.0 in
      let ends : length S ≡ offset_due S n = eqb-true (length S) (offset_due S n) three.1 in
      let link : (k : ℕ) → k < n → offset S k ≡ offset_due S k = λ k l. chain-is k (all-at n (chained S) two.1 k l) in
      record {
        sizes = record {
          short = leb-true (length S) 65535 four.1;
          few = leb-true n 64 one.0;
          room = entries-inside link ends;
        };
        entries = λ k l.
            record {
              owner = all-at n (λ k. tenant_right private (tenant S k)) five.1 k l;
              rising = all-at n (rises S) one.1 k l;
              chain = link k l;
            };
        ends = ends;
      }

  pub is-formed : (private : Bool) → Formed private → well_formed private S ≡ true
  unfolding well_formed ends_right
  is-formed private f =
      let n = count S in
      rw (
        le-leb n 64 f.sizes.few,
        all_of n (rises S) (λ k l. (f.entries k l).rising),
        all_of n (chained S) (λ k l. is-chain k (f.entries k l).chain),
        eq-eqb (length S) (offset_due S n) f.ends,
        le-leb (length S) 65535 f.sizes.short,
        all_of n (λ k. tenant_right private (tenant S k)) (λ k l. (f.entries k l).owner),
      )

  -- ---- "Pairs (tenant, profile number) strictly rise"

  pub record Below (j k : ℕ) : Type 0 where
    pub tenants : tenant S j ≤ tenant S k
    pub profiles : tenant S j ≡ tenant S k → profile S j < profile S k

  below_next : (k : ℕ) → rises S (suc k) ≡ true → Below k (suc k)
  unfolding rises
  below_next k e = by_value (ltb (tenant S k) (tenant S (suc k))) refl e
    where
      by_value : (b : Bool) → ltb (tenant S k) (tenant S (suc k)) ≡ b
          → (b || (eqb (tenant S k) (tenant S (suc k)) && ltb (profile S k) (profile S (suc k)))) ≡ true → Below k (suc k)
      by_value true q e =
          let l = ltb-true (tenant S k) (tenant S (suc k)) q in
          record { tenants = omega (arith, l); profiles = λ z. absurd (omega (arith, l, z)) }
      by_value false q e =
          let parts = both (eqb (tenant S k) (tenant S (suc k))) (ltb (profile S k) (profile S (suc k))) e in
          let z = eqb-true (tenant S k) (tenant S (suc k)) parts.0 in
          record { tenants = omega (arith, z); profiles = λ y. ltb-true (profile S k) (profile S (suc k)) parts.1 }

  below-later : (i j k : ℕ) → Below i j → Below j k → Below i k
  below-later i j k a b =
      record {
        tenants = omega (arith, a.tenants, b.tenants);
        profiles = λ z.
            let one : tenant S i ≡ tenant S j = omega (arith, a.tenants, b.tenants, z) in
            let two : tenant S j ≡ tenant S k = omega (arith, one, z) in
            omega (arith, a.profiles one, b.profiles two);
      }

  module _ (up : (k : ℕ) → k < count S → rises S k ≡ true) where
    pub below : (j k : ℕ) → j < k → k < count S → Below j k
    below j zero h l = absurd (omega arith)
    below j (suc k) h l =
        let next = below_next k (up (suc k) l) in
        last_or j k h (λ m. below-later j k (suc k) (below j k m (omega arith)) next) (λ e. subst (λ (i : ℕ). Below i (suc k)) (sym e) next)

    tenants-rise : (j k : ℕ) → j ≤ k → k < count S → tenant S j ≤ tenant S k
    tenants-rise j k h l =
        ⊎_elim (λ e. let same : tenant S j ≡ tenant S k = ap (tenant S) e in omega arith) (λ m. (below j k m l).tenants) (eq-or-lt_of_le h)

    owners : (private : Bool) → tenants_right private S ≡ true → (k : ℕ) → k < count S → tenant_right private (tenant S k) ≡ true
    unfolding tenants_right tenant_right
    owners true e k l =
        let first : 1 ≤ tenant S 0 = leb-true 1 (tenant S 0) (rw (ne_eqb (count S) 0 (λ z. omega arith)) at e) in
        le-leb 1 (tenant S k) (omega (arith, first, tenants-rise 0 k (omega arith) l))
    owners false e k l =
        let last : tenant S (count S - 1) ≡ 0 = eqb-true (tenant S (count S - 1)) 0 (rw (ne_eqb (count S) 0 (λ z. omega arith)) at e) in
        eq-eqb (tenant S k) 0 (omega (arith, last, tenants-rise k (count S - 1) (omega arith) (omega arith)))

  -- ---- in the code's order

  pub sizes_are : sizes_right S ≡ true → Sizes
  unfolding sizes_right
  sizes_are e =
      let three = both (leb 2 (length S) && leb (length S) 65535 && leb (count S) 64) (leb (2 + 8 * count S) (length S)) e in
      let two = both (leb 2 (length S) && leb (length S) 65535) (leb (count S) 64) three.0 in
      let one = both (leb 2 (length S)) (leb (length S) 65535) two.0 in
      record {
        short = leb-true (length S) 65535 one.1;
        few = leb-true (count S) 64 two.1;
        room = leb-true (2 + 8 * count S) (length S) three.1;
      }

  pub entry_is : (k : ℕ) → entry_right S k ≡ true → (rises S k ≡ true) × (offset S k ≡ offset_due S k)
  unfolding entry_right
  entry_is k e =
      let parts = both (rises S k) (chained S k) e in
      (parts.0, chain-is k parts.1)

  passed : all_below (count S) (entry_right S) ≡ true → (k : ℕ) → k < count S → (rises S k ≡ true) × (offset S k ≡ offset_due S k)
  passed e k l = entry_is k (all-at (count S) (entry_right S) e k l)

  walked-formed : (private : Bool) → walk_right private S ≡ true → Formed private
  unfolding walk_right entries_right ends_right
  walked-formed private e =
      let two = both (sizes_right S && tenants_right private S) (entries_right S) e in
      let one = both (sizes_right S) (tenants_right private S) two.0 in
      let walk = both (all_below (count S) (entry_right S)) (ends_right S) two.1 in
      let right = passed walk.0 in
      record {
        sizes = sizes_are one.0;
        entries = λ k l. record { owner = owners (λ j m. (right j m).0) private one.1 k l; rising = (right k l).0; chain = (right k l).1 };
        ends = eqb-true (length S) (offset_due S (count S)) walk.1;
      }

  tenants-right : (private : Bool) → Formed private → tenants_right private S ≡ true
  unfolding tenants_right
  tenants-right private f =
      equal_or (count S) 0
      (λ z. rw (eq-eqb (count S) 0 z))
      (λ n. rw (ne_eqb (count S) 0 n) (f.entries (cond private 0 (count S - 1)) (telling private n)).owner)
    where
      telling : (private : Bool) → (count S ≡ 0 → ⊥) → cond private 0 (count S - 1) < count S
      telling true n = omega arith
      telling false n = omega arith

  formed-walked : (private : Bool) → Formed private → walk_right private S ≡ true
  unfolding walk_right sizes_right entries_right entry_right ends_right
  formed-walked private f =
      let n = count S in
      let long : 2 ≤ length S = omega (arith, f.sizes.room) in
      rw (
        le-leb 2 (length S) long,
        le-leb (length S) 65535 f.sizes.short,
        le-leb n 64 f.sizes.few,
        le-leb (2 + 8 * n) (length S) f.sizes.room,
        tenants-right private f,
        all_of n (entry_right S) (λ k l. rw ((f.entries k l).rising, is-chain k (f.entries k l).chain)),
        eq-eqb (length S) (offset_due S n) f.ends,
      )

  pub walk_is : (private : Bool) → walk_right private S ≡ well_formed private S
  walk_is private =
      either_way (walk_right private S) (well_formed private S) (λ e. is-formed private (walked-formed private e)) (λ e. formed-walked private (formed-is private e))

  -- ---- a pair as one number

  module _ (octets : AreOctets S) where
    number_small : (at : ℕ) → number_at S at < 65536
    unfolding number_at
    number_small at = omega (arith, octets at, octets (at + 1))

    pub profile-small : (k : ℕ) → profile S k < 65536
    unfolding profile
    profile-small k = number_small (4 + 8 * k)

    pub offset-small : (k : ℕ) → offset S k < 65536
    unfolding offset
    offset-small k = number_small (6 + 8 * k)

    pair-below : (j k : ℕ) → Below j k → pair S j < pair S k
    unfolding pair
    pair-below j k b =
        equal_or (tenant S j) (tenant S k)
        (λ e. omega (arith, e, b.profiles e))
        (λ n. omega (arith, n, b.tenants, profile-small j))

    below-pair : (k : ℕ) → pair S k < pair S (suc k) → rises S (suc k) ≡ true
    unfolding rises pair
    below-pair k h =
        equal_or (tenant S k) (tenant S (suc k))
        (λ e. rw (le-ltb (tenant S k) (tenant S (suc k)) (omega arith), eq-eqb _ _ e, lt-ltb (profile S k) (profile S (suc k)) (omega arith)))
        (λ n. rw (lt-ltb (tenant S k) (tenant S (suc k)) (omega (arith, profile-small (suc k)))))

    -- it rises exactly where the pair does
    pub rises-carried : (k : ℕ) → rises S k ≡ leb (least_pair S k) (pair S k)
    unfolding rises least_pair
    rises-carried zero = sym (le-leb 0 (pair S 0) (omega arith))
    rises-carried (suc k) =
        either_way (rises S (suc k)) (leb (suc (pair S k)) (pair S (suc k)))
        (λ e. le-leb (suc (pair S k)) (pair S (suc k)) (pair-below k (suc k) (below_next k e)))
        (λ e. below-pair k (leb-true (suc (pair S k)) (pair S (suc k)) e))

    -- the tests of an entry with what is carried to it
    pub entry-carried : (k : ℕ) → entry_right S k ≡ (leb (least_pair S k) (pair S k) && eqb (offset S k) (offset_due S k))
    unfolding entry_right chained
    entry-carried k = rw (rises-carried k)

    pub pairs-rise : (private : Bool) → Formed private → PairsRise S
    pairs-rise private f j k h l = pair-below j k (below (λ i m. (f.entries i m).rising) j k h l)

  -- ---- a pair has one entry at most

  pub one_entry : (private : Bool) → well_formed private S ≡ true → (j k : ℕ) → j < count S → k < count S
      → tenant S j ≡ tenant S k → profile S j ≡ profile S k → j ≡ k
  one_entry private w j k l m t p =
      let f = formed-is private w in
      let up : (k : ℕ) → k < count S → rises S k ≡ true = λ k l. (f.entries k l).rising in
      below_or j k
      (λ h. absurd (omega (arith, (below up j k h m).profiles t, p)))
      (λ h. ⊎_elim sym (λ n. absurd (omega (arith, (below up k j n l).profiles (sym t), p))) (eq-or-lt_of_le h))
