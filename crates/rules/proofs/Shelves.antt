-- The rules of a shelf are those of a well-formed one, and what its entries are due.
use mathlib.Core.Path.{◌≡◌, refl, sym, ap, ◌∙◌}
use mathlib.Core.Bool.{Bool, true, false}
use mathlib.Core.List.{List}
use Prim.Native.Nat.{ℕ, zero, suc, ◌+◌, ◌-◌, ◌*◌}
use native.Mathlib.Numerals.{sub-one}
use native.Mathlib.Omega.{arith}
use lib.Dec.{eqb, leb, ltb}
use lib.ListN.{length}
use borrow.Author.Tests.{ltb-false, eqb-true, not-false, le-leb, lt-leb, lt-ltb, le-ltb, eq-eqb, ne_eqb}
use Rattle.bits.specs.Bits.{AreOctets}
use Rattle.bits.specs.Numbers.{answered}
use Rattle.bits.proofs.Answers.{passed}
use Rattle.bits.proofs.Ranges.{below_or, either_way, all-at, all_of}
use Rattle.shelf.specs.Shelf.{count, tenant, offset, rises, offset_due, chained, ends_right, tenant_right, well_formed}
use Rattle.shelf.specs.Steps.Walking.{pair, least_pair}
use Rattle.shelf.proofs.WellFormed.{Formed, formed-is, is-formed, rises-carried}
use Rattle.rules.specs.Rules.{shelf_rules, shelf_rule}
use Rattle.rules.proofs.Firsts.{all_first}

module _ (S : List ℕ) where
  -- ---- an entry behind the first

  pub rises-first : (k : ℕ) → k ≡ 0 → rises S k ≡ true
  unfolding rises
  rises-first k e = rw e

  pub rises-later : AreOctets S → (k : ℕ) → (k ≡ 0 → ⊥) → rises S k ≡ ltb (pair S (k - 1)) (pair S k)
  unfolding least_pair
  rises-later octets zero n = absurd (n refl)
  rises-later octets (suc k) n = rises-carried S octets (suc k) ∙ rw sub-one (by_order (pair S k) (pair S (suc k)))
    where
      by_order : (a b : ℕ) → leb (suc a) b ≡ ltb a b
      by_order a b = below_or a b (λ l. le-leb (suc a) b (omega arith) ∙ sym (lt-ltb a b l)) (λ m. lt-leb (suc a) b (omega arith) ∙ sym (le-ltb a b m))

  -- ---- the end

  pub ends-right : length S ≡ offset_due S (count S) → ends_right S ≡ true
  unfolding ends_right
  ends-right e = eq-eqb (length S) (offset_due S (count S)) e

  pub ends_wrong : (length S ≡ offset_due S (count S) → ⊥) → ends_right S ≡ false
  unfolding ends_right
  ends_wrong n = ne_eqb (length S) (offset_due S (count S)) n

  ends-are : ends_right S ≡ true → length S ≡ offset_due S (count S)
  unfolding ends_right
  ends-are e = eqb-true (length S) (offset_due S (count S)) e

  chain-is : (k : ℕ) → chained S k ≡ true → offset S k ≡ offset_due S k
  unfolding chained
  chain-is k e = eqb-true (offset S k) (offset_due S k) e

  is-chain : (k : ℕ) → offset S k ≡ offset_due S k → chained S k ≡ true
  unfolding chained
  is-chain k e = eq-eqb (offset S k) (offset_due S k) e

  -- ---- no rule is broken exactly where the shelf is well formed

  module _ (private : Bool) where
    abbrev owned : ℕ → Bool
    owned k = tenant_right private (tenant S k)

    none-formed : answered (shelf_rules private S) ≡ 0 → Formed S private
    none-formed e =
        let one = passed 1 _ _ (omega arith) e in
        let two = passed 2 _ _ (omega arith) one.1 in
        let three = passed 3 _ _ (omega arith) two.1 in
        let four = passed 4 _ _ (omega arith) three.1 in
        let five = passed 5 _ _ (omega arith) four.1 in
        let six = passed 6 _ _ (omega arith) five.1 in
        let seven = passed 7 _ _ (omega arith) six.1 in
        let eight = passed 8 _ _ (omega arith) seven.1 in
        let nine = passed 9 _ _ (omega arith) eight.1 in
        record {
          sizes = record {
            short = ltb-false 65535 (length S) eight.0;
            few = ltb-false 64 (count S) two.0;
            room = ltb-false (length S) (2 + 8 * count S) three.0;
          };
          entries = λ k l.
              record {
                owner = all-at (count S) owned (not-false _ nine.0) k l;
                rising = all-at (count S) (rises S) (not-false _ four.0) k l;
                chain = chain-is k (all-at (count S) (chained S) (not-false _ six.0) k l);
              };
          ends = ends-are (not-false _ seven.0);
        }

    formed-none : Formed S private → answered (shelf_rules private S) ≡ 0
    unfolding answered
    formed-none f =
        let n = count S in
        let chain = all_of n (chained S) (λ k l. is-chain k (f.entries k l).chain) in
        rw (
          le-ltb (length S) 2 (omega (arith, f.sizes.room)),
          le-ltb 64 n f.sizes.few,
          le-ltb (length S) (2 + 8 * n) f.sizes.room,
          all_of n (rises S) (λ k l. (f.entries k l).rising),
          all_first n (chained S) chain,
          chain,
          ends-right f.ends,
          le-ltb 65535 (length S) f.sizes.short,
          all_of n owned (λ k l. (f.entries k l).owner),
        )

    pub shelf-formed : eqb (shelf_rule private S) 0 ≡ well_formed private S
    unfolding shelf_rule
    shelf-formed =
        either_way (eqb (shelf_rule private S) 0) (well_formed private S)
        (λ e. is-formed S private (none-formed (eqb-true (shelf_rule private S) 0 e)))
        (λ e. eq-eqb (shelf_rule private S) 0 (formed-none (formed-is S private e)))

    pub formed-of : (n : ℕ) → n ≡ shelf_rule private S → eqb n 0 ≡ well_formed private S
    formed-of n e = ap (λ (k : ℕ). eqb k 0) e ∙ shelf-formed
