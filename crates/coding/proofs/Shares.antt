-- The blocks' shares: as the code counts them, which there are, and that they add up to the allocation.
use mathlib.Core.Path.{◌≡◌, refl, sym, ap, ◌∙◌}
use mathlib.Core.Bool.{false, not, ◌||◌}
use Prim.Native.Nat.{ℕ, ◌+◌, ◌-◌, ◌*◌, ◌/◌, ◌%◌, ◌≤◌, ◌<◌}
use native.Mathlib.Nat.{div-add-mod, div-add-mod', le-mul_of_pos_right, mod-lt}
use native.Mathlib.Omega.{arith}
use borrow.Author.Tests.{eqb-true, ltb-false, lt-ltb, le-ltb, not-false}
use lib.Dec.{eqb, ltb}
use Rattle.bits.specs.Counts.{usable, symbol_places_of, coded_bits_of, place_bits}
use Rattle.bits.specs.Ranges.{sum_below}
use Rattle.bits.specs.declared.count.CodedBits.{CodedBits}
use Rattle.bits.specs.declared.count.SymbolPlaces.{SymbolPlaces}
use Rattle.bits.specs.declared.count.Terms.{Terms}
use Rattle.bits.proofs.Ranges.{neither}
use Rattle.bits.proofs.Rounding.{ceil_more}
use Rattle.bits.proofs.Sums.{sum_same, sum-times}
use Rattle.bits.proofs.Terms.{usable-is}
use Rattle.cutting.specs.Plan.{own_bits}
use Rattle.cutting.proofs.Rounding.{own_sum}
use Rattle.coding.specs.Allocation.{misallocated, symbol_places, spare, share}
use Rattle.coding.specs.Steps.Shares.{Allocated}

-- symbol places are shared out among the blocks as transport bits are
pub share-places : (terms : Terms) (g c r : ℕ) → (share terms g c r).0 ≡ place_bits terms * own_bits (symbol_places terms g).0 c r
unfolding share spare coded_bits_of own_bits
share-places terms g c r = refl

-- as the code counts them: rounded down, and one more in the first blocks
module _ (terms : Terms) (g c r : ℕ) (all : SymbolPlaces) (is : all ≡ symbol_places terms g) (some : 0 < c) (e : CodedBits) (n : ℕ)
    (made : e ≡ coded_bits_of terms (record { 0 = n })) where
  pub share_more : n ≡ all.0 / c + 1 → r < all.0 % c → e ≡ share terms g c r
  unfolding share spare
  share_more q h = rw (made, q, sym is, lt-ltb r (all.0 % c) h, ceil_more all.0 c some (omega arith))

  pub share-less : n ≡ all.0 / c → all.0 % c ≤ r → e ≡ share terms g c r
  unfolding share spare
  share-less q h = rw (made, q, sym is, le-ltb r (all.0 % c) h)

-- one more than rounded down is no more than all, where something is left
pub places_more : (n c r : ℕ) → 0 < c → r < n % c → n / c + 1 ≤ n
places_more n c r some h = omega (arith, div-add-mod' n c, le-mul_of_pos_right (n / c) some)

-- a block has the first one's share or the last one's
module _ (terms : Terms) (g c r : ℕ) where
  pub share-first : r < (spare terms g c).0 → share terms g c r ≡ share terms g c 0
  unfolding share
  share-first h = rw (lt-ltb r (spare terms g c).0 h, lt-ltb 0 (spare terms g c).0 (omega arith))

  pub share-last : 0 < c → (spare terms g c).0 ≤ r → share terms g c r ≡ share terms g c (c - 1)
  unfolding share spare
  share-last some h =
      let γ = (symbol_places terms g).0 % c in
      let left = mod-lt (symbol_places terms g).0 some in
      rw (le-ltb r γ h, le-ltb (c - 1) γ (omega arith))

-- "the shares now add up to G"
pub shares_all : (terms : Terms) (g c : ℕ) → Allocated terms g c → sum_below c (λ r. (share terms g c r).0) ≡ g
unfolding symbol_places symbol_places_of
shares_all terms g c h =
    let p = place_bits terms in
    sum_same c (λ r. (share terms g c r).0) (λ r. p * own_bits (g / p) c r) (λ r l. share-places terms g c r)
    ∙ sum-times c p (own_bits (g / p) c)
    ∙ ap (λ (n : ℕ). p * n) (own_sum (g / p) c h.blocks)
    ∙ omega (arith, div-add-mod g p, h.whole)

-- an allocation that is not refused with 8
pub allocated : (terms : Terms) (g c : ℕ) → misallocated terms g ≡ false → 0 < c → Allocated terms g c
unfolding misallocated
allocated terms g c e some =
    let last = neither (not (usable terms) || ltb 65536 g) (not (eqb (g % place_bits terms) 0)) e in
    let first = neither (not (usable terms)) (ltb 65536 g) last.0 in
    record {
      usable = usable-is terms (not-false (usable terms) first.0);
      most = ltb-false 65536 g first.1;
      whole = eqb-true (g % place_bits terms) 0 (not-false (eqb (g % place_bits terms) 0) last.1);
      blocks = some;
    }
