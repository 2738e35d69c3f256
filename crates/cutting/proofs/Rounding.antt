-- A number of bits shared out among blocks: rounded up in the first, rounded down in the others.
use mathlib.Core.Path.{◌≡◌, refl, ap, ap₂, ◌∙◌}
use mathlib.Core.Bool.{cond}
use Prim.Native.Nat.{ℕ, zero, suc, ◌+◌, ◌*◌, ◌/◌, ◌%◌, ◌≤◌, ◌<◌}
use native.Mathlib.Nat.{add-mul, mul_comm, one-mul, div-add-mod', div-eq_of_lt-le, le-div_iff_mul-le, mod-lt}
use native.Mathlib.Omega.{arith}
use lib.Dec.{ltb}
use borrow.Author.Tests.{lt-ltb, le-ltb}
use Rattle.bits.specs.Counts.{ceil}
use Rattle.bits.specs.Ranges.{sum_below}
use Rattle.bits.proofs.Ranges.{below_or}
use Rattle.bits.proofs.Rounding.{ceil_more, floor_ceil}
use Rattle.bits.proofs.Sums.{sum_same, sum_add, sum_const}
use Rattle.cutting.specs.Plan.{own_bits}

-- of n numbers, those below s
abbrev pub below : ℕ → ℕ → ℕ
below s r = cond (ltb r s) 1 0

below_all : (s n : ℕ) → n ≤ s → sum_below n (below s) ≡ n
unfolding sum_below
below_all s zero h = refl
below_all s (suc n) h = rw (lt-ltb n s (omega arith)) (omega (arith, below_all s n (omega arith)))

below-some : (s n : ℕ) → s ≤ n → sum_below n (below s) ≡ s
unfolding sum_below
below-some s zero h = omega arith
below-some s (suc n) h =
    below_or n s (λ l. rw (lt-ltb n s l) (omega (arith, below_all s n (omega arith))))
    (λ l. rw (le-ltb n s l) (omega (arith, below-some s n l)))

-- c parts, the first s of them one more than the others
pub parts_sum : (c q s : ℕ) → s ≤ c → sum_below c (λ r. q + below s r) ≡ c * q + s
parts_sum c q s h = sum_add c (λ r. q) (below s) ∙ omega (arith, sum_const c q, below-some s c h)

module _ (b c : ℕ) (some : 0 < c) where
  -- rounded down, and one more in the first blocks
  pub own_parts : (r : ℕ) → own_bits b c r ≡ b / c + below (b % c) r
  unfolding own_bits
  own_parts r =
      below_or r (b % c) (λ l. rw (lt-ltb r (b % c) l) (ceil_more b c some (omega arith))) (λ l. rw (le-ltb r (b % c) l) (omega arith))

  -- all of them together
  pub own_sum : sum_below c (own_bits b c) ≡ b
  own_sum =
      sum_same c (own_bits b c) (λ r. b / c + below (b % c) r) (λ r l. own_parts r)
      ∙ parts_sum c (b / c) (b % c) (omega (arith, mod-lt b some))
      ∙ omega (arith, mul_comm c (b / c), div-add-mod' b c)

  pub own_most : (r : ℕ) → own_bits b c r ≤ ceil b c
  unfolding own_bits
  own_most r =
      below_or r (b % c) (λ l. rw (lt-ltb r (b % c) l) (omega arith)) (λ l. rw (le-ltb r (b % c) l) (floor_ceil b c some))

  pub own_some : c ≤ b → (r : ℕ) → 1 ≤ own_bits b c r
  own_some h r =
      let one : 1 ≤ b / c = (le-div_iff_mul-le some).1 (omega (arith, one-mul c)) in
      omega (arith, own_parts r)

-- the other way round: such parts are what their sum is shared out as
pub parts_own : (c q s : ℕ) → s < c → (r : ℕ) → own_bits (c * q + s) c r ≡ q + below s r
parts_own c q s h r =
    let x = c * q + s in
    let some : 0 < c = omega arith in
    let each : x / c ≡ q = div-eq_of_lt-le c (omega (arith, mul_comm q c)) (omega (arith, mul_comm q c, add-mul q 1 c, one-mul c)) in
    let left : x % c ≡ s = omega (arith, div-add-mod' x c, ap (λ (n : ℕ). n * c) each, mul_comm q c) in
    own_parts x c some r ∙ ap₂ (λ (a b : ℕ). a + below b r) each left
