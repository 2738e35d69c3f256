-- Laws of division rounded up.
use mathlib.Core.Path.{◌≡◌}
use Prim.Native.Nat.{ℕ, suc, ◌+◌, ◌-◌, ◌*◌, ◌/◌, ◌%◌, ◌≤◌, ◌<◌}
use native.Mathlib.Nat.{suc-mul, mul-le-mul_right, one-mul, zero-mul, add-mul, div-add-mod', div-lt_iff_lt-mul, lt-div-mul-add, mod-lt, div-eq_of_lt-le}
use native.Mathlib.Omega.{arith}
use Rattle.bits.specs.Counts.{ceil}
use Rattle.bits.proofs.Ranges.{below_or}

module _ (a k : ℕ) (some : 0 < k) where
  -- so many times k is enough, and no fewer are
  pub ceil_covers : a ≤ ceil a k * k
  unfolding ceil
  ceil_covers = omega (arith, lt-div-mul-add {a = a + (k - 1)} {b = k} some)

  pub ceil-least : (n : ℕ) → a ≤ n * k → ceil a k ≤ n
  unfolding ceil
  ceil-least n h =
      let over : a + (k - 1) < suc n * k = omega (arith, suc-mul n k) in
      let few : (a + (k - 1)) / k < suc n = (div-lt_iff_lt-mul some).1 over in
      omega arith

  pub ceil-some : 0 < a → 0 < ceil a k
  ceil-some h =
      below_or 0 (ceil a k) (λ l. l)
      (λ l. absurd (omega (arith, ceil_covers, mul-le-mul_right {m = ceil a k} {n = 0} k l, zero-mul k)))

  -- one more than rounded down where something is left, and else the same
  pub ceil_more : 0 < a % k → ceil a k ≡ a / k + 1
  unfolding ceil
  ceil_more h =
      let whole = div-add-mod' a k in
      let left = mod-lt a some in
      div-eq_of_lt-le k (omega (arith, add-mul (a / k) 1 k, one-mul k)) (omega (arith, add-mul (a / k + 1) 1 k, add-mul (a / k) 1 k, one-mul k))

  pub ceil-same : a % k ≡ 0 → ceil a k ≡ a / k
  unfolding ceil
  ceil-same h =
      let whole = div-add-mod' a k in
      div-eq_of_lt-le k (omega arith) (omega (arith, add-mul (a / k) 1 k, one-mul k))

  pub floor_ceil : a / k ≤ ceil a k
  floor_ceil =
      below_or 0 (a % k) (λ h. omega (arith, ceil_more h)) (λ h. omega (arith, ceil-same (omega arith)))
