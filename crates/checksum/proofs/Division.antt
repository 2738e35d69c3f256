-- The long division over any width and any generator: its laws, and that what it leaves is the remainder.
use mathlib.Core.Path.{◌≡◌, refl, sym, ap, ap₂, ◌∙◌}
use mathlib.Core.List.{List, [], ◌∷◌, ◌++◌}
use Prim.Native.Nat.{ℕ, zero, suc, ◌+◌, ◌*◌, ◌/◌, ◌%◌, ◌^◌, ◌<◌}
use native.Mathlib.Nat.{mod-lt, mod-eq_of_lt, div-eq_of_lt, div-lt_iff_lt-mul, zero-mul, one-mul, mul_comm, mul-mod_left, mul-div_cancel}
use native.Mathlib.Omega.{arith}
use lib.Bits.{bit_xor, xor_mod, xor_shr, xor_block, xor_shifted, xor_lt, xor_self, xor_zero_r}
use lib.Dec.{lit<}
use lib.ListN.{length, replicate}
use lib.Pow.{pow_pos, split}
use Rattle.bits.specs.Bits.{AreBits, read_on, value_of}
use Rattle.bits.proofs.Xor.{xor_low, xor_assoc, xor_four, xor_twice, xor_times}
use Rattle.checksum.specs.Crc.{reduce, divide_on, remainder}

-- ---- one step

digit_times_lt : (d g k : ℕ) → d < 2 → g < k → d * g < k
digit_times_lt zero g k h l = rw zero-mul (omega arith)
digit_times_lt (suc zero) g k h l = rw one-mul l
digit_times_lt (suc (suc d)) g k h l = absurd (omega arith)

module _ (w g : ℕ) where
  top : ℕ → ℕ
  top x = x / 2 ^ w % 2

  top_digit : (x : ℕ) → top x < 2
  unfolding top
  top_digit x = mod-lt (x / 2 ^ w) (lit< tt)

  pub reduce_lt : (x : ℕ) → g < 2 ^ w → reduce w g x < 2 ^ w
  unfolding reduce top
  reduce_lt x h = xor_lt w (x % 2 ^ w) (top x * g) (mod-lt x (pow_pos w)) (digit_times_lt (top x) g (2 ^ w) (top_digit x) h)

  -- what is below D^w is its own remainder
  pub reduce-small : (x : ℕ) → x < 2 ^ w → reduce w g x ≡ x
  unfolding reduce
  reduce-small x h = rw (mod-eq_of_lt h, div-eq_of_lt h) (rw (zero-mul, xor_zero_r))

  -- b D^w, for a digit b
  pub reduce_top : (b : ℕ) → b < 2 → reduce w g (b * 2 ^ w) ≡ b * g
  unfolding reduce
  reduce_top b h = rw (mul-mod_left b (2 ^ w), mul-div_cancel b (pow_pos w), mod-eq_of_lt h)

  pub reduce_xor : (x y : ℕ) → reduce w g (bit_xor x y) ≡ bit_xor (reduce w g x) (reduce w g y)
  unfolding reduce top
  reduce_xor x y =
      ap₂ (λ (p q : ℕ). bit_xor p (q % 2 * g)) (xor_mod x y w) (xor_shr x y w)
      ∙ ap (λ (q : ℕ). bit_xor (bit_xor (x % 2 ^ w) (y % 2 ^ w)) (q * g)) (xor_low (x / 2 ^ w) (y / 2 ^ w))
      ∙ ap (bit_xor (bit_xor (x % 2 ^ w) (y % 2 ^ w))) (xor_times (top x) (top y) g (top_digit x) (top_digit y))
      ∙ xor_four (x % 2 ^ w) (y % 2 ^ w) (top x * g) (top y * g)

  -- ---- many steps

  pub divide_append : (r : ℕ) (a p : List ℕ) → divide_on w g r (a ++ p) ≡ divide_on w g (divide_on w g r a) p
  unfolding divide_on
  divide_append r [] p = refl
  divide_append r (b ∷ a) p = divide_append (reduce w g (r * 2 + b)) a p

  pub divide_lt : (r : ℕ) (p : List ℕ) → g < 2 ^ w → r < 2 ^ w → divide_on w g r p < 2 ^ w
  unfolding divide_on
  divide_lt r [] hg hr = hr
  divide_lt r (b ∷ p) hg hr = divide_lt (reduce w g (r * 2 + b)) p hg (reduce_lt (r * 2 + b) hg)

  -- of a sum, where only the second has coefficients to bring down
  pub divide_xor : (x y : ℕ) (p : List ℕ) → AreBits p
      → divide_on w g (bit_xor x y) p ≡ bit_xor (divide_on w g x (replicate (length p) 0)) (divide_on w g y p)
  unfolding divide_on
  divide_xor x y [] h = refl
  divide_xor x y (b ∷ p) h =
      ap (λ (z : ℕ). divide_on w g (reduce w g z) p) (sym (xor_block 1 x y 0 b (lit< tt) (h 0)))
      ∙ ap (λ (z : ℕ). divide_on w g z p) (reduce_xor (x * 2 + 0) (y * 2 + b))
      ∙ divide_xor (reduce w g (x * 2 + 0)) (reduce w g (y * 2 + b)) p (λ k. h (suc k))

-- ---- p = q (D^w + g) + r, with r of degree below w

-- the product over GF(2) of the polynomial with the coefficients q, highest first, and the number d; `times_on` goes on from m
unfoldable pub times_on : ℕ → List ℕ → ℕ → ℕ
times_on m [] d = m
times_on m (b ∷ q) d = times_on (bit_xor (m * 2) (b * d)) q d

unfoldable pub times : List ℕ → ℕ → ℕ
times q d = times_on 0 q d

module _ (w g : ℕ) (below : g < 2 ^ w) where
  divisor : ℕ
  divisor = 2 ^ w + g

  digit-divisor : (d : ℕ) → d < 2 → d * divisor ≡ bit_xor (d * 2 ^ w) (d * g)
  unfolding divisor
  digit-divisor zero h = simp zero-mul
  digit-divisor (suc zero) h = rw (one-mul g) (omega (arith, xor_shifted 1 w g below))
  digit-divisor (suc (suc d)) h = absurd (omega arith)

  -- one step takes the divisor away, or nothing
  reduce-is : (x : ℕ) → x / 2 ^ w < 2 → x ≡ bit_xor (x / 2 ^ w * divisor) (reduce w g x)
  unfolding reduce
  reduce-is x h =
      let d = x / 2 ^ w in
      let l = x % 2 ^ w in
      sym (split x w) ∙ sym (xor_shifted d w l (mod-lt x (pow_pos w)))
      ∙ sym (xor_zero_r (bit_xor (d * 2 ^ w) l)) ∙ ap (bit_xor (bit_xor (d * 2 ^ w) l)) (sym (xor_self (d * g)))
      ∙ xor_four (d * 2 ^ w) l (d * g) (d * g)
      ∙ ap₂ (λ (y z : ℕ). bit_xor y (bit_xor l (z * g))) (sym (digit-divisor d h)) (sym (mod-eq_of_lt h))

  next-digit : (r b : ℕ) → r < 2 ^ w → b < 2 → (r * 2 + b) / 2 ^ w < 2
  next-digit r b hr hb = (div-lt_iff_lt-mul (pow_pos w)).1 (omega (arith, mul_comm 2 (2 ^ w)))

  quotient : ℕ → List ℕ → List ℕ
  quotient r [] = []
  quotient r (b ∷ p) = ((r * 2 + b) / 2 ^ w) ∷ quotient (reduce w g (r * 2 + b)) p

  quotient-bits : (r : ℕ) (p : List ℕ) → r < 2 ^ w → AreBits p → AreBits (quotient r p)
  unfolding quotient
  quotient-bits r [] hr h k = lit< tt
  quotient-bits r (b ∷ p) hr h zero = next-digit r b hr (h 0)
  quotient-bits r (b ∷ p) hr h (suc k) =
      quotient-bits (reduce w g (r * 2 + b)) p (reduce_lt w g (r * 2 + b) below) (λ j. h (suc j)) k

  divided : (m r : ℕ) (p : List ℕ) → r < 2 ^ w → AreBits p
      → read_on (bit_xor m r) p ≡ bit_xor (times_on m (quotient r p) divisor) (divide_on w g r p)
  unfolding read_on times_on divide_on quotient
  divided m r [] hr h = refl
  divided m r (b ∷ p) hr h =
      let x = r * 2 + b in
      let q = x / 2 ^ w * divisor in
      let e : bit_xor m r * 2 + b ≡ bit_xor (bit_xor (m * 2) q) (reduce w g x) =
      sym (xor_shifted (bit_xor m r) 1 b (h 0)) ∙ ap (λ (z : ℕ). bit_xor z b) (xor_twice m r)
      ∙ xor_assoc (m * 2) (r * 2) b ∙ ap (bit_xor (m * 2)) (xor_shifted r 1 b (h 0) ∙ reduce-is x (next-digit r b hr (h 0)))
      ∙ sym (xor_assoc (m * 2) q (reduce w g x)) in
      ap (λ (z : ℕ). read_on z p) e
      ∙ divided (bit_xor (m * 2) q) (reduce w g x) p (reduce_lt w g x below) (λ k. h (suc k))

  pub division : (p : List ℕ) → AreBits p
      → (q : List ℕ) × AreBits q × (value_of p ≡ bit_xor (times q (2 ^ w + g)) (remainder w g p)) × (remainder w g p < 2 ^ w)
  unfolding value_of times remainder divisor
  division p h = (quotient 0 p, quotient-bits 0 p (pow_pos w) h, divided 0 0 p (pow_pos w) h, divide_lt w g 0 p below (pow_pos w))
