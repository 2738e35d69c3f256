-- Section 5.1.1 as it is written there: the bits with their checksum leave the remainder 0, and no other w bits do; and the receiver's
-- test holds of exactly those. Over any width and any generator.
use mathlib.Core.Path.{◌≡◌, refl, sym, ap, ap₂, ◌∙◌}
use mathlib.Core.Bool.{true}
use mathlib.Core.List.{List, [], ◌∷◌, ◌++◌}
use Prim.Native.Nat.{ℕ, zero, suc, ◌+◌, ◌-◌, ◌*◌, ◌/◌, ◌%◌, ◌^◌, ◌≤◌, ◌<◌}
use native.Mathlib.Nat.{mod-one, mul-one, add-zero, zero-add, zero-mul, add-mul, mul_assoc, pow-suc, pow-succ', mod-eq_of_lt, le-mul_of_pos_right, div-one, div-div-eq-div-mul}
use native.Mathlib.Omega.{arith}
use borrow.Author.Tests.{eqb-true, eq-eqb}
use lib.Arith.{digits_div, digits_mod}
use lib.Bits.{bit_xor, xor_self, xor_zero_r}
use lib.ListN.{length, take, drop, replicate, length-append, length-drop, take-append-drop}
use lib.Pow.{pow_pos}
use lib.Seq.{take-append_seam, drop-append_seam}
use Rattle.bits.specs.Bits.{AreBits, digits, value_of}
use Rattle.bits.proofs.Lists.{bits-drop}
use Rattle.bits.proofs.Digits.{length_digits, digits-bits, digit-over, bit-times, value-digits, digits_value}
use Rattle.bits.proofs.Xor.{xor_zero}
use Rattle.checksum.specs.Crc.{reduce, divide_on, remainder, checksum, attached}
use Rattle.checksum.specs.Steps.Testing.{checks}
use Rattle.checksum.proofs.Division.{reduce-small, divide_append, divide_lt, divide_xor}

module _ (w g : ℕ) where
  -- what has fewer digits than the generator is its own remainder
  divide-digits : (n r c : ℕ) → r * 2 ^ n + c % 2 ^ n < 2 ^ w → divide_on w g r (digits n c) ≡ r * 2 ^ n + c % 2 ^ n
  unfolding divide_on digits
  divide-digits zero r c h = sym (ap₂ (λ (y z : ℕ). y + z) (mul-one r) (mod-one c) ∙ add-zero r)
  divide-digits (suc n) r c h =
      let d = r * 2 + c / 2 ^ n % 2 in
      let e : d * 2 ^ n + c % 2 ^ n ≡ r * 2 ^ suc n + c % 2 ^ suc n = digit-over n r c in
      let l : d ≤ d * 2 ^ n = le-mul_of_pos_right d (pow_pos n) in
      ap (λ (z : ℕ). divide_on w g z (digits n c)) (reduce-small w g d (omega arith)) ∙ divide-digits n d c (omega arith) ∙ e

  remainder-digits : (c : ℕ) → c < 2 ^ w → remainder w g (digits w c) ≡ c
  unfolding remainder
  remainder-digits c h =
      let e : 0 * 2 ^ w + c % 2 ^ w ≡ c = ap₂ (λ (y z : ℕ). y + z) (zero-mul (2 ^ w)) (mod-eq_of_lt h) ∙ zero-add c in
      divide-digits w 0 c (omega arith) ∙ e

  -- the remainder of bits with any w bits after them
  remainder-after : (a p : List ℕ) → AreBits p → length p ≡ w → remainder w g (a ++ p) ≡ bit_xor (checksum w g a) (remainder w g p)
  unfolding remainder checksum
  remainder-after a p h l =
      let r = divide_on w g 0 a in
      divide_append w g 0 a p
      ∙ ap (λ (z : ℕ). divide_on w g z p) (sym (xor_zero_r r))
      ∙ divide_xor w g r 0 p h
      ∙ ap (λ (z : ℕ). bit_xor z (divide_on w g 0 p)) (ap (λ (n : ℕ). divide_on w g r (replicate n 0)) l ∙ sym (divide_append w g 0 a (replicate w 0)))

  -- at most w bits are the digits of their remainder, where r stands above them
  digits-divide : (p : List ℕ) (r : ℕ) → AreBits p → r * 2 ^ length p + 2 ^ length p ≤ 2 ^ w
      → (digits (length p) (divide_on w g r p) ≡ p) × (divide_on w g r p / 2 ^ length p ≡ r)
  unfolding divide_on digits
  digits-divide [] r h l = (refl, div-one r)
  digits-divide (b ∷ p) r h l =
      let q = 2 ^ length p in
      let d = r * 2 + b in
      let e : 2 ^ suc (length p) ≡ q * 2 = pow-suc 2 (length p) in
      let m : r * 2 ^ suc (length p) ≡ r * 2 * q = ap (λ (z : ℕ). r * z) (pow-succ' 2 (length p)) ∙ sym (mul_assoc r 2 q) in
      let s : d * q ≡ r * 2 * q + b * q = add-mul (r * 2) b q in
      let t : b * q ≤ q = bit-times b q (h 0) in
      let u : d ≤ d * q = le-mul_of_pos_right d (pow_pos (length p)) in
      let v : 1 ≤ q = pow_pos (length p) in
      let small : reduce w g d ≡ d = reduce-small w g d (omega arith) in
      let rest = digits-divide p d (λ k. h (suc k)) (omega arith) in
      let x = divide_on w g (reduce w g d) p in
      let high : x / q ≡ d = ap (λ (z : ℕ). divide_on w g z p / q) small ∙ rest.1 in (
        ap₂ (λ (y : ℕ) (z : List ℕ). y ∷ z) (ap (λ (z : ℕ). z % 2) high ∙ digits_mod r (h 0)) (ap (λ (z : ℕ). digits (length p) (divide_on w g z p)) small ∙ rest.0),
        ap (λ (z : ℕ). x / z) e ∙ sym (div-div-eq-div-mul x q 2) ∙ ap (λ (z : ℕ). z / 2) high ∙ digits_div r (h 0),
      )

  -- no other w bits leave the remainder 0
  pub attached-only : (a p : List ℕ) → AreBits p → length p ≡ w → remainder w g (a ++ p) ≡ 0 → a ++ p ≡ attached w g a
  unfolding attached remainder
  attached-only a p h l e =
      let same : divide_on w g 0 p ≡ checksum w g a = xor_zero (checksum w g a) (divide_on w g 0 p) (sym (remainder-after a p h l) ∙ e) in
      let back = digits-divide p 0 h (rw l (omega arith)) in
      ap (λ (z : List ℕ). a ++ z) (sym back.0 ∙ ap₂ digits l same)

  -- what checks is a message with its checksum
  pub checks_sound : (b : List ℕ) → AreBits b → w ≤ length b → checks w g b ≡ true → b ≡ attached w g (take (length b - w) b)
  unfolding checks attached
  checks_sound b h l e =
      let n = length b - w in
      let d : length (drop n b) ≡ w = length-drop n b ∙ omega arith in
      let q : checksum w g (take n b) ≡ value_of (drop n b) = eqb-true (checksum w g (take n b)) (value_of (drop n b)) e in
      sym (take-append-drop n b)
      ∙ ap (λ (z : List ℕ). take n b ++ z) (sym (digits_value (drop n b) (bits-drop n b h)) ∙ ap₂ digits d (sym q))

  module _ (below : g < 2 ^ w) where
    pub checksum-lt : (a : List ℕ) → checksum w g a < 2 ^ w
    unfolding checksum remainder
    checksum-lt a = divide_lt w g 0 (a ++ replicate w 0) below (pow_pos w)

    -- a message with its checksum leaves the remainder 0
    pub attached-zero : (a : List ℕ) → remainder w g (attached w g a) ≡ 0
    unfolding attached
    attached-zero a =
        let c = checksum w g a in
        remainder-after a (digits w c) (digits-bits w c) (length_digits w c)
        ∙ ap (bit_xor c) (remainder-digits c (checksum-lt a)) ∙ xor_self c

    -- and it checks
    pub checks-complete : (a : List ℕ) → checks w g (attached w g a) ≡ true
    unfolding checks attached
    checks-complete a =
        let c = checksum w g a in
        let n : length (a ++ digits w c) - w ≡ length a = omega (arith, length-append a (digits w c), length_digits w c) in
        rw (n, take-append_seam a (digits w c), drop-append_seam a (digits w c))
        (eq-eqb c (value_of (digits w c)) (sym (value-digits w c (checksum-lt a))))
