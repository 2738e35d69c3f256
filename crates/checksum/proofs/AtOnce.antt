-- The register takes n bits at once: it is linear, and its n top digits and the n bits count alike. A table rests on this.
use mathlib.Core.Path.{◌≡◌, refl, sym, ap, ap₂, ◌∙◌, subst}
use Prim.Native.Nat.{ℕ, zero, suc, ◌+◌, ◌*◌, ◌/◌, ◌%◌, ◌^◌, ◌≤◌, ◌<◌}
use native.Mathlib.Nat.{mod-one, mul-one, add-zero, zero-add, add_comm, zero-mul, zero-div, add-mul, mul_assoc, pow-suc, pow-succ', mod-lt, mod-eq_of_lt, le-mul_of_pos_right, mul-lt-mul_of_pos_right}
use native.Mathlib.Numerals.{one-add}
use native.Mathlib.Omega.{arith}
use lib.Bits.{bit_xor, differ, xor_shr, xor_block, xor_shifted, xor_self, xor_comm, xor_zero_r}
use lib.Dec.{lit<}
use lib.Pow.{pow_pos, pow-add, mod-pow-add, split, shl_lt, shr_lt}
use Rattle.bits.specs.Bits.{digits}
use Rattle.bits.proofs.Xor.{xor_low, xor_four, xor_assoc, xor_times, xor_twice}
use Rattle.checksum.specs.Crc.{reduce}
use Rattle.checksum.specs.Steps.Register.{stepped, fed}
use Rattle.checksum.proofs.Division.{reduce-small, reduce_xor}

module _ (w g : ℕ) where
  -- the n low digits of x go in
  abbrev taken : ℕ → ℕ → ℕ → ℕ
  taken n r x = fed w g r (digits n x)

  stepped-xor : (r s b d : ℕ) → b < 2 → d < 2 → stepped w g (bit_xor r s) (differ b d) ≡ bit_xor (stepped w g r b) (stepped w g s d)
  unfolding stepped
  stepped-xor r s b d hb hd =
      ap₂ (λ (y z : ℕ). reduce w g (bit_xor y z)) (xor_twice r s) (xor_times b d (2 ^ w) hb hd)
      ∙ ap (reduce w g) (xor_four (r * 2) (s * 2) (b * 2 ^ w) (d * 2 ^ w))
      ∙ reduce_xor w g (bit_xor (r * 2) (b * 2 ^ w)) (bit_xor (s * 2) (d * 2 ^ w))

  taken-xor : (n r s x y : ℕ) → taken n (bit_xor r s) (bit_xor x y) ≡ bit_xor (taken n r x) (taken n s y)
  unfolding fed digits
  taken-xor zero r s x y = refl
  taken-xor (suc n) r s x y =
      let b = x / 2 ^ n % 2 in
      let d = y / 2 ^ n % 2 in
      ap (λ (z : ℕ). taken n (stepped w g (bit_xor r s) z) (bit_xor x y)) (ap (λ (z : ℕ). z % 2) (xor_shr x y n) ∙ xor_low (x / 2 ^ n) (y / 2 ^ n))
      ∙ ap (λ (z : ℕ). taken n z (bit_xor x y)) (stepped-xor r s b d (mod-lt (x / 2 ^ n) (lit< tt)) (mod-lt (y / 2 ^ n) (lit< tt)))
      ∙ taken-xor n (stepped w g r b) (stepped w g s d) x y

  -- nothing goes in, and nothing goes over the top: the register moves up
  taken-up : (n r : ℕ) → r * 2 ^ n < 2 ^ w → taken n r 0 ≡ r * 2 ^ n
  unfolding fed digits stepped
  taken-up zero r h = sym (mul-one r)
  taken-up (suc n) r h =
      let e : r * 2 * 2 ^ n ≡ r * 2 ^ suc n = mul_assoc r 2 (2 ^ n) ∙ ap (λ (z : ℕ). r * z) (sym (pow-succ' 2 n)) in
      let l : r * 2 ≤ r * 2 * 2 ^ n = le-mul_of_pos_right (r * 2) (pow_pos n) in
      ap (λ (z : ℕ). taken n (reduce w g (bit_xor (r * 2) z)) 0) (ap (λ (z : ℕ). z % 2 * 2 ^ w) (zero-div (2 ^ n)) ∙ zero-mul (2 ^ w))
      ∙ ap (λ (z : ℕ). taken n (reduce w g z) 0) (xor_zero_r (r * 2))
      ∙ ap (λ (z : ℕ). taken n z 0) (reduce-small w g (r * 2) (omega arith))
      ∙ taken-up n (r * 2) (omega arith) ∙ e

  -- what goes in stands at the top already: all of it cancels
  taken-cancel : (n m c : ℕ) → m + n ≡ w → taken n (c % 2 ^ n * 2 ^ m) c ≡ 0
  unfolding fed digits stepped
  taken-cancel zero m c e = ap (λ (z : ℕ). z * 2 ^ m) (mod-one c) ∙ zero-mul (2 ^ m)
  taken-cancel (suc n) m c e =
      let d = c / 2 ^ n % 2 in
      let k = c % 2 ^ n in
      let low : c % 2 ^ suc n ≡ d * 2 ^ n + k = ap (λ (z : ℕ). c % 2 ^ z) (sym (one-add n)) ∙ mod-pow-add c 1 n in
      let all : 2 ^ n * 2 ^ suc m ≡ 2 ^ w = sym (pow-add 2 n (suc m)) ∙ ap (λ (z : ℕ). 2 ^ z) (omega arith) in
      let up : c % 2 ^ suc n * 2 ^ m * 2 ≡ d * 2 ^ w + k * 2 ^ suc m =
      mul_assoc (c % 2 ^ suc n) (2 ^ m) 2 ∙ ap₂ (λ (y z : ℕ). y * z) low (sym (pow-suc 2 m)) ∙ add-mul (d * 2 ^ n) k (2 ^ suc m)
      ∙ ap (λ (z : ℕ). z + k * 2 ^ suc m) (mul_assoc d (2 ^ n) (2 ^ suc m) ∙ ap (λ (z : ℕ). d * z) all) in
      let h : k * 2 ^ suc m < 2 ^ w = subst (λ (z : ℕ). k * 2 ^ suc m < z) all (mul-lt-mul_of_pos_right (mod-lt c (pow_pos n)) (pow_pos (suc m))) in
      let left : bit_xor (c % 2 ^ suc n * 2 ^ m * 2) (d * 2 ^ w) ≡ k * 2 ^ suc m =
      ap₂ bit_xor up (sym (add-zero (d * 2 ^ w))) ∙ xor_block w d d (k * 2 ^ suc m) 0 h (pow_pos w)
      ∙ ap₂ (λ (y z : ℕ). y * 2 ^ w + z) (xor_self d) (xor_zero_r (k * 2 ^ suc m))
      ∙ ap (λ (z : ℕ). z + k * 2 ^ suc m) (zero-mul (2 ^ w)) ∙ zero-add (k * 2 ^ suc m) in
      ap (λ (z : ℕ). taken n (reduce w g z) c) left
      ∙ ap (λ (z : ℕ). taken n z c) (reduce-small w g (k * 2 ^ suc m) h)
      ∙ taken-cancel n (suc m) c (omega arith)

  -- n bits by one look: the register less its n top digits, moved up, and what those and the bits leave of an empty register
  pub fed_at_once : (n m r x : ℕ) → m + n ≡ w → r < 2 ^ w
      → fed w g r (digits n x) ≡ bit_xor (r % 2 ^ m * 2 ^ n) (fed w g 0 (digits n (bit_xor (r / 2 ^ m) x)))
  fed_at_once n m r x e h =
      let t = r / 2 ^ m in
      let l = r % 2 ^ m in
      let ht : t < 2 ^ n = shr_lt n m (subst (λ (z : ℕ). r < 2 ^ z) (sym e ∙ add_comm m n) h) in
      let hl : l * 2 ^ n < 2 ^ w = subst (λ (z : ℕ). l * 2 ^ n < 2 ^ z) e (shl_lt m n (mod-lt r (pow_pos m))) in
      let gone : taken n (t * 2 ^ m) t ≡ 0 = ap (λ (z : ℕ). taken n (z * 2 ^ m) t) (sym (mod-eq_of_lt ht)) ∙ taken-cancel n m t e in
      let top : taken n (t * 2 ^ m) x ≡ taken n 0 (bit_xor t x) =
      ap₂ (λ (y z : ℕ). taken n y z) (sym (xor_zero_r (t * 2 ^ m))) (sym (ap (λ (z : ℕ). bit_xor z x) (xor_self t)) ∙ xor_assoc t t x)
      ∙ taken-xor n (t * 2 ^ m) 0 t (bit_xor t x) ∙ ap (λ (z : ℕ). bit_xor z (taken n 0 (bit_xor t x))) gone in
      ap (λ (z : ℕ). taken n z x) (sym (split r m) ∙ sym (xor_shifted t m l (mod-lt r (pow_pos m))) ∙ xor_comm (t * 2 ^ m) l)
      ∙ taken-xor n l (t * 2 ^ m) 0 x
      ∙ ap₂ bit_xor (taken-up n l hl) top
