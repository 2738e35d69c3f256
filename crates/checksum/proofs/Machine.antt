-- What the code's shifts compute at 32 bits, over any width that has room there, and what it cuts off a number of any size.
use mathlib.Core.Path.{◌≡◌, sym, ap, ap₂, ◌∙◌, subst}
use mathlib.Core.List.{List}
use Prim.Native.Nat.{ℕ, ◌+◌, ◌-◌, ◌*◌, ◌/◌, ◌%◌, ◌^◌, ◌≤◌, ◌<◌}
use native.Mathlib.Nat.{mod-lt, zero-mul, one-mul, add-zero, mod-eq_of_lt, mul-mod_left, mul-div_cancel}
use native.Mathlib.Omega.{arith}
use lib.Bits.{bit_xor, bit_and, and_mask, xor_lt, xor_zero_r, xor_comm, xor_shr}
use lib.Dec.{lit<}
use lib.ListN.{get_or}
use lib.Pow.{pow_pos, mod-pow-add, field, shl_exact, shl_lt, shr_lt, shr-shr}
use Rattle.bits.specs.Bits.{digits}
use Rattle.bits.proofs.Xor.{xor_assoc}
use Rattle.checksum.specs.Crc.{reduce}
use Rattle.checksum.specs.Steps.Register.{stepped, fed}
use Rattle.checksum.specs.Steps.Table.{Left, generator_of}
use Rattle.checksum.proofs.AtOnce.{fed_at_once}

-- ---- `x & ((1 << w) - 1)`, at n bits

module _ (n w : ℕ) (h : w < n) where
  one_shifted : (1 * 2 ^ w) % 2 ^ n ≡ 2 ^ w
  one_shifted = shl_exact 1 w n (lit< tt) (omega arith) ∙ one-mul (2 ^ w)

  pub ones-some : 1 ≤ (1 * 2 ^ w) % 2 ^ n
  ones-some = rw one_shifted (pow_pos w)

  pub low_bits : (x : ℕ) → bit_and x ((1 * 2 ^ w) % 2 ^ n - 1) ≡ x % 2 ^ w
  low_bits x = ap (λ (k : ℕ). bit_and x (k - 1)) one_shifted ∙ and_mask x w

  -- so cut, it has no more than w bits
  pub low_lt : (x y : ℕ) → y ≡ x % 2 ^ w → y < 2 ^ w
  low_lt x y e = subst (λ (k : ℕ). k < 2 ^ w) (sym e) (mod-lt x (pow_pos w))

-- ---- one bit

-- `(reg << 1) ^ (bit << w)`
abbrev pub raw : ℕ → ℕ → ℕ → ℕ
raw w reg bit = bit_xor ((reg * 2) % 2 ^ 32) ((bit * 2 ^ w) % 2 ^ 32)

module _ (w g reg bit : ℕ) (hw : w ≤ 24) (hr : reg < 2 ^ w) (hb : bit < 2) (low : ℕ) (is : low ≡ raw w reg bit % 2 ^ w) where
  raw-is : raw w reg bit ≡ bit_xor (reg * 2) (bit * 2 ^ w)
  raw-is = ap₂ bit_xor (shl_exact w 1 32 hr (omega arith)) (shl_exact 1 w 32 hb (omega arith))

  raw-lt : raw w reg bit < 2 ^ (1 + w)
  raw-lt =
      let h : reg * 2 < 2 ^ (1 + w) = subst (λ (n : ℕ). reg * 2 < 2 ^ n) (omega arith) (shl_lt w 1 hr) in
      rw raw-is (xor_lt (1 + w) (reg * 2) (bit * 2 ^ w) h (shl_lt 1 w hb))

  with-top : (d : ℕ) → raw w reg bit / 2 ^ w ≡ d → bit_xor low (d * g) ≡ stepped w g reg bit
  unfolding stepped reduce
  with-top d e =
      ap₂ (λ (p q : ℕ). bit_xor p (q * g)) is (sym e ∙ sym (mod-eq_of_lt (shr_lt 1 w raw-lt))) ∙ ap (reduce w g) raw-is

  -- the digit of D^w is not there
  pub without_top : raw w reg bit / 2 ^ w ≡ 0 → low ≡ stepped w g reg bit
  without_top e = sym (xor_zero_r low) ∙ ap (bit_xor low) (sym (zero-mul g)) ∙ with-top 0 e

  -- it is, and the generator goes
  pub less-generator : (raw w reg bit / 2 ^ w ≡ 0 → ⊥) → bit_xor low g ≡ stepped w g reg bit
  less-generator n =
      let h : raw w reg bit / 2 ^ w < 2 = shr_lt 1 w raw-lt in
      ap (bit_xor low) (sym (one-mul g)) ∙ with-top 1 (omega arith)

-- ---- eight bits more: the register moved up, without its top octet

-- at 32 bits nothing goes over the top
pub moved_up : (w reg : ℕ) → reg < 2 ^ w → w ≤ 24 → (reg * 2 ^ 8) % 2 ^ 32 % 2 ^ w ≡ (reg * 2 ^ 8) % 2 ^ w
moved_up w reg hr most = ap (λ (y : ℕ). y % 2 ^ w) (shl_exact w 8 32 hr (omega arith))

-- its top octet then, where it stood before
pub second_octet : (w reg : ℕ) → 16 ≤ w → bit_and (reg / 2 ^ (w - 16)) 255 ≡ (reg * 2 ^ 8) % 2 ^ w / 2 ^ (w - 8)
second_octet w reg h =
    let below : 8 + (w - 8) ≡ w = omega arith in
    let apart : 8 + (w - 16) ≡ w - 8 = omega arith in
    let n = reg * 2 ^ 8 in
    and_mask (reg / 2 ^ (w - 16)) 8
    ∙ ap (λ (y : ℕ). y / 2 ^ (w - 16) % 2 ^ 8) (sym (mul-div_cancel reg (pow_pos 8)))
    ∙ ap (λ (y : ℕ). y % 2 ^ 8) (shr-shr n 8 (w - 16) ∙ ap (λ (k : ℕ). n / 2 ^ k) apart)
    ∙ sym (field n 8 (w - 8))
    ∙ ap (λ (k : ℕ). n % 2 ^ k / 2 ^ (w - 8)) below

-- the place of the next octet from the parts of the register that is looked for
pub place-apart : (m up t top next x : ℕ) → top ≡ t / 2 ^ m → next ≡ up / 2 ^ m → bit_xor top (bit_xor next x) ≡ bit_xor (bit_xor up t / 2 ^ m) x
place-apart m up t top next x p q =
    ap₂ (λ (y z : ℕ). bit_xor y (bit_xor z x)) p q
    ∙ sym (xor_assoc (t / 2 ^ m) (up / 2 ^ m) x)
    ∙ ap (λ (y : ℕ). bit_xor y x) (xor_comm (t / 2 ^ m) (up / 2 ^ m) ∙ sym (xor_shr up t m))

-- one look at a table: i is the place
pub one_look : (w reg x : ℕ) (left : List ℕ) → Left w left → reg < 2 ^ w → (i : ℕ) → i ≡ bit_xor (reg / 2 ^ (w - 8)) x → i < 256
    → bit_xor ((reg * 2 ^ 8) % 2 ^ w) (get_or left i 0) ≡ fed w (generator_of left) reg (digits 8 x)
one_look w reg x left h hr i place inside =
    let m = w - 8 in
    let below : m + 8 ≡ w = omega (arith, h.wide) in
    let rest : (reg * 2 ^ 8) % 2 ^ w ≡ reg % 2 ^ m * 2 ^ 8 =
    ap (λ (n : ℕ). (reg * 2 ^ 8) % 2 ^ n) (sym below)
    ∙ mod-pow-add (reg * 2 ^ 8) m 8
    ∙ ap₂ (λ (y z : ℕ). y % 2 ^ m * 2 ^ 8 + z) (mul-div_cancel reg (pow_pos 8)) (mul-mod_left reg (2 ^ 8))
    ∙ add-zero (reg % 2 ^ m * 2 ^ 8) in
    ap₂ bit_xor rest (h.entry i inside ∙ ap (λ (k : ℕ). fed w (generator_of left) 0 (digits 8 k)) place)
    ∙ sym (fed_at_once w (generator_of left) 8 m reg x below hr)
