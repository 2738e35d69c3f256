-- Checksums under a mask, over any width and any generator: what the mask does to each bit, that 0 does nothing, which words test, and under which masks.
use mathlib.Core.Path.{◌≡◌, refl, sym, ap, ap₂, ◌∙◌}
use mathlib.Core.Bool.{true, false, true≢false}
use mathlib.Core.List.{List, ◌++◌}
use Prim.Native.Nat.{ℕ, ◌+◌, ◌-◌, ◌*◌, ◌%◌, ◌^◌, ◌≤◌, ◌<◌}
use native.Mathlib.Nat.{zero-add, zero-mod, mod-lt}
use native.Mathlib.Omega.{arith}
use borrow.Author.Tests.{eqb-true, eq-eqb}
use lib.Bits.{bit_xor, xor_lt, xor_zero_r}
use lib.Dec.{eqb}
use lib.ListN.{length, get_or, take, drop, length-append, length-drop, take-append-drop}
use lib.Pow.{pow_pos}
use lib.Seq.{sets, get_or-append-add, take-append_seam, drop_at, length-take-le}
use Rattle.bits.specs.Bits.{AreBits, same, digits, value_of, unpacked}
use Rattle.bits.proofs.Digits.{length_digits, digits_low, digits-added, value-digits, digits_value}
use Rattle.bits.proofs.Lists.{bits-drop, same_equal, same_self, sets-append}
use Rattle.bits.proofs.Octets.{length-unpacked}
use Rattle.bits.proofs.Ranges.{either_way}
use Rattle.bits.proofs.Xor.{xor_back}
use Rattle.checksum.specs.Crc.{checksum, attached}
use Rattle.checksum.specs.Masked.{under, checksum_under, attached_under, tests_under}
use Rattle.checksum.specs.Steps.Testing.{checks}
use Rattle.checksum.proofs.Attachment.{checksum-lt}

-- ---- a sum under a mask

module _ (w : ℕ) where
  -- "A zero mask gives today's answers"
  under-zero : (s : ℕ) → under w 0 s ≡ s
  unfolding under
  under-zero s = ap (bit_xor s) (zero-mod (2 ^ w)) ∙ xor_zero_r s

  -- "(higher bits ignored)": masks that agree in the width do the same, and no others do
  pub under_same : (m n s : ℕ) → m % 2 ^ w ≡ n % 2 ^ w → under w m s ≡ under w n s
  unfolding under
  under_same m n s e = ap (bit_xor s) e

  under-only : (m n s : ℕ) → under w m s ≡ under w n s → m % 2 ^ w ≡ n % 2 ^ w
  unfolding under
  under-only m n s e = sym (xor_back s (m % 2 ^ w)) ∙ ap (bit_xor s) e ∙ xor_back s (n % 2 ^ w)

  under-lt : (m s : ℕ) → s < 2 ^ w → under w m s < 2 ^ w
  unfolding under
  under-lt m s h = xor_lt w s (m % 2 ^ w) h (mod-lt m (pow_pos w))

  -- "added bit by bit without carry": the highest of the mask's w low bits to the highest of the sum's, and so on
  under-bit : (m s k : ℕ) → get_or (digits w (under w m s)) k 0 ≡ (get_or (digits w s) k 0 + get_or (digits w m) k 0) % 2
  unfolding under
  under-bit m s k =
      digits-added w s (m % 2 ^ w) k ∙ ap (λ (x : List ℕ). (get_or (digits w s) k 0 + get_or x k 0) % 2) (digits_low w m)

-- ---- appending

module _ (w g m : ℕ) where
  -- 5.3.1.1 and 5.3.3.2 of 5G.212: the bits a_k, and behind them (p_k + x_k) mod 2 for the checksum's bits p_k and the mask's bits x_k
  pub attached_under_front : (a : List ℕ) → take (length a) (attached_under w g m a) ≡ a
  unfolding attached_under
  attached_under_front a = take-append_seam a (digits w (checksum_under w g m a))

  pub attached_under_bit : (a : List ℕ) (k : ℕ)
      → get_or (attached_under w g m a) (length a + k) 0 ≡ (get_or (digits w (checksum w g a)) k 0 + get_or (digits w m) k 0) % 2
  unfolding attached_under checksum_under
  attached_under_bit a k =
      get_or-append-add a (digits w (under w m (checksum w g a))) k 0 ∙ under-bit w m (checksum w g a) k

  pub length_attached_under : (a : List ℕ) → length (attached_under w g m a) ≡ length a + w
  unfolding attached_under
  length_attached_under a =
      length-append a (digits w (checksum_under w g m a)) ∙ ap (λ (n : ℕ). length a + n) (length_digits w (checksum_under w g m a))

  -- the bits again, as the part of the word before its last w
  before_last : (a : List ℕ) → take (length (attached_under w g m a) - w) (attached_under w g m a) ≡ a
  before_last a =
      let n : length (attached_under w g m a) - w ≡ length a = omega (arith, length_attached_under a) in
      ap (λ (k : ℕ). take k (attached_under w g m a)) n ∙ attached_under_front a

  -- writing the bits of octets and then the checksum's is writing them attached
  pub sets_attached_under : (out s : List ℕ)
      → sets out 0 (attached_under w g m (unpacked s)) ≡ sets (sets out 0 (unpacked s)) (8 * length s) (digits w (checksum_under w g m (unpacked s)))
  unfolding attached_under
  sets_attached_under out s =
      let p = digits w (checksum_under w g m (unpacked s)) in
      sets-append out 0 (unpacked s) p ∙ ap (λ (n : ℕ). sets (sets out 0 (unpacked s)) n p) (zero-add (length (unpacked s)) ∙ length-unpacked s)

  -- ---- testing holds of exactly the words appended under the mask

  pub tests_sound : (b : List ℕ) → tests_under w g m b ≡ true → b ≡ attached_under w g m (take (length b - w) b)
  unfolding tests_under
  tests_sound b e = same_equal b (attached_under w g m (take (length b - w) b)) e

  pub tests_complete : (a : List ℕ) → tests_under w g m (attached_under w g m a) ≡ true
  unfolding tests_under
  tests_complete a =
      ap (λ (z : List ℕ). same (attached_under w g m a) (attached_under w g m z)) (before_last a) ∙ same_self (attached_under w g m a)

  -- a word shorter than its checksum is no appended word
  pub short_fails : (b : List ℕ) → length b < w → tests_under w g m b ≡ false
  short_fails b h =
      either_way (tests_under w g m b) false
      (λ e. absurd (omega (arith, ap length (tests_sound b e), length_attached_under (take (length b - w) b))))
      (λ e. absurd (true≢false (sym e)))

  module _ (below : g < 2 ^ w) where
    checksum-under-lt : (a : List ℕ) → checksum_under w g m a < 2 ^ w
    unfolding checksum_under
    checksum-under-lt a = under-lt w m (checksum w g a) (checksum-lt w g below a)

    -- recompute and compare decides it
    pub compared : (b : List ℕ) → AreBits b → w ≤ length b
        → eqb (checksum_under w g m (take (length b - w) b)) (value_of (drop (length b - w) b)) ≡ tests_under w g m b
    unfolding tests_under attached_under
    compared b h l =
        let n = length b - w in
        let c = checksum_under w g m (take n b) in
        let front : length (take n b) ≡ n = length-take-le n b (omega arith) in
        let last : length (drop n b) ≡ w = length-drop n b ∙ omega arith in
        either_way (eqb c (value_of (drop n b))) (same b (take n b ++ digits w c))
        (λ e.
        let back : digits w c ≡ drop n b = ap₂ digits (sym last) (eqb-true c (value_of (drop n b)) e) ∙ digits_value (drop n b) (bits-drop n b h) in
        let whole : take n b ++ digits w c ≡ b = ap (λ (z : List ℕ). take n b ++ z) back ∙ take-append-drop n b in
        ap (same b) whole ∙ same_self b)
        (λ e.
        let end : drop n b ≡ digits w c = ap (drop n) (same_equal b (take n b ++ digits w c) e) ∙ drop_at (take n b) (digits w c) n front in
        eq-eqb c (value_of (drop n b)) (sym (ap value_of end ∙ value-digits w c (checksum-under-lt (take n b)))))

-- ---- "A zero mask gives today's answers": appending, and testing

module _ (w g : ℕ) where
  pub checksum_zero_mask : (a : List ℕ) → checksum_under w g 0 a ≡ checksum w g a
  unfolding checksum_under
  checksum_zero_mask a = under-zero w (checksum w g a)

  pub attached_zero_mask : (a : List ℕ) → attached_under w g 0 a ≡ attached w g a
  unfolding attached_under attached
  attached_zero_mask a = ap (λ (c : ℕ). a ++ digits w c) (checksum_zero_mask a)

  pub tests_zero_mask : g < 2 ^ w → (b : List ℕ) → AreBits b → w ≤ length b → tests_under w g 0 b ≡ checks w g b
  unfolding checks
  tests_zero_mask below b h l =
      let n = length b - w in
      sym (compared w g 0 below b h l) ∙ ap (λ (c : ℕ). eqb c (value_of (drop n b))) (checksum_zero_mask (take n b))

  -- ---- a word appended under m tests under n exactly when the two agree in the width

  pub attached_under_same : (m n : ℕ) (a : List ℕ) → m % 2 ^ w ≡ n % 2 ^ w → attached_under w g m a ≡ attached_under w g n a
  unfolding attached_under checksum_under
  attached_under_same m n a e = ap (λ (c : ℕ). a ++ digits w c) (under_same w m n (checksum w g a) e)

  pub tests_same : (m n : ℕ) (a : List ℕ) → m % 2 ^ w ≡ n % 2 ^ w → tests_under w g n (attached_under w g m a) ≡ true
  tests_same m n a e = ap (tests_under w g n) (attached_under_same m n a e) ∙ tests_complete w g n a

  pub tests_only : g < 2 ^ w → (m n : ℕ) (a : List ℕ) → tests_under w g n (attached_under w g m a) ≡ true → m % 2 ^ w ≡ n % 2 ^ w
  unfolding attached_under checksum_under
  tests_only below m n a e =
      let same_word : attached_under w g m a ≡ attached_under w g n a =
      tests_sound w g n (attached_under w g m a) e ∙ ap (attached_under w g n) (before_last w g m a) in
      let x = checksum_under w g m a in
      let y = checksum_under w g n a in
      let ends : digits w x ≡ digits w y =
      sym (drop_at a (digits w x) (length a) refl) ∙ ap (drop (length a)) same_word ∙ drop_at a (digits w y) (length a) refl in
      under-only w m n (checksum w g a)
      (sym (value-digits w x (checksum-under-lt w g m below a)) ∙ ap value_of ends ∙ value-digits w y (checksum-under-lt w g n below a))
