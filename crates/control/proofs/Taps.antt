-- The streams as sums of input bits over the taps of their generators, indices modulo D.
use mathlib.Core.Path.{◌≡◌, refl, sym, ap, ◌∙◌}
use mathlib.Core.Bool.{true}
use mathlib.Core.List.{List, [], ◌∷◌}
use Prim.Native.Nat.{ℕ, zero, suc, ◌+◌, ◌-◌, ◌*◌, ◌/◌, ◌%◌, ◌≤◌, ◌<◌}
use native.Mathlib.Nat.{mod-eq_of_lt, mod-eq-sub-mod}
use native.Mathlib.Omega.{arith}
use borrow.Author.Tests.{eqb-true}
use lib.Count.{ones, ones_in}
use lib.Dec.{eqb}
use lib.ListN.{length, get_or, drop, length-drop}
use lib.Seq.{get_or-drop}
use Rattle.bits.specs.Bits.{AreBits, digits, read_on, value_of}
use Rattle.bits.specs.Ranges.{all_below, list_below}
use Rattle.bits.proofs.Digits.{digits_value}
use Rattle.bits.proofs.Listed.{length_list}
use Rattle.bits.proofs.Lists.{bits-drop}
use Rattle.bits.proofs.Ranges.{all-at}
use Rattle.control.proofs.Collecting.{list_bits}
use Rattle.control.specs.Register.{output, stream, after, preset}

-- ---- the register by the bits in it, h k the oldest

unfoldable pub state : (ℕ → ℕ) → ℕ → ℕ
state h k = h k + h (k + 1) * 2 + h (k + 2) * 4 + h (k + 3) * 8 + h (k + 4) * 16 + h (k + 5) * 32

unfoldable pub register : (ℕ → ℕ) → ℕ → ℕ
register h k = h (k + 6) * 64 + state h k

-- one step
state_step : (h : ℕ → ℕ) (k : ℕ) → ((m : ℕ) → h m < 2) → register h k / 2 ≡ state (λ m. h (suc m)) k
unfolding register state
state_step h k bits =
    let e : suc (k + 5) ≡ k + 6 = omega arith in
    let e4 : suc (k + 4) ≡ k + 5 = omega arith in
    let e3 : suc (k + 3) ≡ k + 4 = omega arith in
    let e2 : suc (k + 2) ≡ k + 3 = omega arith in
    let e1 : suc (k + 1) ≡ k + 2 = omega arith in
    let e0 : suc k ≡ k + 1 = omega arith in
    omega (arith, bits k, ap h e, ap h e4, ap h e3, ap h e2, ap h e1, ap h e0)

shifted : (h : ℕ → ℕ) (k : ℕ) → register (λ m. h (suc m)) k ≡ register h (suc k)
unfolding register state
shifted h k =
    let at : (j : ℕ) → h (suc (k + j)) ≡ h (suc k + j) = λ j. ap h (omega arith) in
    omega (arith, at 1, at 2, at 3, at 4, at 5, at 6)

register-first : (s b : ℕ) (h : ℕ → ℕ) → s ≡ state h 0 → b ≡ h (0 + 6) → b * 64 + s ≡ register h 0
unfolding register
register-first s b h e q = omega (arith, e, q)

-- the output at each place, by the bits in the register then
pub stream_at : (g s : ℕ) (c : List ℕ) (h : ℕ → ℕ) → ((m : ℕ) → h m < 2) → s ≡ state h 0 → ((m : ℕ) → m < length c → get_or c m 0 ≡ h (m + 6))
    → (k : ℕ) → k < length c → get_or (stream g s c) k 0 ≡ output g (register h k)
unfolding stream
stream_at g s [] h bits e in_c k l = absurd (omega arith)
stream_at g s (b ∷ c) h bits e in_c zero l = ap (output g) (register-first s b h e (in_c 0 (omega arith)))
stream_at g s (b ∷ c) h bits e in_c (suc k) l =
    stream_at g ((b * 64 + s) / 2) c (λ m. h (suc m)) (λ m. bits (suc m)) (ap (λ (r : ℕ). r / 2) (register-first s b h e (in_c 0 (omega arith))) ∙ state_step h 0 bits)
    (λ m n. in_c (suc m) (omega arith) ∙ ap h (omega arith)) k (omega arith)
    ∙ ap (output g) (shifted h k)

-- ---- the bits of a word, round and round

unfoldable pub round : List ℕ → ℕ → ℕ
round c m = get_or c (m % length c) 0

-- what stands in the register: the six bits before the word are its last six
unfoldable pub before : List ℕ → ℕ → ℕ
before c m = round c (m + (length c - 6))

-- six bits from nothing
six-is : (c : List ℕ) → length c ≡ 6 → AreBits c
    → after 0 c ≡ get_or c 0 0 + get_or c 1 0 * 2 + get_or c 2 0 * 4 + get_or c 3 0 * 8 + get_or c 4 0 * 16 + get_or c 5 0 * 32
unfolding after
six-is [] l h = absurd (omega arith)
six-is (a ∷ []) l h = absurd (omega arith)
six-is (a ∷ b ∷ []) l h = absurd (omega arith)
six-is (a ∷ b ∷ d ∷ []) l h = absurd (omega arith)
six-is (a ∷ b ∷ d ∷ e ∷ []) l h = absurd (omega arith)
six-is (a ∷ b ∷ d ∷ e ∷ f ∷ []) l h = absurd (omega arith)
six-is (a ∷ b ∷ d ∷ e ∷ f ∷ g ∷ []) l h = omega (arith, h 0, h 1, h 2, h 3, h 4, h 5)
six-is (a ∷ b ∷ d ∷ e ∷ f ∷ g ∷ i ∷ c) l h = absurd (omega arith)

module _ (c : List ℕ) (bits : AreBits c) (six : 6 ≤ length c) where
  before-bits : (m : ℕ) → before c m < 2
  unfolding before round
  before-bits m = bits _

  last-six : (i : ℕ) → i < 6 → get_or (drop (length c - 6) c) i 0 ≡ before c (0 + i)
  unfolding before round
  last-six i h =
      let at : length c - 6 + i ≡ 0 + i + (length c - 6) = omega arith in
      get_or-drop (length c - 6) c i 0 ∙ ap (λ (j : ℕ). get_or c j 0) (at ∙ sym (mod-eq_of_lt (omega arith)))

  preset-state : preset c ≡ state (before c) 0
  unfolding preset state
  preset-state =
      let d = drop (length c - 6) c in
      let size : length d ≡ 6 = length-drop (length c - 6) c ∙ omega arith in
      let zero_is : before c (0 + 0) ≡ before c 0 = ap (before c) (omega arith) in
      six-is d size (bits-drop (length c - 6) c bits)
      ∙ omega (arith, last-six 0 (omega arith), last-six 1 (omega arith), last-six 2 (omega arith), last-six 3 (omega arith), last-six 4 (omega arith), last-six 5 (omega arith), zero_is)

  value-is : (f : ℕ → ℕ) → ((i : ℕ) → f i ≡ get_or c (length c - 1 - i) 0) → value_of (list_below 6 f) ≡ preset c
  unfolding value_of read_on list_below preset
  value-is f is =
      let d = drop (length c - 6) c in
      let size : length d ≡ 6 = length-drop (length c - 6) c ∙ omega arith in
      let at : (i : ℕ) → i < 6 → get_or d (5 - i) 0 ≡ f i =
      λ i h. get_or-drop (length c - 6) c (5 - i) 0 ∙ ap (λ (j : ℕ). get_or c j 0) (omega arith) ∙ sym (is i) in
      omega (arith, six-is d size (bits-drop (length c - 6) c bits), at 0 (omega arith), at 1 (omega arith), at 2 (omega arith), at 3 (omega arith), at 4 (omega arith), at 5 (omega arith))

  -- its digits are the last six bits, the newest first
  pub preset-digits : digits 6 (preset c) ≡ list_below 6 (λ i. get_or c (length c - 1 - i) 0)
  preset-digits =
      let f : ℕ → ℕ = λ i. get_or c (length c - 1 - i) 0 in
      ap (digits 6) (sym (value-is f (λ i. refl))) ∙ ap (λ (n : ℕ). digits n (value_of (list_below 6 f))) (sym (length_list 6 f))
      ∙ digits_value (list_below 6 f) (list_bits 6 f (λ i. bits (length c - 1 - i)))

  word_at : (m : ℕ) → m < length c → get_or c m 0 ≡ before c (m + 6)
  unfolding before round
  word_at m h =
      let over : length c ≤ m + 6 + (length c - 6) = omega arith in
      let back : m + 6 + (length c - 6) - length c ≡ m = omega arith in
      ap (λ (j : ℕ). get_or c j 0) (sym (mod-eq-sub-mod over ∙ ap (λ (x : ℕ). x % length c) back ∙ mod-eq_of_lt h))

  -- the register at step k holds the bits k, k − 1, .. k − 6, round and round
  pub stream-is : (g k : ℕ) → k < length c → get_or (stream g (preset c) c) k 0 ≡ output g (register (before c) k)
  stream-is g k h = stream_at g (preset c) c (before c) before-bits preset-state word_at k h

  pub held_at : (j k : ℕ) → j ≤ 6 → before c (k + (6 - j)) ≡ round c (k + (length c - j))
  unfolding before
  held_at j k h = ap (round c) (omega arith)

-- ---- the parity of a masked register is a sum over the taps

tap_first : ℕ → ℕ
tap_first r = (r / 64 + r / 16 + r / 8 + r / 2 + r) % 2

tap_second : ℕ → ℕ
tap_second r = (r / 64 + r / 32 + r / 16 + r / 8 + r) % 2

tap_third : ℕ → ℕ
tap_third r = (r / 64 + r / 32 + r / 16 + r / 4 + r) % 2

test-first : all_below 128 (λ r. eqb (output 0o133 r) (tap_first r)) ≡ true
unfolding all_below output ones ones_in tap_first
test-first = refl

test-second : all_below 128 (λ r. eqb (output 0o171 r) (tap_second r)) ≡ true
unfolding all_below output ones ones_in tap_second
test-second = refl

test-third : all_below 128 (λ r. eqb (output 0o165 r) (tap_third r)) ≡ true
unfolding all_below output ones ones_in tap_third
test-third = refl

module _ (h : ℕ → ℕ) (k : ℕ) (bits : (m : ℕ) → h m < 2) where
  register-lt : register h k < 128
  unfolding register state
  register-lt = omega (arith, bits k, bits (k + 1), bits (k + 2), bits (k + 3), bits (k + 4), bits (k + 5), bits (k + 6))

  -- the register from its digit i on
  from-0 : register h k ≡ h k + (h (k + 1) + h (k + 2) * 2 + h (k + 3) * 4 + h (k + 4) * 8 + h (k + 5) * 16 + h (k + 6) * 32) * 2
  unfolding register state
  from-0 = omega arith

  from-1 : register h k / 2 ≡ h (k + 1) + (h (k + 2) + h (k + 3) * 2 + h (k + 4) * 4 + h (k + 5) * 8 + h (k + 6) * 16) * 2
  from-1 = omega (arith, from-0, bits k)

  from-2 : register h k / 4 ≡ h (k + 2) + (h (k + 3) + h (k + 4) * 2 + h (k + 5) * 4 + h (k + 6) * 8) * 2
  from-2 = omega (arith, from-0, bits k, bits (k + 1))

  from-3 : register h k / 8 ≡ h (k + 3) + (h (k + 4) + h (k + 5) * 2 + h (k + 6) * 4) * 2
  from-3 = omega (arith, from-0, bits k, bits (k + 1), bits (k + 2))

  from-4 : register h k / 16 ≡ h (k + 4) + (h (k + 5) + h (k + 6) * 2) * 2
  from-4 = omega (arith, from-0, bits k, bits (k + 1), bits (k + 2), bits (k + 3))

  from-5 : register h k / 32 ≡ h (k + 5) + h (k + 6) * 2
  from-5 = omega (arith, from-0, bits k, bits (k + 1), bits (k + 2), bits (k + 3), bits (k + 4))

  from-6 : register h k / 64 ≡ h (k + 6)
  from-6 = omega (arith, from-0, bits k, bits (k + 1), bits (k + 2), bits (k + 3), bits (k + 4), bits (k + 5))

  pub output-first : output 0o133 (register h k) ≡ (h (k + 6) + h (k + 4) + h (k + 3) + h (k + 1) + h k) % 2
  unfolding tap_first
  output-first =
      eqb-true _ _ (all-at 128 (λ r. eqb (output 0o133 r) (tap_first r)) test-first (register h k) register-lt)
      ∙ rw (from-6, from-4, from-3, from-1, from-0) (omega arith)

  pub output-second : output 0o171 (register h k) ≡ (h (k + 6) + h (k + 5) + h (k + 4) + h (k + 3) + h k) % 2
  unfolding tap_second
  output-second =
      eqb-true _ _ (all-at 128 (λ r. eqb (output 0o171 r) (tap_second r)) test-second (register h k) register-lt)
      ∙ rw (from-6, from-5, from-4, from-3, from-0) (omega arith)

  pub output-third : output 0o165 (register h k) ≡ (h (k + 6) + h (k + 5) + h (k + 4) + h (k + 2) + h k) % 2
  unfolding tap_third
  output-third =
      eqb-true _ _ (all-at 128 (λ r. eqb (output 0o165 r) (tap_third r)) test-third (register h k) register-lt)
      ∙ rw (from-6, from-5, from-4, from-2, from-0) (omega arith)

-- ---- the three streams: bit k is the sum of the bits k − j, indices modulo D, over the taps 0 2 3 5 6, 0 1 2 3 6 and 0 1 2 4 6

module _ (c : List ℕ) (bits : AreBits c) (six : 6 ≤ length c) (k : ℕ) (h : k < length c) where
  here : before c (k + 6) ≡ round c (k + (length c - 0))
  here = held_at c bits six 0 k (omega arith)

  oldest : before c k ≡ round c (k + (length c - 6))
  oldest = ap (before c) (omega arith) ∙ held_at c bits six 6 k (omega arith)

  held : (j : ℕ) → j ≤ 6 → before c (k + (6 - j)) ≡ round c (k + (length c - j))
  held j l = held_at c bits six j k l

  pub first-sum : get_or (stream 0o133 (preset c) c) k 0
      ≡ (round c (k + (length c - 0)) + round c (k + (length c - 2)) + round c (k + (length c - 3)) + round c (k + (length c - 5)) + round c (k + (length c - 6))) % 2
  first-sum =
      stream-is c bits six 0o133 k h ∙ output-first (before c) k (before-bits c bits six)
      ∙ rw (here, held 2 (omega arith), held 3 (omega arith), held 5 (omega arith), oldest)

  pub second-sum : get_or (stream 0o171 (preset c) c) k 0
      ≡ (round c (k + (length c - 0)) + round c (k + (length c - 1)) + round c (k + (length c - 2)) + round c (k + (length c - 3)) + round c (k + (length c - 6))) % 2
  second-sum =
      stream-is c bits six 0o171 k h ∙ output-second (before c) k (before-bits c bits six)
      ∙ rw (here, held 1 (omega arith), held 2 (omega arith), held 3 (omega arith), oldest)

  pub third-sum : get_or (stream 0o165 (preset c) c) k 0
      ≡ (round c (k + (length c - 0)) + round c (k + (length c - 1)) + round c (k + (length c - 2)) + round c (k + (length c - 4)) + round c (k + (length c - 6))) % 2
  third-sum =
      stream-is c bits six 0o165 k h ∙ output-third (before c) k (before-bits c bits six)
      ∙ rw (here, held 1 (omega arith), held 2 (omega arith), held 4 (omega arith), oldest)
