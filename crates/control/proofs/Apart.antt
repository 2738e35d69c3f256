-- Equal streams come from equal words: each input bit is a sum of five bits of the streams of 171 and 165.
use mathlib.Core.Path.{◌≡◌, sym, ap, ap₂, ◌∙◌}
use mathlib.Core.List.{List}
use Prim.Native.Nat.{ℕ, ◌+◌, ◌-◌, ◌%◌, ◌≤◌, ◌<◌}
use native.Mathlib.Nat.{add_assoc, mod-lt, mod-eq_of_lt, mod-add-mod, add-mod_right}
use native.Mathlib.Omega.{arith}
use lib.ListN.{length, get_or}
use lib.Seq.{ext_get_or}
use Rattle.bits.specs.Bits.{AreBits}
use Rattle.control.specs.Register.{stream, preset, streams}
use Rattle.control.proofs.Registers.{second_in, third_in}
use Rattle.control.proofs.Taps.{round, second-sum, third-sum}

-- modulo two: the streams of 171 and 165 differ by two input bits
two-of : (a b d e f x y z : ℕ) → x ≡ (a + b + d + e + z) % 2 → y ≡ (a + b + d + f + z) % 2 → (x + y) % 2 ≡ (e + f) % 2
two-of a b d e f x y z p q = omega arith

both_of : (p q u v : ℕ) → u % 2 ≡ p % 2 → v % 2 ≡ q % 2 → (u + v) % 2 ≡ (p + q) % 2
both_of p q u v e g = omega arith

left-of : (y f x w : ℕ) → f < 2 → x % 2 ≡ y % 2 → w ≡ (y + f) % 2 → (x + w) % 2 ≡ f
left-of y f x w l e g = omega arith

one_of : (a b d e f u v w : ℕ) → f < 2 → u % 2 ≡ (a + b) % 2 → v % 2 ≡ (d + e) % 2 → w ≡ (a + b + d + e + f) % 2 → (u + v + w) % 2 ≡ f
one_of a b d e f u v w l p q r =
    left-of (a + b + (d + e)) f (u + v) w l (both_of (a + b) (d + e) u v p q) (r ∙ ap (λ (x : ℕ). (x + f) % 2) (add_assoc (a + b) d e))

-- the places that the sums share
nine_three : (k : ℕ) → k + 9 - 3 ≡ k + 6 - 0
nine_three k = omega arith

nine_four : (k : ℕ) → k + 9 - 4 ≡ k + 6 - 1
nine_four k = omega arith

seven_three : (k : ℕ) → k + 7 - 3 ≡ k + 6 - 2
seven_three k = omega arith

seven_four : (k : ℕ) → k + 7 - 4 ≡ k + 6 - 3
seven_four k = omega arith

module _ (c : List ℕ) (bits : AreBits c) (six : 6 ≤ length c) where
  -- the bit j before the place m, where both go round
  round-back : (m j : ℕ) → j ≤ m → j ≤ 6 → round c (m % length c + (length c - j)) ≡ round c (m - j)
  unfolding round
  round-back m j h l =
      let e : m + (length c - j) ≡ m - j + length c = omega arith in
      ap (λ (i : ℕ). get_or c i 0) (mod-add-mod m (length c) (length c - j) ∙ ap (λ (i : ℕ). i % length c) e ∙ add-mod_right (m - j) (length c))

  -- the streams of 171 and 165, round and round
  unfoldable second : ℕ → ℕ
  second m = get_or (stream 0o171 (preset c) c) (m % length c) 0

  unfoldable third : ℕ → ℕ
  third m = get_or (stream 0o165 (preset c) c) (m % length c) 0

  second_at : (m : ℕ) → 6 ≤ m → second m ≡ (round c (m - 0) + round c (m - 1) + round c (m - 2) + round c (m - 3) + round c (m - 6)) % 2
  unfolding second
  second_at m h =
      second-sum c bits six (m % length c) (mod-lt m (omega arith))
      ∙ rw (round-back m 0 (omega arith) (omega arith), round-back m 1 (omega arith) (omega arith), round-back m 2 (omega arith) (omega arith), round-back m 3 (omega arith) (omega arith), round-back m 6 h (omega arith))

  third_at : (m : ℕ) → 6 ≤ m → third m ≡ (round c (m - 0) + round c (m - 1) + round c (m - 2) + round c (m - 4) + round c (m - 6)) % 2
  unfolding third
  third_at m h =
      third-sum c bits six (m % length c) (mod-lt m (omega arith))
      ∙ rw (round-back m 0 (omega arith) (omega arith), round-back m 1 (omega arith) (omega arith), round-back m 2 (omega arith) (omega arith), round-back m 4 (omega arith) (omega arith), round-back m 6 h (omega arith))

  round-own : (k : ℕ) → k < length c → round c (k + 6 - 6) ≡ get_or c k 0
  unfolding round
  round-own k h =
      let back : k + 6 - 6 ≡ k = omega arith in
      ap (λ (i : ℕ). get_or c i 0) (ap (λ (i : ℕ). i % length c) back ∙ mod-eq_of_lt h)

  word-bit : (k : ℕ) → k < length c → (second (k + 9) + third (k + 9) + (second (k + 7) + third (k + 7)) + second (k + 6)) % 2 ≡ get_or c k 0
  word-bit k h =
      let low : round c (k + 6 - 6) < 2 = rw (round-own k h) (bits k) in
      let nine : (second (k + 9) + third (k + 9)) % 2 ≡ (round c (k + 9 - 3) + round c (k + 9 - 4)) % 2 =
      two-of _ _ _ _ _ _ _ _ (second_at (k + 9) (omega arith)) (third_at (k + 9) (omega arith)) in
      let seven : (second (k + 7) + third (k + 7)) % 2 ≡ (round c (k + 7 - 3) + round c (k + 7 - 4)) % 2 =
      two-of _ _ _ _ _ _ _ _ (second_at (k + 7) (omega arith)) (third_at (k + 7) (omega arith)) in
      one_of (round c (k + 6 - 0)) (round c (k + 6 - 1)) (round c (k + 6 - 2)) (round c (k + 6 - 3)) (round c (k + 6 - 6)) _ _ _ low
      (nine ∙ ap₂ (λ (x y : ℕ). (round c x + round c y) % 2) (nine_three k) (nine_four k))
      (seven ∙ ap₂ (λ (x y : ℕ). (round c x + round c y) % 2) (seven_three k) (seven_four k)) (second_at (k + 6) (six-more k))
      ∙ round-own k h
    where
      six-more : (k : ℕ) → 6 ≤ k + 6
      six-more k = omega arith

-- ---- by the three streams

-- an input bit by five bits of the three streams
unfoldable five_of : ℕ → List ℕ → ℕ → ℕ
five_of D s k =
    (get_or s (D + (k + 9) % D) 0 + get_or s (D + D + (k + 9) % D) 0 + (get_or s (D + (k + 7) % D) 0 + get_or s (D + D + (k + 7) % D) 0) + get_or s (D + (k + 6) % D) 0) % 2

five-is : (c : List ℕ) → AreBits c → 6 ≤ length c → (k : ℕ) → k < length c → five_of (length c) (streams c) k ≡ get_or c k 0
unfolding five_of second third
five-is c bits six k h =
    let some : 0 < length c = omega arith in
    let low : (m : ℕ) → m % length c < length c = λ m. mod-lt m some in
    rw (
      second_in c ((k + 9) % length c) (low (k + 9)),
      third_in c ((k + 9) % length c) (low (k + 9)),
      second_in c ((k + 7) % length c) (low (k + 7)),
      third_in c ((k + 7) % length c) (low (k + 7)),
      second_in c ((k + 6) % length c) (low (k + 6)),
    ) (word-bit c bits six k h)

pub words-apart : (c d : List ℕ) → AreBits c → AreBits d → 6 ≤ length c → length d ≡ length c → streams c ≡ streams d → c ≡ d
words-apart c d hc hd six e q =
    ext_get_or 0 c d (sym e)
    (λ k h.
    let long : 6 ≤ length d = omega arith in
    sym (five-is c hc six k h) ∙ ap₂ (λ (n : ℕ) (s : List ℕ). five_of n s k) (sym e) q ∙ five-is d hd long k (omega arith))
