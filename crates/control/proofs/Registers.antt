-- The register comes round: six bits wash out any state. And the loops that preset it and write its streams.
use mathlib.Core.Path.{◌≡◌, refl, sym, ap, ◌∙◌}
use mathlib.Core.List.{List, [], ◌∷◌, ◌++◌}
use Prim.Native.Nat.{ℕ, zero, suc, ◌+◌, ◌-◌, ◌*◌, ◌/◌, ◌≤◌, ◌<◌}
use native.Mathlib.Nat.{add_assoc}
use native.Mathlib.Numerals.{add-one}
use native.Mathlib.Omega.{arith}
use lib.ListN.{length, get_or, take, drop, length-drop, length-append, take-append-drop, drop_of_length-le, get_or-append}
use lib.Seq.{drop-cons, get_or-append-add, take_at, take_all}
use Rattle.bits.specs.Bits.{AreBits}
use Rattle.bits.proofs.Lists.{bits-take, bits-append}
use Rattle.bits.proofs.Listed.{list_of}
use Rattle.control.specs.Steps.Order.{Three, Threes}
use Rattle.control.proofs.Loops.{threes_turn, threes_all}
use Rattle.control.specs.Register.{output, stream, after, preset, streams}

pub length-stream : (g s : ℕ) (c : List ℕ) → length (stream g s c) ≡ length c
unfolding stream
length-stream g s [] = refl
length-stream g s (b ∷ c) = ap suc (length-stream g ((b * 64 + s) / 2) c)

pub after-append : (s : ℕ) (a b : List ℕ) → after s (a ++ b) ≡ after (after s a) b
unfolding after
after-append s [] b = refl
after-append s (x ∷ a) b = after-append ((x * 64 + s) / 2) a b

pub after_lt : (s : ℕ) (c : List ℕ) → s < 64 → AreBits c → after s c < 64
unfolding after
after_lt s [] l h = l
after_lt s (b ∷ c) l h =
    let bit : b < 2 = h 0 in
    after_lt ((b * 64 + s) / 2) c (omega arith) (λ k. h (suc k))

-- six bits wash out the state
pub washed : (s t : ℕ) (c : List ℕ) → s < 64 → t < 64 → 6 ≤ length c → after s c ≡ after t c
unfolding after
washed s t [] hs ht l = absurd (omega arith)
washed s t (a ∷ []) hs ht l = absurd (omega arith)
washed s t (a ∷ b ∷ []) hs ht l = absurd (omega arith)
washed s t (a ∷ b ∷ d ∷ []) hs ht l = absurd (omega arith)
washed s t (a ∷ b ∷ d ∷ e ∷ []) hs ht l = absurd (omega arith)
washed s t (a ∷ b ∷ d ∷ e ∷ g ∷ []) hs ht l = absurd (omega arith)
washed s t (a ∷ b ∷ d ∷ e ∷ g ∷ h ∷ c) hs ht l = ap (λ (x : ℕ). after x c) (omega arith)

-- "initial and final states are the same", whatever the state at first
pub comes_round : (s : ℕ) (c : List ℕ) → s < 64 → AreBits c → 6 ≤ length c → after s c ≡ preset c
unfolding preset
comes_round s c l h m =
    let n = length c - 6 in
    ap (λ (x : List ℕ). after s x) (sym (take-append-drop n c)) ∙ after-append s (take n c) (drop n c)
    ∙ washed (after s (take n c)) 0 (drop n c) (after_lt s (take n c) l (bits-take n c h)) (omega arith) (omega (arith, length-drop n c))

pub preset_lt : (c : List ℕ) → AreBits c → 6 ≤ length c → preset c < 64
preset_lt c h m = let e = comes_round 0 c (omega arith) h m in omega (arith, after_lt 0 c (omega arith) h)

-- ---- the loops

pub preset-first : (c : List ℕ) → after 0 (take (length c - (length c - 6)) (drop (length c - 6) c)) ≡ preset c
unfolding preset
preset-first c = ap (after 0) (take_all (length c - (length c - 6)) (drop (length c - 6) c) (omega (arith, length-drop (length c - 6) c)))

pub preset_turn : (s i r : ℕ) (c : List ℕ) → i < length c → r ≡ get_or c i 0 * 64 + s → after s (drop i c) ≡ after (r / 2) (drop (i + 1) c)
unfolding after
preset_turn s i r c h e = rw (e, add-one, drop-cons c i 0)

pub preset_end : (s i : ℕ) (c : List ℕ) → length c ≤ i → after s (drop i c) ≡ s
unfolding after
preset_end s i c h = rw (drop_of_length-le c h)

pub after_none : (s : ℕ) (c : List ℕ) → s ≡ after s (take 0 c)
unfolding after
after_none s c = refl

-- what is put out at a step, and the state then
stream_step : (g s : ℕ) (c : List ℕ) (k : ℕ) → k < length c → get_or (stream g s c) k 0 ≡ output g (get_or c k 0 * 64 + after s (take k c))
unfolding stream after
stream_step g s [] k h = absurd (omega arith)
stream_step g s (b ∷ c) zero h = refl
stream_step g s (b ∷ c) (suc k) h = stream_step g ((b * 64 + s) / 2) c k (omega arith)

after_step : (s : ℕ) (c : List ℕ) (k : ℕ) → k < length c → (get_or c k 0 * 64 + after s (take k c)) / 2 ≡ after s (take (suc k) c)
unfolding after
after_step s [] k h = absurd (omega arith)
after_step s (b ∷ c) zero h = refl
after_step s (b ∷ c) (suc k) h = after_step ((b * 64 + s) / 2) c k (omega arith)

-- ---- the streams of a word are 3D bits

pub length-streams : (c : List ℕ) → length (streams c) ≡ length c + length c + length c
unfolding streams
length-streams c =
    let s = preset c in
    omega (
      arith,
      length-append (stream 0o133 s c) (stream 0o171 s c ++ stream 0o165 s c),
      length-append (stream 0o171 s c) (stream 0o165 s c),
      length-stream 0o133 s c,
      length-stream 0o171 s c,
      length-stream 0o165 s c,
    )

-- where each stands among them
module _ (c : List ℕ) where
  behind : (g i : ℕ) (l : List ℕ) → get_or (stream g (preset c) c ++ l) (length c + i) 0 ≡ get_or l i 0
  behind g i l =
      ap (λ (n : ℕ). get_or (stream g (preset c) c ++ l) (n + i) 0) (sym (length-stream g (preset c) c)) ∙ get_or-append-add (stream g (preset c) c) l i 0

  first-in : (i : ℕ) → i < length c → get_or (streams c) i 0 ≡ get_or (stream 0o133 (preset c) c) i 0
  unfolding streams
  first-in i h = get_or-append (stream 0o133 (preset c) c) _ 0 i (omega (arith, length-stream 0o133 (preset c) c))

  pub second_in : (i : ℕ) → i < length c → get_or (streams c) (length c + i) 0 ≡ get_or (stream 0o171 (preset c) c) i 0
  unfolding streams
  second_in i h = behind 0o133 i _ ∙ get_or-append (stream 0o171 (preset c) c) _ 0 i (omega (arith, length-stream 0o171 (preset c) c))

  pub third_in : (i : ℕ) → i < length c → get_or (streams c) (length c + length c + i) 0 ≡ get_or (stream 0o165 (preset c) c) i 0
  unfolding streams
  third_in i h =
      ap (λ (n : ℕ). get_or (stream 0o133 (preset c) c ++ (stream 0o171 (preset c) c ++ stream 0o165 (preset c) c)) n 0) (add_assoc (length c) (length c) i)
      ∙ behind 0o133 (length c + i) _ ∙ behind 0o171 i _

  -- one step of the loop that writes all three
  pub streams_turn : (k s r x y z : ℕ) (a b b' : List ℕ) → k < length c → s ≡ after (preset c) (take k c) → r ≡ get_or c k 0 * 64 + s
      → x ≡ output 0o133 r → y ≡ output 0o171 r → z ≡ output 0o165 r → Threes (length c) (λ i. get_or (streams c) i 0) k a b → Three (length c) k x y z b b'
      → (r / 2 ≡ after (preset c) (take (k + 1) c)) × Threes (length c) (λ i. get_or (streams c) i 0) (k + 1) a b'
  streams_turn k s r x y z a b b' h es er ex ey ez t w =
      let now : r ≡ get_or c k 0 * 64 + after (preset c) (take k c) = er ∙ ap (λ (n : ℕ). get_or c k 0 * 64 + n) es in
      let put : (g v : ℕ) → v ≡ output g r → v ≡ get_or (stream g (preset c) c) k 0 = λ g v e. e ∙ ap (output g) now ∙ sym (stream_step g (preset c) c k h) in (
        ap (λ (n : ℕ). n / 2) now ∙ after_step (preset c) c k h ∙ ap (λ (n : ℕ). after (preset c) (take n c)) (sym (add-one k)),
        threes_turn (length c) (λ i. get_or (streams c) i 0) a k x y z b b' h (put 0o133 x ex ∙ sym (first-in k h)) (put 0o171 y ey ∙ sym (second_in k h)) (put 0o165 z ez ∙ sym (third_in k h)) t w,
      )

  pub streams-all : (k : ℕ) (a b : List ℕ) → k ≡ length c → length c + length c + length c ≤ length a → Threes (length c) (λ i. get_or (streams c) i 0) k a b
      → b ≡ streams c ++ drop (length c + length c + length c) a
  streams-all k a b e room t =
      threes_all (length c) (λ i. get_or (streams c) i 0) a k b e room t
      ∙ ap (λ (l : List ℕ). l ++ drop (length c + length c + length c) a) (sym (list_of (length c + length c + length c) _ (streams c) (length-streams c) (λ i h. refl)))

stream_bits : (g s : ℕ) (c : List ℕ) → AreBits (stream g s c)
unfolding stream output
stream_bits g s [] k = omega arith
stream_bits g s (b ∷ c) zero = omega arith
stream_bits g s (b ∷ c) (suc k) = stream_bits g ((b * 64 + s) / 2) c k

pub streams-bits : (c : List ℕ) → AreBits (streams c)
unfolding streams
streams-bits c =
    bits-append (stream 0o133 (preset c) c) _ (stream_bits 0o133 (preset c) c)
    (bits-append (stream 0o171 (preset c) c) _ (stream_bits 0o171 (preset c) c) (stream_bits 0o165 (preset c) c))

-- they stand in front where they were written
pub coded-front : (c a b : List ℕ) → b ≡ streams c ++ drop (length c + length c + length c) a → take (3 * length c) b ≡ streams c
coded-front c a b e =
    let three : 3 * length c ≡ length c + length c + length c = omega arith in
    rw three (ap (take (length c + length c + length c)) e ∙ take_at (streams c) _ (length c + length c + length c) (length-streams c))

pub coded-bits : (c x : List ℕ) → x ≡ streams c → AreBits x
coded-bits c x e = rw e (streams-bits c)
