-- Laws of the trellis: the least is at most what any word costs, the walk attains it, and no smaller word does.
use mathlib.Core.Path.{◌≡◌, refl, sym, ap, ◌∙◌, subst}
use mathlib.Core.Bool.{Bool, true, false, cond}
use mathlib.Core.List.{List, [], ◌∷◌}
use Prim.Native.Nat.{ℕ, zero, suc, ◌+◌, ◌*◌, ◌/◌, ◌≤◌, ◌<◌, min}
use native.Mathlib.Nat.{le_refl}
use native.Mathlib.Omega.{arith}
use borrow.Author.Tests.{ltb-true, ltb-false, lt-ltb, le-ltb}
use lib.Dec.{ltb, lit<}
use lib.ListN.{length, get_or, get_or-replicate}
use Rattle.bits.specs.Bits.{AreBits, read_on}
use Rattle.bits.proofs.Ranges.{below_or}
use Rattle.nearest.specs.Steps.Trellis.{end_open, charge, way, lower, choice, least, walk}
use Rattle.nearest.specs.Steps.Rows.{AtMost}

-- a number that is read on from a lower one is lower
pub read_less : (p q : List ℕ) (x y : ℕ) → length p ≡ length q → AreBits p → AreBits q → x < y → read_on x p < read_on y q
unfolding read_on
read_less [] [] x y e hp hq l = l
read_less [] (b ∷ q) x y e hp hq l = absurd (omega arith)
read_less (a ∷ p) [] x y e hp hq l = absurd (omega arith)
read_less (a ∷ p) (b ∷ q) x y e hp hq l =
    let a-bit : a < 2 = hp 0 in
    read_less p q (x * 2 + a) (y * 2 + b) (omega arith) (λ k. hp (suc k)) (λ k. hq (suc k)) (omega arith)

-- ---- the lower of two

pub lower-min : (a b : ℕ) → min a b ≡ lower a b
unfolding lower
lower-min a b = below_or b a (λ l. rw (lt-ltb b a l) (omega arith)) (λ l. rw (le-ltb b a l) (omega arith))

pub lower-left : (a b : ℕ) → lower a b ≤ a
unfolding lower
lower-left a b = by-test (ltb b a) refl
  where
    by-test : (t : Bool) → ltb b a ≡ t → cond t b a ≤ a
    by-test true e = omega (arith, ltb-true b a e)
    by-test false e = le_refl a

pub lower-right : (a b : ℕ) → lower a b ≤ b
unfolding lower
lower-right a b = by-test (ltb b a) refl
  where
    by-test : (t : Bool) → ltb b a ≡ t → cond t b a ≤ b
    by-test true e = le_refl b
    by-test false e = ltb-false b a e

-- it is one of them
pub lower-is : (a b : ℕ) (P : ℕ → Type 0) → P a → P b → P (lower a b)
unfolding lower
lower-is a b P x y = by-test (ltb b a)
  where
    by-test : (t : Bool) → P (cond t b a)
    by-test true = y
    by-test false = x

-- and grows with both
pub lower_mono : (a b c d : ℕ) → a ≤ c → b ≤ d → lower a b ≤ lower c d
lower_mono a b c d h l = lower-is c d (λ (x : ℕ). lower a b ≤ x) (omega (arith, lower-left a b)) (omega (arith, lower-right a b))

-- ---- one step

module _ (f : ℕ → ℕ → ℕ) (k : ℕ) (l : ℕ → ℕ) (s : ℕ) where
  pub lower-way : (b : ℕ) → b < 2 → lower (way f k l s 0) (way f k l s 1) ≤ way f k l s b
  lower-way zero h = lower-left (way f k l s 0) (way f k l s 1)
  lower-way (suc zero) h = lower-right (way f k l s 0) (way f k l s 1)
  lower-way (suc (suc b)) h = absurd (omega arith)

  pub choice-way : way f k l s (choice f k l s) ≡ lower (way f k l s 0) (way f k l s 1)
  unfolding lower choice
  choice-way = by-test (ltb (way f k l s 1) (way f k l s 0))
    where
      by-test : (t : Bool) → way f k l s (cond t 1 0) ≡ cond t (way f k l s 1) (way f k l s 0)
      by-test true = refl
      by-test false = refl

  pub choice-bit : choice f k l s < 2
  unfolding choice
  choice-bit = by-test (ltb (way f k l s 1) (way f k l s 0))
    where
      by-test : (t : Bool) → ◌<◌ (cond t 1 0) 2
      by-test true = lit< tt
      by-test false = lit< tt

  -- a word that begins with b and costs the least takes the walk's bit, or 1 where the walk takes 0
  pub choice_or : {A : Type 0} (b x : ℕ) → b < 2 → l ((b * 64 + s) / 2) ≤ x → f k (b * 64 + s) + x ≡ lower (way f k l s 0) (way f k l s 1)
      → (choice f k l s ≡ b → x ≡ l ((b * 64 + s) / 2) → A) → (choice f k l s ≡ 0 → b ≡ 1 → A) → A
  unfolding lower choice way
  choice_or {A} zero x h m e same other = by-test (ltb (way f k l s 1) (way f k l s 0)) refl e same
    where
      by-test : (t : Bool) → ltb (way f k l s 1) (way f k l s 0) ≡ t → f k (0 * 64 + s) + x ≡ cond t (way f k l s 1) (way f k l s 0)
          → (◌≡◌ {A = ℕ} (cond t 1 0) 0 → x ≡ l ((0 * 64 + s) / 2) → A) → A
      by-test true q e same = absurd (omega (arith, ltb-true (way f k l s 1) (way f k l s 0) q))
      by-test false q e same = same refl (omega arith)
  choice_or {A} (suc zero) x h m e same other = by-test (ltb (way f k l s 1) (way f k l s 0)) refl e same other
    where
      by-test : (t : Bool) → ltb (way f k l s 1) (way f k l s 0) ≡ t → f k (1 * 64 + s) + x ≡ cond t (way f k l s 1) (way f k l s 0)
          → (◌≡◌ {A = ℕ} (cond t 1 0) 1 → x ≡ l ((1 * 64 + s) / 2) → A) → (◌≡◌ {A = ℕ} (cond t 1 0) 0 → ◌≡◌ {A = ℕ} 1 1 → A) → A
      by-test true q e same other = same refl (omega arith)
      by-test false q e same other = other refl refl
  choice_or (suc (suc b)) x h m e same other = absurd (omega arith)

-- ---- all steps

module _ (f : ℕ → ℕ → ℕ) (E : List ℕ) where
  pub length-walk : (n k s : ℕ) → length (walk f E n k s) ≡ n
  unfolding walk
  length-walk zero k s = refl
  length-walk (suc n) k s = ap suc (length-walk n (suc k) ((choice f k (least f E n (suc k)) s * 64 + s) / 2))

  pub bits-walk : (n k s : ℕ) → AreBits (walk f E n k s)
  unfolding walk
  bits-walk zero k s j = lit< tt
  bits-walk (suc n) k s zero = choice-bit f k (least f E n (suc k)) s
  bits-walk (suc n) k s (suc j) = bits-walk n (suc k) ((choice f k (least f E n (suc k)) s * 64 + s) / 2) j

  -- no word costs less
  pub least-most : (n k s : ℕ) (w : List ℕ) → AreBits w → length w ≡ n → least f E n k s ≤ charge f E k s w
  unfolding least charge way
  least-most zero k s [] h e = le_refl (get_or E s 0)
  least-most zero k s (b ∷ w) h e = absurd (omega arith)
  least-most (suc n) k s [] h e = absurd (omega arith)
  least-most (suc n) k s (b ∷ w) h e =
      omega (
        arith,
        least-most n (suc k) ((b * 64 + s) / 2) w (λ j. h (suc j)) (omega arith),
        lower-way f k (least f E n (suc k)) s b (h 0),
      )

  -- the walk costs no more
  pub walk_attains : (n k s : ℕ) → charge f E k s (walk f E n k s) ≡ least f E n k s
  unfolding least charge walk way
  walk_attains zero k s = refl
  walk_attains (suc n) k s =
      let b = choice f k (least f E n (suc k)) s in
      ap (λ (x : ℕ). f k (b * 64 + s) + x) (walk_attains n (suc k) ((b * 64 + s) / 2)) ∙ choice-way f k (least f E n (suc k)) s

  -- and a word that costs no more is no smaller
  pub walk_first : (n k s r : ℕ) (w : List ℕ) → AreBits w → length w ≡ n → charge f E k s w ≡ least f E n k s
      → read_on r (walk f E n k s) ≤ read_on r w
  unfolding least charge walk read_on
  walk_first zero k s r [] h e q = le_refl r
  walk_first zero k s r (b ∷ w) h e q = absurd (omega arith)
  walk_first (suc n) k s r [] h e q = absurd (omega arith)
  walk_first (suc n) k s r (b ∷ w) h e q =
      let rest : length w ≡ n = omega arith in
      let tail : AreBits w = λ j. h (suc j) in
      let to = (b * 64 + s) / 2 in
      choice_or f k (least f E n (suc k)) s b (charge f E (suc k) to w) (h 0) (least-most n (suc k) to w tail rest) q
      (λ c x.
      subst (λ (y : ℕ). read_on (r * 2 + y) (walk f E n (suc k) ((y * 64 + s) / 2)) ≤ read_on (r * 2 + b) w) (sym c)
      (walk_first n (suc k) to (r * 2 + b) w tail rest x))
      (λ c d.
      let y = choice f k (least f E n (suc k)) s in
      let less = read_less (walk f E n (suc k) ((y * 64 + s) / 2)) w (r * 2 + y) (r * 2 + b) (length-walk n (suc k) ((y * 64 + s) / 2) ∙ sym rest)
      (bits-walk n (suc k) ((y * 64 + s) / 2)) tail (omega arith) in
      omega (arith, less))

-- ---- ends

-- an open end costs no more than any other
pub least_open : (f : ℕ → ℕ → ℕ) (E : List ℕ) (n k s : ℕ) → s < 64 → least f end_open n k s ≤ least f E n k s
unfolding least way end_open
least_open f E zero k s h = omega (arith, get_or-replicate {A = ℕ} 64 s 0 0 h)
least_open f E (suc n) k s h =
    lower_mono _ _ _ _
    (omega (arith, least_open f E n (suc k) ((0 * 64 + s) / 2) (omega arith)))
    (omega (arith, least_open f E n (suc k) ((1 * 64 + s) / 2) (omega arith)))

-- a step adds three at most
pub least_bound : (f : ℕ → ℕ → ℕ) → ((k r : ℕ) → f k r ≤ 3) → (E : List ℕ) (most : ℕ) → AtMost most E → (n k s : ℕ) → s < 64 → least f E n k s ≤ most + 3 * n
unfolding least way
least_bound f h E most low zero k s l = omega (arith, low s l)
least_bound f h E most low (suc n) k s l =
    let m = least f E n (suc k) in
    omega (
      arith,
      lower-left (f k (0 * 64 + s) + m ((0 * 64 + s) / 2)) (f k (1 * 64 + s) + m ((1 * 64 + s) / 2)),
      h k (0 * 64 + s),
      least_bound f h E most low n (suc k) ((0 * 64 + s) / 2) (omega arith),
    )
