-- The order in which the bits of three streams are sent, and what the loops over it promise each other.
use Rattle.std.specs.Prelude.{◌≡◌, cond, List, [], ◌∷◌, ◌++◌, ℕ, zero, suc, ◌+◌, ◌-◌, ◌*◌, ◌/◌, ◌%◌, ◌≤◌, ◌<◌, ltb, length, get_or}
use Rattle.bits.specs.Ranges.{list_below}
use Rattle.control.specs.Interleaver.{rows, dummies, matrix_place}

-- ---- the order

-- the places of one stream that are read before the k-th place of its matrix, in order
unfoldable pub order_to : ℕ → ℕ → List ℕ
order_to D zero = []
order_to D (suc k) =
    order_to D k ++ cond (ltb (matrix_place (rows D) k) (dummies D)) [] ((matrix_place (rows D) k - dummies D) ∷ [])

unfoldable pub order : ℕ → List ℕ
order D = order_to D (rows D * 32)

-- the place of one stream that is sent j-th
unfoldable pub place : ℕ → ℕ → ℕ
place D j = get_or (order D) j 0

-- the place of three streams that is sent k-th
unfoldable pub spot : ℕ → ℕ → ℕ
spot D k = k / D * D + place D (k % D)

-- how many places of a stream are read before the j-th column
unfoldable pub before : ℕ → ℕ → ℕ
before D j = length (order_to D (j * rows D))

-- ---- three streams in one pass

-- b is a with the k-th bit of each stream put there
pub record Three (D k x y z : ℕ) (a b : List ℕ) : Type 0 where
  pub len : length b ≡ length a
  pub first : get_or b k 0 ≡ x
  pub second : get_or b (D + k) 0 ≡ y
  pub third : get_or b (D + D + k) 0 ≡ z
  pub other : (p : ℕ) → (p ≡ k → ⊥) → (p ≡ D + k → ⊥) → (p ≡ D + D + k → ⊥) → get_or b p 0 ≡ get_or a p 0

-- b is a with the first n of each stream as f has them
pub record Threes (D : ℕ) (f : ℕ → ℕ) (n : ℕ) (a b : List ℕ) : Type 0 where
  pub len : length b ≡ length a
  pub first : (j : ℕ) → j < n → get_or b j 0 ≡ f j
  pub second : (j : ℕ) → j < n → get_or b (D + j) 0 ≡ f (D + j)
  pub third : (j : ℕ) → j < n → get_or b (D + D + j) 0 ≡ f (D + D + j)
  pub above : (p : ℕ) → D + D + D ≤ p → get_or b p 0 ≡ get_or a p 0

-- the bits of three streams, each once, as they are sent
unfoldable pub collected : ℕ → List ℕ → List ℕ
collected D S = list_below (D + D + D) (λ k. get_or S (spot D k) 0)

-- b is a with the first n bits of each third put at their places of three streams
pub record Scattered (D : ℕ) (bits : List ℕ) (n : ℕ) (a b : List ℕ) : Type 0 where
  pub len : length b ≡ length a
  pub first : (j : ℕ) → j < n → get_or b (place D j) 0 ≡ get_or bits j 0
  pub second : (j : ℕ) → j < n → get_or b (D + place D j) 0 ≡ get_or bits (D + j) 0
  pub third : (j : ℕ) → j < n → get_or b (D + D + place D j) 0 ≡ get_or bits (D + D + j) 0
  pub above : (p : ℕ) → D + D + D ≤ p → get_or b p 0 ≡ get_or a p 0
