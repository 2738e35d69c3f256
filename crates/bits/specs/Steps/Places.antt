-- What is written into a list, place by place.
use Rattle.std.specs.Prelude.{◌≡◌, List, ℕ, ◌+◌, ◌≤◌, ◌<◌, length, get_or}

-- b is a with n octets of s, from `from` on, laid over it from `at` on
pub record Laid (s : List ℕ) (from n : ℕ) (a : List ℕ) (at : ℕ) (b : List ℕ) : Type 0 where
  pub len : length b ≡ length a
  pub inside : (k : ℕ) → k < n → get_or b (at + k) 0 ≡ get_or s (from + k) 0
  pub below : (p : ℕ) → p < at → get_or b p 0 ≡ get_or a p 0
  pub above : (p : ℕ) → at + n ≤ p → get_or b p 0 ≡ get_or a p 0

-- b is a with the mark 2 from `from` to `to`
pub record Marked (from to : ℕ) (a b : List ℕ) : Type 0 where
  pub len : length b ≡ length a
  pub below : (p : ℕ) → p < from → get_or b p 0 ≡ get_or a p 0
  pub marked : (p : ℕ) → from ≤ p → p < to → get_or b p 0 ≡ 2
