-- What the steps of rate matching write, place by place.
use Rattle.std.specs.Prelude.{◌≡◌, List, ℕ, ◌+◌, ◌-◌, ◌%◌, ◌≤◌, ◌<◌, length, get_or}

-- b is a with its first n octets repeated up to e
pub record Repeated (n e : ℕ) (a b : List ℕ) : Type 0 where
  pub len : length b ≡ length a
  pub inside : (k : ℕ) → k < e → get_or b k 0 ≡ get_or a (k % n) 0
  pub above : (p : ℕ) → e ≤ p → get_or b p 0 ≡ get_or a p 0

-- filler stands from `own` to `places` of a coded block, and nowhere else
pub record Filled (coded : List ℕ) (own places : ℕ) : Type 0 where
  pub order : own ≤ places
  pub within : places ≤ length coded
  pub before : (p : ℕ) → p < own → get_or coded p 0 ≡ 2 → ⊥
  pub marked : (p : ℕ) → own ≤ p → p < places → get_or coded p 0 ≡ 2
  pub after : (p : ℕ) → places ≤ p → p < length coded → get_or coded p 0 ≡ 2 → ⊥

-- the smaller of two numbers, in terms that need no case
abbrev pub least : ℕ → ℕ → ℕ
least a b = a - (a - b)

-- how many places before `start` are kept, where filler stands from `own` to `places`
unfoldable pub kept_before : ℕ → ℕ → ℕ → ℕ
kept_before own places start = least own start + (start - least places start)

-- b is a with the octets of `part` laid over it from `at` on, as many as fit below e, and r is where they end
pub record Put (part a : List ℕ) (at e r : ℕ) (b : List ℕ) : Type 0 where
  pub len : length b ≡ length a
  pub low : at ≤ r
  pub most : r ≤ e
  pub count : r ≤ at + length part
  pub full : r < e → r ≡ at + length part
  pub inside : (k : ℕ) → at + k < r → get_or b (at + k) 0 ≡ get_or part k 0
  pub below : (p : ℕ) → p < at → get_or b p 0 ≡ get_or a p 0
  pub above : (p : ℕ) → r ≤ p → get_or b p 0 ≡ get_or a p 0
