-- What the loops of the quick way promise each other, place by place.
use Rattle.std.specs.Prelude.{◌≡◌, true, false, cond, List, [], ◌++◌, ℕ, ◌+◌, ◌*◌, ◌/◌, ◌≤◌, ◌<◌, ltb, length, get_or, take, drop}
use Rattle.nearest.specs.Steps.Trellis.{three_of, heard_at, price, lower, least, beats}

-- t has `size` places, and the first n hold what g says
pub record Made (size : ℕ) (g : ℕ → ℕ) (n : ℕ) (t : List ℕ) : Type 0 where
  pub len : length t ≡ size
  pub at : (k : ℕ) → k < n → get_or t k 0 ≡ g k

-- the outputs of the even registers below 2n
abbrev pub Evens : ℕ → List ℕ → Type 0
Evens = Made 32 (λ j. three_of (2 * j))

-- what the even registers below 2n cost where h is heard; the other registers cost as much or the rest of three
abbrev pub Priced : ℕ → ℕ → List ℕ → Type 0
Priced h = Made 32 (λ j. price h (2 * j))

-- what they cost for each of the first n that can be heard
pub record Prices (n : ℕ) (t : List (List ℕ)) : Type 0 where
  pub len : length t ≡ 8
  pub at : (h : ℕ) → h < n → Priced h 32 (get_or t h [])

-- what is heard at the first n steps, and nothing behind them
pub record Heard (D : ℕ) (heard : List ℕ) (n : ℕ) (T : List ℕ) : Type 0 where
  pub len : length T ≡ 128
  pub at : (k : ℕ) → k < n → get_or T k 0 ≡ heard_at D heard k
  pub behind : (k : ℕ) → n ≤ k → get_or T k 0 ≡ 0

-- what is heard, three bits a step, and what it costs
pub record Ready (D : ℕ) (T : List ℕ) (t : List (List ℕ)) : Type 0 where
  pub most : D ≤ 128
  pub low : (k : ℕ) → get_or T k 0 < 8
  pub table : Prices 8 t

-- what the register r costs where h is heard, and what is still to come stands in l, by the state
unfoldable pub way_of : ℕ → List ℕ → ℕ → ℕ
way_of h l r = price h r + get_or l (r / 2) 0

-- the costs of the states before n, one step back from the costs l
abbrev pub Stepped : ℕ → List ℕ → ℕ → List ℕ → Type 0
Stepped h l = Made 64 (λ s. lower (way_of h l s) (way_of h l (64 + s)))

-- every state costs so much at most
abbrev pub AtMost : ℕ → List ℕ → Type 0
AtMost most l = (s : ℕ) → s < 64 → get_or l s 0 ≤ most

-- that is low enough to add a step
abbrev pub Low : List ℕ → Type 0
Low = AtMost 60000

-- the bit of the cheaper way, 0 where it costs no more
unfoldable pub chosen : ℕ → List ℕ → ℕ → ℕ
chosen h l s = cond (ltb (way_of h l (64 + s)) (way_of h l s)) 1 0

-- the costs of all states where n steps are left, from step k on
abbrev pub Row : (ℕ → ℕ → ℕ) → List ℕ → ℕ → ℕ → List ℕ → Type 0
Row f E n k = Made 64 (least f E n k) 64

-- the rows where up to n of D steps are left, one behind the other, that of the end in front
pub record Filled (f : ℕ → ℕ → ℕ) (E : List ℕ) (D n : ℕ) (costs : List (List ℕ)) : Type 0 where
  pub len : length costs ≡ 129
  pub at : (m k : ℕ) → m + k ≡ D → m ≤ n → Row f E m k (get_or costs m [])

-- the costs of the states before n, each 64 times and with its state behind it, so that the least of them tells both
abbrev pub Ranked : List ℕ → ℕ → List ℕ → Type 0
Ranked row = Made 64 (λ s. get_or row s 0 * 64 + s)

-- v is the least of the first n
pub record Least (row : List ℕ) (n v : ℕ) : Type 0 where
  pub place : ℕ
  pub inside : place < n
  pub is : get_or row place 0 ≡ v
  pub low : (k : ℕ) → k < n → v ≤ get_or row k 0

-- the better of two costs with their words: the word in front of out stays, or is written over
pub record Kept (D best : ℕ) (out : List ℕ) (v : ℕ) (word : List ℕ) (r : ℕ) (out' : List ℕ) : Type 0 where
  pub new : beats best (take D out) v (take D word) ≡ true → (r ≡ v) × (out' ≡ take D word ++ drop D out)
  pub old : beats best (take D out) v (take D word) ≡ false → (r ≡ best) × (out' ≡ out)
