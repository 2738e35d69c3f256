-- The trellis: what a word costs on its way through the states, the least of it, and the first word that costs no more. f k r is what step k costs with the
-- register r, and E what it costs to end, by the state.
use Rattle.std.specs.Prelude.{◌≡◌, Bool, cond, ◌&&◌, ◌||◌, List, [], ◌∷◌, ℕ, zero, suc, ◌+◌, ◌*◌, ◌/◌, ◌%◌, ◌≤◌, ◌<◌, eqb, ltb, length, get_or, set, replicate}
use Rattle.std.specs.Int.Bits.{bit_xor}
use Rattle.std.specs.Int.Count.{ones}
use Rattle.bits.specs.Bits.{value_of}
use Rattle.control.specs.Register.{output}

-- ---- what a step costs

-- the three outputs of a register as one number, that of 133 highest, and the three bits heard at step k likewise
unfoldable pub three_of : ℕ → ℕ
three_of r = output 0o133 r * 4 + output 0o171 r * 2 + output 0o165 r

unfoldable pub heard_at : ℕ → List ℕ → ℕ → ℕ
heard_at D heard k = get_or heard k 0 * 4 + get_or heard (D + k) 0 * 2 + get_or heard (D + D + k) 0

-- in how many of the three the register r differs where h is heard
unfoldable pub price : ℕ → ℕ → ℕ
price h r = ones (bit_xor (three_of r) h)

-- what step k costs where T has what is heard, step by step
unfoldable pub cost : List ℕ → ℕ → ℕ → ℕ
cost T k r = price (get_or T k 0) r

-- ---- what it costs to end

-- at the goal nothing, and elsewhere more than any word of 128 bits, which is 384
unfoldable pub end_at : ℕ → List ℕ
end_at goal = set (replicate 64 500) goal 0

-- anywhere nothing
unfoldable pub end_open : List ℕ
end_open = replicate 64 0

-- ---- from one state to the end

-- what the word costs from step k and the state s on
unfoldable pub charge : (ℕ → ℕ → ℕ) → List ℕ → ℕ → ℕ → List ℕ → ℕ
charge f E k s [] = get_or E s 0
charge f E k s (b ∷ w) = f k (b * 64 + s) + charge f E (suc k) ((b * 64 + s) / 2) w

-- the bit b at step k from the state s on, where l t is what is still to come from the state t on
unfoldable pub way : (ℕ → ℕ → ℕ) → ℕ → (ℕ → ℕ) → ℕ → ℕ → ℕ
way f k l s b = f k (b * 64 + s) + l ((b * 64 + s) / 2)

-- the lower of two; the bit of the cheaper way, 0 where it costs no more
unfoldable pub lower : ℕ → ℕ → ℕ
lower a b = cond (ltb b a) b a

unfoldable pub choice : (ℕ → ℕ → ℕ) → ℕ → (ℕ → ℕ) → ℕ → ℕ
choice f k l s = cond (ltb (way f k l s 1) (way f k l s 0)) 1 0

-- the least that n steps cost from step k on, by the state
unfoldable pub least : (ℕ → ℕ → ℕ) → List ℕ → ℕ → ℕ → ℕ → ℕ
least f E zero k s = get_or E s 0
least f E (suc n) k s = lower (way f k (least f E n (suc k)) s 0) (way f k (least f E n (suc k)) s 1)

-- the word that costs so little, 0 where it costs no more
unfoldable pub walk : (ℕ → ℕ → ℕ) → List ℕ → ℕ → ℕ → ℕ → List ℕ
walk f E zero k s = []
walk f E (suc n) k s =
    choice f k (least f E n (suc k)) s ∷ walk f E n (suc k) ((choice f k (least f E n (suc k)) s * 64 + s) / 2)

-- ---- over the goals

-- what a goal, "start state that is also the end state", gives: its cost and its word
unfoldable pub goal_cost : (ℕ → ℕ → ℕ) → ℕ → ℕ → ℕ
goal_cost f D goal = least f (end_at goal) D 0 goal

unfoldable pub goal_word : (ℕ → ℕ → ℕ) → ℕ → ℕ → List ℕ
goal_word f D goal = walk f (end_at goal) D 0 goal

-- the cost v' and the word w' come before v and w: fewer differences, or as many and a smaller word
unfoldable pub beats : ℕ → List ℕ → ℕ → List ℕ → Bool
beats v w v' w' = ltb v' v || (eqb v' v && ltb (value_of w') (value_of w))

-- the cost v and the word w are the best of the goals that are crossed off in `left`, which has of each other goal 64 times at most what it costs, and the goal
pub record Best (f : ℕ → ℕ → ℕ) (D : ℕ) (left : List ℕ) (v : ℕ) (w : List ℕ) : Type 0 where
  pub goal : ℕ
  pub inside : goal < 64
  pub cost_is : v ≡ goal_cost f D goal
  pub word_is : w ≡ goal_word f D goal
  pub len : length left ≡ 64
  pub others : (s : ℕ) → s < 64 → get_or left s 0 < 65535 → (get_or left s 0 % 64 ≡ s) × (get_or left s 0 / 64 ≤ goal_cost f D s)
  pub fewest : (s : ℕ) → s < 64 → 65535 ≤ get_or left s 0 → v ≤ goal_cost f D s
  pub smallest : (s : ℕ) → s < 64 → 65535 ≤ get_or left s 0 → goal_cost f D s ≡ v → value_of w ≤ value_of (goal_word f D s)
