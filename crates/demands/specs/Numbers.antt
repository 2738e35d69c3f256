-- What the first demand says of a call's number (document 01, "Numbers that are answered"). A list has the call's numbers in the order in which
-- they are tested, each with whether its condition holds.
use Rattle.std.specs.Prelude.{◌≡◌, Bool, true, false, cond, List, [], ◌∷◌, ◌⊎◌, ℕ, ◌*◌, ◌<◌, eqb}

-- n is one of the numbers, its condition holds, and none that stands before it in the list does
unfoldable pub First : ℕ → List (ℕ × Bool) → Type 0
First n [] = ⊥
First n ((k, c) ∷ l) = ((n ≡ k) × (c ≡ true)) ⊎ ((c ≡ false) × First n l)

-- no condition holds
unfoldable pub NoneHolds : List (ℕ × Bool) → Type 0
NoneHolds [] = Unit
NoneHolds ((k, c) ∷ l) = (c ≡ false) × NoneHolds l

-- each number is given when its condition holds and none that stands before it does, and not otherwise; 0, done, is given when none holds, and not
-- otherwise
pub record Answers (number : ℕ) (l : List (ℕ × Bool)) : Type 0 where
  pub given : (n : ℕ) → First n l → number ≡ n
  pub only : (n : ℕ) → (n ≡ 0 → ⊥) → number ≡ n → First n l
  pub done : NoneHolds l → number ≡ 0
  pub only_done : number ≡ 0 → NoneHolds l

-- ---- the lists rise by rank, so that there before means below

-- "The lowest number that applies is answered" (document 01), "16, between 7 and 8" (document 02, CR 3), "19, before 7" (CR 8), "17 .., then 8" (CR 5) and 26, a number
-- of the house, before 11: the rank of 16 lies between those of 7 and 8, that of 19 between those of 6 and 7, that of 26 between those of 10 and 11, that of 17 before
-- all others, and all other numbers are ranked as they are counted
unfoldable pub rank : ℕ → ℕ
rank n = cond (eqb n 16) 15 (cond (eqb n 17) 1 (cond (eqb n 19) 13 (cond (eqb n 26) 21 (2 * n))))

-- n is one of the numbers, and its condition holds
unfoldable pub Applies : ℕ → List (ℕ × Bool) → Type 0
Applies n [] = ⊥
Applies n ((k, c) ∷ l) = ((n ≡ k) × (c ≡ true)) ⊎ Applies n l

-- no number of a lower rank than n has a condition that holds
unfoldable pub NoneBelow : ℕ → List (ℕ × Bool) → Type 0
NoneBelow n [] = Unit
NoneBelow n ((k, c) ∷ l) = (rank k < rank n → c ≡ false) × NoneBelow n l

-- "Each is given when its condition holds and none below it does, and not otherwise"
pub record Lowest (number : ℕ) (l : List (ℕ × Bool)) : Type 0 where
  pub given : (n : ℕ) → Applies n l → NoneBelow n l → number ≡ n
  pub only : (n : ℕ) → (n ≡ 0 → ⊥) → number ≡ n → (Applies n l) × (NoneBelow n l)
