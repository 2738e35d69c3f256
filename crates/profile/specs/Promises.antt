-- What the public calls promise, for every record and every block length.
use Rattle.std.specs.Prelude.{Bool, not, List, [], ◌∷◌, ℕ}
use Rattle.bits.specs.Numbers.{answered}
use Rattle.profile.specs.Record.{well_formed}
use Rattle.profile.specs.Staircase.{staircases}

-- 5 "profile record not well formed", 6 "a table is no staircase"
abbrev pub judge_conditions : List ℕ → List (ℕ × Bool)
judge_conditions R = (5, not (well_formed R)) ∷ (6, not (staircases R)) ∷ []

-- what `judge` answers
unfoldable pub judged : List ℕ → ℕ
judged R = answered (judge_conditions R)
