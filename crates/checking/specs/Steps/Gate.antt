-- What both calls refuse first.
use Rattle.std.specs.Prelude.{Bool, List, [], ◌∷◌, ◌++◌, ℕ}
use Rattle.bits.specs.Numbers.{answered}
use Rattle.profile.specs.Record.{columns}
use Rattle.profile.specs.Promises.{judge_conditions}
use Rattle.parity.specs.Promises.{unfit}

-- 5, 6 and 8
abbrev pub fit_conditions : List ℕ → ℕ → List ℕ → List (ℕ × Bool)
fit_conditions R z' word = judge_conditions R ++ (8, unfit R z' (columns R) word) ∷ []

unfoldable pub fit_number : List ℕ → ℕ → List ℕ → ℕ
fit_number R z' word = answered (fit_conditions R z' word)
