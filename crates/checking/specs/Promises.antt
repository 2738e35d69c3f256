-- What the public calls promise, for every record R, every z and all octets. Which checker is asked stands in no promise: both say the same
-- (document 02, CR 4).
use Rattle.std.specs.Prelude.{◌≡◌, Bool, false, List, [], ◌∷◌, ◌++◌, Result, ℕ, ◌*◌, ltb, length, drop}
use Rattle.bits.specs.Bits.{some_over}
use Rattle.bits.specs.Numbers.{answered, when_done}
use Rattle.bits.specs.Refusals.{number_of, value_or}
use Rattle.bits.specs.declared.number.Refusal.{Refusal}
use Rattle.bits.specs.declared.number.Written.{Written}
use Rattle.profile.specs.Record.{rows, columns}
use Rattle.profile.specs.Promises.{judge_conditions}
use Rattle.parity.specs.Matrix.{checks}
use Rattle.parity.specs.Promises.{table_for, unfit}
use Rattle.checking.specs.Sums.{row_sums}
use Rattle.checking.specs.declared.Verdict.{Verdict}

-- ---- checking one word of bits

-- "5 and 6 for a profile", 8, 12 "for any octet over 1 where single bits are taken"
abbrev pub check_conditions : List ℕ → ℕ → List ℕ → List (ℕ × Bool)
check_conditions R z' word = judge_conditions R ++ (8, unfit R z' (columns R) word) ∷ (12, some_over 1 word) ∷ []

unfoldable pub check_number : List ℕ → ℕ → List ℕ → ℕ
check_number R z' word = answered (check_conditions R z' word)

-- an answer of a check: its number, and whether the word checks, no with a refusal
abbrev pub verdict : Result Bool Refusal → Verdict
verdict answer = record { number = number_of answer; checks = value_or false answer }

pub record WordChecked (R : List ℕ) (z' : ℕ) (word : List ℕ) (r : Verdict) : Type 0 where
  pub number : r.number ≡ check_number R z' word
  pub checks : r.checks ≡ when_done (check_number R z' word) (checks (table_for R z') (rows R) (columns R) z' word) false

-- ---- the sums of its rows, where the output is `lent` octets long

-- the same, and 11 "for an output shorter than what it would write"
abbrev pub sums_conditions : List ℕ → ℕ → List ℕ → ℕ → List (ℕ × Bool)
sums_conditions R z' word lent =
    judge_conditions R ++ (8, unfit R z' (columns R) word) ∷ (11, ltb lent (rows R * z')) ∷ (12, some_over 1 word) ∷ []

unfoldable pub sums_number : List ℕ → ℕ → List ℕ → ℕ → ℕ
sums_number R z' word lent = answered (sums_conditions R z' word lent)

pub record RowsSummed (R : List ℕ) (z' : ℕ) (word out : List ℕ) (r : Written) (out' : List ℕ) : Type 0 where
  pub number : r.number ≡ sums_number R z' word (length out)
  pub count : r.count ≡ when_done (sums_number R z' word (length out)) (rows R * z') 0
  pub output : out' ≡ when_done (sums_number R z' word (length out)) (row_sums (table_for R z') (rows R) (columns R) z' word ++ drop (rows R * z') out) out
