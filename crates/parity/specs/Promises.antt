-- What the public call promises, for every record R, every z and all octets.
use Rattle.std.specs.Prelude.{◌≡◌, Bool, not, ◌||◌, List, [], ◌∷◌, ◌++◌, ℕ, ◌*◌, eqb, ltb, length, drop}
use Rattle.bits.specs.Bits.{some_over}
use Rattle.bits.specs.Numbers.{answered, when_done}
use Rattle.bits.specs.Ranges.{any_below, first_below}
use Rattle.bits.specs.declared.number.Written.{Written}
use Rattle.profile.specs.Record.{kb, t, z, rows, columns, table}
use Rattle.profile.specs.Promises.{judge_conditions}
use Rattle.parity.specs.Coded.{coded}

-- the record has the size z'; its table
unfoldable pub has_size : List ℕ → ℕ → Bool
has_size R z' = any_below (t R) (λ i. eqb (z R i) z')

unfoldable pub table_for : List ℕ → ℕ → List ℕ
table_for R z' = table R (first_below (t R) (λ i. eqb (z R i) z'))

-- 8 "for a z or a word length that the profile does not give": a length other than n groups of z' places
unfoldable pub unfit : List ℕ → ℕ → ℕ → List ℕ → Bool
unfit R z' n w = not (has_size R z') || not (eqb (length w) (n * z'))

-- ---- coding one block of places, where the output is `lent` octets long

-- "5 and 6 for a profile", 8, 11 "for an output shorter than what it would write", 12 for any octet "over 2 where filler marks are taken too"
abbrev pub code_conditions : List ℕ → ℕ → List ℕ → ℕ → List (ℕ × Bool)
code_conditions R z' places lent =
    judge_conditions R ++ (8, unfit R z' (kb R) places) ∷ (11, ltb lent (columns R * z')) ∷ (12, some_over 2 places) ∷ []

unfoldable pub code_number : List ℕ → ℕ → List ℕ → ℕ → ℕ
code_number R z' places lent = answered (code_conditions R z' places lent)

pub record BlockCoded (R : List ℕ) (z' : ℕ) (places out : List ℕ) (r : Written) (out' : List ℕ) : Type 0 where
  pub number : r.number ≡ code_number R z' places (length out)
  pub count : r.count ≡ when_done (code_number R z' places (length out)) (columns R * z') 0
  pub output : out' ≡ when_done (code_number R z' places (length out)) (coded (table_for R z') (rows R) (columns R) z' places ++ drop (columns R * z') out) out
