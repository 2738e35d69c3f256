-- What the public call promises, for all octets, lengths and numbers (document 02, CR 10). `Found` has a number, the count written and the differences; out' is
-- the output after the call.
use Rattle.std.specs.Prelude.{◌≡◌, Bool, not, List, [], ◌∷◌, ◌++◌, Result, Ok, Err, ℕ, ◌+◌, eqb, ltb, length, drop}
use Rattle.bits.specs.Bits.{some_over, digits}
use Rattle.bits.specs.Numbers.{answered, when_done}
use Rattle.bits.specs.Ranges.{within}
use Rattle.bits.specs.Refusals.{refusal_number}
use Rattle.bits.specs.declared.number.Refusal.{Refusal}
use Rattle.nearest.specs.Nearest.{away, nearest}
use Rattle.nearest.specs.declared.Closest.{Closest}
use Rattle.nearest.specs.declared.Found.{Found}

-- "17, then 8 for a received length other than 3D, then 11, then 12"
abbrev pub nearest_word_conditions : ℕ → List ℕ → ℕ → List (ℕ × Bool)
nearest_word_conditions D heard lent =
    (17, not (within 6 128 D)) ∷ (8, not (eqb (length heard) (D + D + D))) ∷ (11, ltb lent D) ∷ (12, some_over 1 heard) ∷ []

unfoldable pub nearest_word_number : ℕ → List ℕ → ℕ → ℕ
nearest_word_number D heard lent = answered (nearest_word_conditions D heard lent)

-- an answer as C has it: "When it refuses, its other results are 0"
abbrev pub answer_found : Result Closest Refusal → Found
answer_found (Ok closest) = record { number = 0; count = closest.count; differences = closest.differences }
answer_found (Err refusal) = record { number = refusal_number refusal; count = 0; differences = 0 }

-- with 0 the word in front of the output, that it is D octets, and in how many places its code differs; with a refusal nothing
pub record WordFound (D : ℕ) (heard out : List ℕ) (r : Found) (out' : List ℕ) : Type 0 where
  pub number : r.number ≡ nearest_word_number D heard (length out)
  pub count : r.count ≡ when_done (nearest_word_number D heard (length out)) D 0
  pub differences : r.differences ≡ when_done (nearest_word_number D heard (length out)) (away D heard (nearest D heard)) 0
  pub output : out' ≡ when_done (nearest_word_number D heard (length out)) (digits D (nearest D heard) ++ drop D out) out
