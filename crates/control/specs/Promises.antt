-- What the public calls promise, for all octets, lengths and numbers (document 02, CR 5). c is a control word of D bits, S three streams of D bits each, e is E.
-- `Written` has a number and the count written; out' is the output after the call.
use Rattle.std.specs.Prelude.{◌≡◌, Bool, not, ◌||◌, List, [], ◌∷◌, ◌++◌, ℕ, ◌+◌, eqb, ltb, length, drop}
use Rattle.bits.specs.Bits.{some_over}
use Rattle.bits.specs.Numbers.{answered, when_done}
use Rattle.bits.specs.Ranges.{within}
use Rattle.bits.specs.declared.number.Written.{Written}
use Rattle.control.specs.Register.{streams}
use Rattle.control.specs.Interleaver.{sent}
use Rattle.control.specs.Back.{some_streams, streams_as}

-- ---- the numbers: "17 for a length outside 6 to 128, then 8 for E or for lent streams of other than 3D octets, 11, 12"

-- coding a word
abbrev pub code_word_conditions : List ℕ → ℕ → List (ℕ × Bool)
code_word_conditions c lent =
    (17, not (within 6 128 (length c))) ∷ (11, ltb lent (length c + length c + length c)) ∷ (12, some_over 1 c) ∷ []

unfoldable pub code_word_number : List ℕ → ℕ → ℕ
code_word_number c lent = answered (code_word_conditions c lent)

-- matching three streams, "E from 1 to 65,536"
abbrev pub match_streams_conditions : ℕ → List ℕ → ℕ → ℕ → List (ℕ × Bool)
match_streams_conditions D S e lent =
    (17, not (within 6 128 D))
    ∷ (8, not (within 1 65536 e) || not (eqb (length S) (D + D + D)))
    ∷ (11, ltb lent e)
    ∷ (12, some_over 1 S)
    ∷ []

unfoldable pub match_streams_number : ℕ → List ℕ → ℕ → ℕ → ℕ
match_streams_number D S e lent = answered (match_streams_conditions D S e lent)

-- sending a word
abbrev pub send_word_conditions : List ℕ → ℕ → ℕ → List (ℕ × Bool)
send_word_conditions c e lent =
    (17, not (within 6 128 (length c))) ∷ (8, not (within 1 65536 e)) ∷ (11, ltb lent e) ∷ (12, some_over 1 c) ∷ []

unfoldable pub send_word_number : List ℕ → ℕ → ℕ → ℕ
send_word_number c e lent = answered (send_word_conditions c e lent)

-- "backwards then 13 for E below 3D, then 14 for bits that no three streams give"; E is the length of the bits
abbrev pub streams_of_conditions : ℕ → List ℕ → ℕ → List (ℕ × Bool)
streams_of_conditions D bits lent =
    (17, not (within 6 128 D))
    ∷ (8, not (within 1 65536 (length bits)))
    ∷ (11, ltb lent (D + D + D))
    ∷ (12, some_over 1 bits)
    ∷ (13, ltb (length bits) (D + D + D))
    ∷ (14, not (some_streams D bits))
    ∷ []

unfoldable pub streams_of_number : ℕ → List ℕ → ℕ → ℕ
streams_of_number D bits lent = answered (streams_of_conditions D bits lent)

-- ---- the answers

-- the number n; with 0 the `size` octets of `new` in front of the output, and how many they are; with a refusal nothing
pub record Wrote (n size : ℕ) (new out : List ℕ) (r : Written) (out' : List ℕ) : Type 0 where
  pub number : r.number ≡ n
  pub count : r.count ≡ when_done n size 0
  pub output : out' ≡ when_done n (new ++ drop size out) out

abbrev pub WordCoded : List ℕ → List ℕ → Written → List ℕ → Type 0
WordCoded c out r out' = Wrote (code_word_number c (length out)) (length c + length c + length c) (streams c) out r out'

abbrev pub StreamsMatched : ℕ → List ℕ → ℕ → List ℕ → Written → List ℕ → Type 0
StreamsMatched D S e out r out' = Wrote (match_streams_number D S e (length out)) e (sent D S e) out r out'

abbrev pub WordSent : List ℕ → ℕ → List ℕ → Written → List ℕ → Type 0
WordSent c e out r out' = Wrote (send_word_number c e (length out)) e (sent (length c) (streams c) e) out r out'

abbrev pub StreamsFound : ℕ → List ℕ → List ℕ → Written → List ℕ → Type 0
StreamsFound D bits out r out' = Wrote (streams_of_number D bits (length out)) (D + D + D) (streams_as D bits) out r out'
