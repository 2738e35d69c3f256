-- What the calls over single bits promise, for every width, every mask and all octets (document 02, CR 9). A `Sum` has a number and a value, `Written` a
-- number and the count written, `Tested` a number and whether the test holds; out' is the output after the call.
use Rattle.std.specs.Prelude.{◌≡◌, Bool, false, List, [], ◌∷◌, ◌++◌, ℕ, ◌+◌, Result, ltb, length, drop}
use Rattle.bits.specs.Bits.{some_over}
use Rattle.bits.specs.Numbers.{answered, when_done}
use Rattle.bits.specs.Refusals.{number_of, value_or}
use Rattle.bits.specs.declared.number.Refusal.{Refusal}
use Rattle.bits.specs.declared.number.Written.{Written}
use Rattle.checksum.specs.Masked.{checksum_under, attached_under, tests_under}
use Rattle.checksum.specs.Promises.{generator, other_width, bits_number}
use Rattle.checksum.specs.declared.Sum.{Sum}
use Rattle.masked.specs.declared.Tested.{Tested}

-- the answer of a test: its number, and whether the word was appended, no with a refusal
abbrev pub tested : Result Bool Refusal → Tested
tested answer = record { number = number_of answer; holds = value_or false answer }

-- the sum; 8 and 12 as the checksum of bits answers them
pub record SumUnder (w m : ℕ) (bits : List ℕ) (r : Sum) : Type 0 where
  pub number : r.number ≡ bits_number w bits
  pub value : r.value ≡ when_done (bits_number w bits) (checksum_under w (generator w) m bits) 0

-- appending: 8 for the width, 11 "for an output shorter than what it would write", 12 "for any octet over 1 where single bits are taken"
abbrev pub append_conditions : ℕ → List ℕ → ℕ → List (ℕ × Bool)
append_conditions w bits lent = (8, other_width w) ∷ (11, ltb lent (length bits + w)) ∷ (12, some_over 1 bits) ∷ []

unfoldable pub append_number : ℕ → List ℕ → ℕ → ℕ
append_number w bits lent = answered (append_conditions w bits lent)

pub record Appended (w m : ℕ) (bits out : List ℕ) (r : Written) (out' : List ℕ) : Type 0 where
  pub number : r.number ≡ append_number w bits (length out)
  pub count : r.count ≡ when_done (append_number w bits (length out)) (length bits + w) 0
  pub output : out' ≡ when_done (append_number w bits (length out)) (attached_under w (generator w) m bits ++ drop (length bits + w) out) out

-- testing: 8 and 12 for the whole word
pub record WordTested (w m : ℕ) (word : List ℕ) (r : Tested) : Type 0 where
  pub number : r.number ≡ bits_number w word
  pub holds : r.holds ≡ when_done (bits_number w word) (tests_under w (generator w) m word) false
