-- What the public calls promise, for every width and every input. A `Sum` has a number and a value.
use Rattle.std.specs.Prelude.{◌≡◌, Bool, cond, not, ◌||◌, List, [], ◌∷◌, ℕ, Result, eqb}
use Rattle.bits.specs.Bits.{some_over, unpacked}
use Rattle.bits.specs.Numbers.{answered, when_done}
use Rattle.bits.specs.Refusals.{number_of, value_or}
use Rattle.bits.specs.declared.number.Refusal.{Refusal}
use Rattle.checksum.specs.Crc.{checksum, gen24_a, gen16, gen8}
use Rattle.checksum.specs.declared.Sum.{Sum}

-- the answer of a call that sums: its number, and the checksum, 0 with a refusal
abbrev pub summed : Result ℕ Refusal → Sum
summed answer = record { number = number_of answer; value = value_or 0 answer }

-- the generator of a width, and 0 where 5.1.1 has none
unfoldable pub generator : ℕ → ℕ
generator w = cond (eqb w 24) gen24_a (cond (eqb w 16) gen16 (cond (eqb w 8) gen8 0))

-- number 8: "a checksum width other than 8, 16 or 24"
unfoldable pub other_width : ℕ → Bool
other_width w = not (eqb w 8 || eqb w 16 || eqb w 24)

-- of bits that stand one to an octet; number 12: "any octet over 1 where single bits are taken"
abbrev pub bits_conditions : ℕ → List ℕ → List (ℕ × Bool)
bits_conditions w bits = (8, other_width w) ∷ (12, some_over 1 bits) ∷ []

unfoldable pub bits_number : ℕ → List ℕ → ℕ
bits_number w bits = answered (bits_conditions w bits)

pub record OfBits (w : ℕ) (bits : List ℕ) (r : Sum) : Type 0 where
  pub number : r.number ≡ bits_number w bits
  pub value : r.value ≡ when_done (bits_number w bits) (checksum w (generator w) bits) 0

-- of packed octets
abbrev pub octets_conditions : ℕ → List (ℕ × Bool)
octets_conditions w = (8, other_width w) ∷ []

unfoldable pub octets_number : ℕ → ℕ
octets_number w = answered (octets_conditions w)

pub record OfOctets (w : ℕ) (octets : List ℕ) (r : Sum) : Type 0 where
  pub number : r.number ≡ octets_number w
  pub value : r.value ≡ when_done (octets_number w) (checksum w (generator w) (unpacked octets)) 0
