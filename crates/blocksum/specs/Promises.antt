-- What the public call promises, for every input. A `Sum` has a number and a value.
use Rattle.std.specs.Prelude.{◌≡◌, Bool, List, [], ◌∷◌, ℕ}
use Rattle.bits.specs.Bits.{some_over}
use Rattle.bits.specs.Numbers.{answered, when_done}
use Rattle.checksum.specs.Crc.{checksum}
use Rattle.checksum.specs.declared.Sum.{Sum}
use Rattle.blocksum.specs.Blocksum.{gen24_b}

-- number 12: "any octet over 1 where single bits are taken"
abbrev pub block_bits_conditions : List ℕ → List (ℕ × Bool)
block_bits_conditions bits = (12, some_over 1 bits) ∷ []

unfoldable pub block_bits_number : List ℕ → ℕ
block_bits_number bits = answered (block_bits_conditions bits)

pub record OfBlockBits (bits : List ℕ) (r : Sum) : Type 0 where
  pub number : r.number ≡ block_bits_number bits
  pub value : r.value ≡ when_done (block_bits_number bits) (checksum 24 gen24_b bits) 0
