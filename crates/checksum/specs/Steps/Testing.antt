-- The receiver's test of a checksum.
use Rattle.std.specs.Prelude.{Bool, List, ℕ, ◌-◌, eqb, length, take, drop}
use Rattle.bits.specs.Bits.{value_of}
use Rattle.checksum.specs.Crc.{checksum}

-- recompute and compare: the last w bits are the checksum of those before them
unfoldable pub checks : ℕ → ℕ → List ℕ → Bool
checks w g b = eqb (checksum w g (take (length b - w) b)) (value_of (drop (length b - w) b))
