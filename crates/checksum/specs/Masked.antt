-- Checksums under a mask (document 02, CR 9): "Let the appending and testing of a checksum take a mask of the checksum's width". Over any width w and
-- any generator g, as in Crc; a mask is any number m.
use Rattle.std.specs.Prelude.{Bool, List, ◌++◌, ℕ, ◌-◌, ◌%◌, ◌^◌, length, take}
use Rattle.std.specs.Int.Bits.{bit_xor}
use Rattle.bits.specs.Bits.{same, digits}
use Rattle.checksum.specs.Crc.{checksum}

-- the sum s under the mask: "added bit by bit without carry", "(higher bits ignored)"
unfoldable pub under : ℕ → ℕ → ℕ → ℕ
under w m s = bit_xor s (m % 2 ^ w)

unfoldable pub checksum_under : ℕ → ℕ → ℕ → List ℕ → ℕ
checksum_under w g m a = under w m (checksum w g a)

-- appending: the bits, and then the checksum's w bits under the mask, the highest first: 5.3.1.1 and 5.3.3.2 of 5G.212 add x_0 to p_0, and x_0
-- "corresponds to the MSB"
unfoldable pub attached_under : ℕ → ℕ → ℕ → List ℕ → List ℕ
attached_under w g m a = a ++ digits w (checksum_under w g m a)

-- testing: the word is what appending makes of the bits before its last w; a word of fewer than w bits is none
unfoldable pub tests_under : ℕ → ℕ → ℕ → List ℕ → Bool
tests_under w g m word = same word (attached_under w g m (take (length word - w) word))
