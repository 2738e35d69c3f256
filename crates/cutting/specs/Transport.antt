-- Step 1 of document 01: the transport bits, a block's bits and its checksum.
use Rattle.std.specs.Prelude.{List, ℕ}
use Rattle.bits.specs.Bits.{unpacked}
use Rattle.checksum.specs.Crc.{attached, gen24_a}

-- "Append the 24 checksum bits of gCRC24A"
unfoldable pub transport : List ℕ → List ℕ
transport block = attached 24 gen24_a (unpacked block)
