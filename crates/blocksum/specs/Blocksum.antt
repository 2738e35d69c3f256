-- The checksum of a code block (document 02, CR 8): "as E-UTRA does (source document 000, gCRC24B, low bits 800063)".
use Rattle.std.specs.Prelude.{ℕ}

-- D^24 + D^23 + D^6 + D^5 + D + 1 of document 000, 5.1.1, without its top bit
abbrev pub gen24_b : ℕ
gen24_b = 0x800063
