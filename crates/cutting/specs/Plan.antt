-- How a transport block is cut (document 01, "From block to radio bits", steps 1 to 3; document 02, CR 8). R is the profile's record, ed the edition, b is B.
use Rattle.std.specs.Prelude.{Bool, cond, not, ◌&&◌, ◌||◌, List, ℕ, ◌+◌, ◌-◌, ◌*◌, ◌/◌, ◌%◌, eqb, leb, ltb}
use Rattle.bits.specs.Counts.{ceil}
use Rattle.bits.specs.Ranges.{first_below}
use Rattle.profile.specs.Record.{kb, t, z}

-- 1. "A is 8 times the octets .. Append the 24 checksum bits of gCRC24A; B = A + 24"
unfoldable pub block_bits : ℕ → ℕ
block_bits octets = 8 * octets + 24

-- 2. "Kmax is kb times the largest z": the sizes rise, so the last is the largest
unfoldable pub kmax : List ℕ → ℕ
kmax R = kb R * z R (t R - 1)

-- CR 8: 19 "for an edition other than 1 or 2"
unfoldable pub other_edition : ℕ → Bool
other_edition ed = not (eqb ed 1 || eqb ed 2)

-- "In edition 2 one block is enough if B ≤ Kmax; otherwise" each block has a checksum of its own. "Edition 1 stays as it is"
unfoldable pub summed : List ℕ → ℕ → ℕ → Bool
summed R ed b = eqb ed 2 && ltb (kmax R) b

-- L: how many bits of a block are its checksum
unfoldable pub sum_bits : List ℕ → ℕ → ℕ → ℕ
sum_bits R ed b = cond (summed R ed b) 24 0

-- "C = ceil(B/Kmax)", and with checksums "C = ceil(B/(Kmax−24))"
unfoldable pub blocks : List ℕ → ℕ → ℕ → ℕ
blocks R ed b = ceil b (kmax R - sum_bits R ed b)

-- 9: "C over 64", and "also in edition 2 where B > Kmax and Kmax ≤ 24"
unfoldable pub too_many_blocks : List ℕ → ℕ → ℕ → Bool
too_many_blocks R ed b = (summed R ed b && leb (kmax R) 24) || ltb 64 (blocks R ed b)

-- "The first B mod C blocks carry ceil(B/C) bits in order, the others floor(B/C)"
unfoldable pub own_bits : ℕ → ℕ → ℕ → ℕ
own_bits b c r = cond (ltb r (b % c)) (ceil b c) (b / c)

-- 3. "the smallest z with kb·z ≥ ceil(B/C)": which of the record's sizes it is; they rise, so the first that is large enough
unfoldable pub size_index_for : List ℕ → ℕ → ℕ
size_index_for R need = first_below (t R) (λ i. leb need (kb R * z R i))

-- with checksums "K is the smallest that holds ceil(B/C) + 24"
unfoldable pub size_index : List ℕ → ℕ → ℕ → ℕ
size_index R ed b = size_index_for R (ceil b (blocks R ed b) + sum_bits R ed b)

-- "K = kb·z .. one K for all blocks"
unfoldable pub places : List ℕ → ℕ → ℕ → ℕ
places R ed b = kb R * z R (size_index R ed b)

-- the bits that block r carries: "each block's own bits are followed by their 24B checksum and then filler"
unfoldable pub carried_bits : List ℕ → ℕ → ℕ → ℕ → ℕ
carried_bits R ed b r = own_bits b (blocks R ed b) r + sum_bits R ed b

-- "Places past a block's own bits, at its end, are filler"
unfoldable pub filler : List ℕ → ℕ → ℕ → ℕ → ℕ
filler R ed b r = places R ed b - carried_bits R ed b r
