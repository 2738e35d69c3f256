-- The cases marked P of document 01, "Small profile and worked numbers", and those of CR 1, in one table, in a second cases of our own for CR 3, in a third those
-- of CR 8, in a fourth those of CR 5, and in a fifth those of CR 10: what the definitions compute, and what is due.
use Rattle.std.specs.Prelude.{cond, List, [], ◌∷◌, ◌++◌, ℕ, ◌+◌, ◌-◌, ◌^◌, eqb, take, replicate}
use Rattle.bits.specs.Bits.{unpacked, digits}
use Rattle.bits.specs.Ranges.{sum_below, list_below}
use Rattle.bits.specs.declared.count.Terms.{Terms}
use Rattle.checksum.specs.Crc.{checksum, gen24_a, gen16, gen8}
use Rattle.profile.specs.Record.{kind, z, rows, columns, table}
use Rattle.blocksum.specs.Blocksum.{gen24_b}
use Rattle.cutting.specs.Plan.{block_bits, sum_bits, blocks, too_many_blocks, own_bits, places, filler}
use Rattle.cutting.specs.Transport.{transport}
use Rattle.parity.specs.Coded.{coded}
use Rattle.matching.specs.Matching.{matched_from}
use Rattle.control.specs.Register.{streams}
use Rattle.control.specs.Interleaver.{sent}
use Rattle.nearest.specs.Nearest.{away, nearest}
use Rattle.coding.specs.Allocation.{share}
use Rattle.coding.specs.Joining.{radio_bits}

-- "The toy record has kb 1, m 3, one z of 2"; "The toy record becomes 26 octets" (document 02, CR 3), with x 0 and Type 1
unfoldable pub toy : List ℕ
toy =
    0x00 ∷ 0x01 ∷ 0x00 ∷ 0x03 ∷ 0x00 ∷ 0x00 ∷ 0x00 ∷ 0x01 ∷ 0x00 ∷ 0x01 ∷ 0x00 ∷ 0x02 ∷ 0x00 ∷ 0x0E
    ∷ 0x00 ∷ 0x01 ∷ 0x00 ∷ 0xFF ∷ 0x01 ∷ 0x00 ∷ 0x00 ∷ 0x00 ∷ 0xFF ∷ 0x01 ∷ 0xFF ∷ 0x00 ∷ []

-- P10: "The bits packed into octets, as the sample program prints them in one line"
unfoldable pub p10_octets : List ℕ
p10_octets =
    0x00 ∷ 0x00 ∷ 0x00 ∷ 0x7B ∷ 0xB7 ∷ 0x00 ∷ 0x7B ∷ 0xB7 ∷ 0x7B ∷ 0x00 ∷ 0xCC ∷ 0x00 ∷ 0xCC ∷ 0xCC ∷ 0xB7 ∷ 0xCC ∷ []

-- CR 1, packed into octets, the last one filled up with zeros: octet 01 with G 130, and octet C0 with G 130, 134 and 126
unfoldable pub spare_octets : List ℕ
spare_octets =
    0x00 ∷ 0x00 ∷ 0x00 ∷ 0x1E ∷ 0xED ∷ 0xC0 ∷ 0x1E ∷ 0xED ∷ 0xDE ∷ 0xC0 ∷ 0x33 ∷ 0x00 ∷ 0x33 ∷ 0x33 ∷ 0x2D ∷ 0xF3 ∷ 0x00 ∷ []

unfoldable pub c0_with130 : List ℕ
c0_with130 =
    0xCC ∷ 0xC0 ∷ 0x00 ∷ 0x00 ∷ 0x00 ∷ 0x2D ∷ 0xED ∷ 0xED ∷ 0xF3 ∷ 0x2D ∷ 0xDE ∷ 0xC0 ∷ 0x1E ∷ 0xF3 ∷ 0x1E ∷ 0xED ∷ 0xC0 ∷ []

unfoldable pub c0_with134 : List ℕ
c0_with134 =
    0xCC ∷ 0xC0 ∷ 0x00 ∷ 0x00 ∷ 0x00 ∷ 0x02 ∷ 0xDE ∷ 0xDE ∷ 0xDF ∷ 0x32 ∷ 0xDD ∷ 0xEC ∷ 0x01 ∷ 0xEF ∷ 0x31 ∷ 0xEE ∷ 0xDC ∷ []

unfoldable pub c0_with126 : List ℕ
c0_with126 =
    0xCC ∷ 0x00 ∷ 0x00 ∷ 0x00 ∷ 0x00 ∷ 0xB7 ∷ 0xB7 ∷ 0xB7 ∷ 0xCC ∷ 0xB7 ∷ 0x7B ∷ 0x00 ∷ 0x7B ∷ 0xCC ∷ 0x7B ∷ 0xB4 ∷ []

-- a toy code word: the places with the parity bits that the toy record gives them
unfoldable pub toy_word : List ℕ → List ℕ
toy_word places = coded (table toy 0) (rows toy) (columns toy) (z toy 0) places

-- "N_L 1, Q_m 2", "Type 1 requires rv 0", and "Edition 1 stays as it is"
abbrev pub toy_terms : Terms
toy_terms = record { nl = 1; qm = 2; rv = 0; edition = 1 }

-- the transport bits of so many octets: B, C, each block's share, and the bits that they are sent as
unfoldable pub sent_with : List ℕ → Terms → ℕ → List ℕ → ℕ → List ℕ
sent_with R terms octets bits g =
    let b = block_bits octets in
    let c = blocks R terms.edition b in
    b ∷ c ∷ list_below c (λ r. (share terms g c r).0) ++ radio_bits R b bits terms g

abbrev pub toy_sent : List ℕ → ℕ → List ℕ
toy_sent bits g = sent_with toy toy_terms 1 bits g

pub record Case : Type 0 where
  pub computed : List ℕ
  pub due : List ℕ

unfoldable pub cases : List Case
cases =
    -- "P1 checksum 24A of octet 01 is 864CFB"
    record { computed = checksum 24 gen24_a (unpacked (0x01 ∷ [])) ∷ []; due = 0x864CFB ∷ [] }
    -- "P2 of octet 02 is 8AD50D"
    ∷ record { computed = checksum 24 gen24_a (unpacked (0x02 ∷ [])) ∷ []; due = 0x8AD50D ∷ [] }
    -- "P3 of octet 00 is 000000"
    ∷ record { computed = checksum 24 gen24_a (unpacked (0x00 ∷ [])) ∷ []; due = 0x000000 ∷ [] }
    -- "P4 checksum 16 of the single bit 1 is 1021"
    ∷ record { computed = checksum 16 gen16 (1 ∷ []) ∷ []; due = 0x1021 ∷ [] }
    -- "P5 checksum 8 of it is 9B"
    ∷ record { computed = checksum 8 gen8 (1 ∷ []) ∷ []; due = 0x9B ∷ [] }
    -- "Toy code words: P6 00 gives 00000000"
    ∷ record { computed = toy_word (0 ∷ 0 ∷ []); due = 0 ∷ 0 ∷ 0 ∷ 0 ∷ 0 ∷ 0 ∷ 0 ∷ 0 ∷ [] }
    -- "P7 01 gives 01111011"
    ∷ record { computed = toy_word (0 ∷ 1 ∷ []); due = 0 ∷ 1 ∷ 1 ∷ 1 ∷ 1 ∷ 0 ∷ 1 ∷ 1 ∷ [] }
    -- "P8 10 gives 10110111"
    ∷ record { computed = toy_word (1 ∷ 0 ∷ []); due = 1 ∷ 0 ∷ 1 ∷ 1 ∷ 0 ∷ 1 ∷ 1 ∷ 1 ∷ [] }
    -- "P9 11 gives 11001100"
    ∷ record { computed = toy_word (1 ∷ 1 ∷ []); due = 1 ∷ 1 ∷ 0 ∷ 0 ∷ 1 ∷ 1 ∷ 0 ∷ 0 ∷ [] }
    -- "P10 toy, octet 01, N_L 1, Q_m 2, G 128: B 32, C 16, E 8", and the bits
    ∷ record { computed = toy_sent (transport (0x01 ∷ [])) 128; due = 32 ∷ 16 ∷ replicate 16 8 ++ unpacked p10_octets }
    -- CR 1: "The toy case with G 130 now gives ten bits to the first block, whose last two repeat its first two"
    ∷ record { computed = toy_sent (transport (0x01 ∷ [])) 130; due = 32 ∷ 16 ∷ 10 ∷ replicate 15 8 ++ take 130 (unpacked spare_octets) }
    -- octet C0, whose first block is 11, so that it is seen who has the two bits
    ∷ record { computed = toy_sent (transport (0xC0 ∷ [])) 130; due = 32 ∷ 16 ∷ 10 ∷ replicate 15 8 ++ take 130 (unpacked c0_with130) }
    -- γ 3
    ∷ record { computed = toy_sent (transport (0xC0 ∷ [])) 134; due = 32 ∷ 16 ∷ 10 ∷ 10 ∷ 10 ∷ replicate 13 8 ++ take 134 (unpacked c0_with134) }
    -- γ 15: the last block alone has 6
    ∷ record { computed = toy_sent (transport (0xC0 ∷ [])) 126; due = 32 ∷ 16 ∷ replicate 15 8 ++ 6 ∷ take 126 (unpacked c0_with126) }
    ∷ []

-- ---- Type 2 (document 02, CR 3), by a record of our own

-- kb 1, m 3, x 1, Type 2 and one z of 3: 34 octets. The extension row reads columns 1 and 3, and its own column is 4.
unfoldable pub type_two : List ℕ
type_two =
    0x00 ∷ 0x01 ∷ 0x00 ∷ 0x03 ∷ 0x00 ∷ 0x01 ∷ 0x00 ∷ 0x02 ∷ 0x00 ∷ 0x01 ∷ 0x00 ∷ 0x03 ∷ 0x00 ∷ 0x0E
    ∷ 0x00 ∷ 0x01 ∷ 0x00 ∷ 0xFF ∷ 0xFF ∷ 0x02 ∷ 0x00 ∷ 0x00 ∷ 0x00 ∷ 0xFF ∷ 0x01 ∷ 0x01 ∷ 0xFF ∷ 0x00 ∷ 0xFF ∷ 0xFF ∷ 0x02 ∷ 0xFF ∷ 0x01 ∷ 0x00 ∷ []

unfoldable pub type_two_word : List ℕ → List ℕ
type_two_word places = coded (table type_two 0) (rows type_two) (columns type_two) (z type_two 0) places

-- two own bits and a filler, and the 16 bits that their coded block is sent as: its 14 kept places, and then two once more
unfoldable pub last_places : List ℕ
last_places = 1 ∷ 1 ∷ 2 ∷ []

unfoldable pub type_two_matched : ℕ → List ℕ
type_two_matched rv = matched_from (kind type_two) rv (type_two_word last_places) 16

-- N_L 1, Q_m 2, G 176
unfoldable pub type_two_sent : List ℕ → ℕ → List ℕ
type_two_sent bits rv = sent_with type_two (record { nl = 1; qm = 2; rv = rv; edition = 1 }) 1 bits 176

-- octet A5 for each rv, packed into octets; its last block has the places above
unfoldable pub a5_with0 : List ℕ
a5_with0 =
    0xA2 ∷ 0xBD ∷ 0x3F ∷ 0x58 ∷ 0x5E ∷ 0xB2 ∷ 0x5E ∷ 0xB2 ∷ 0xA2 ∷ 0xBD ∷ 0x00 ∷ 0x00 ∷ 0xFC ∷ 0x0F ∷ 0x9D ∷ 0xE5 ∷ 0x5E ∷ 0xB2 ∷ 0xA2 ∷ 0xBD ∷ 0xC6 ∷ 0xAF ∷ []

unfoldable pub a5_with1 : List ℕ
a5_with1 =
    0x15 ∷ 0xEA ∷ 0xFA ∷ 0xC3 ∷ 0xF5 ∷ 0x95 ∷ 0xF5 ∷ 0x95 ∷ 0x15 ∷ 0xEA ∷ 0x00 ∷ 0x00 ∷ 0xE0 ∷ 0x7F ∷ 0xEF ∷ 0x29 ∷ 0xF5 ∷ 0x95 ∷ 0x15 ∷ 0xEA ∷ 0x1A ∷ 0xBC ∷ []

unfoldable pub a5_with2 : List ℕ
a5_with2 =
    0xAF ∷ 0x51 ∷ 0xD6 ∷ 0x1F ∷ 0xAC ∷ 0xAF ∷ 0xAC ∷ 0xAF ∷ 0xAF ∷ 0x51 ∷ 0x00 ∷ 0x00 ∷ 0x03 ∷ 0xFE ∷ 0x79 ∷ 0x4E ∷ 0xAC ∷ 0xAF ∷ 0xAF ∷ 0x51 ∷ 0xD5 ∷ 0xE3 ∷ []

unfoldable pub a5_with3 : List ℕ
a5_with3 =
    0x7A ∷ 0x8A ∷ 0xB0 ∷ 0xFD ∷ 0x65 ∷ 0x7A ∷ 0x65 ∷ 0x7A ∷ 0x7A ∷ 0x8A ∷ 0x00 ∷ 0x00 ∷ 0x1F ∷ 0xF0 ∷ 0xCA ∷ 0x77 ∷ 0x65 ∷ 0x7A ∷ 0x7A ∷ 0x8A ∷ 0xAF ∷ 0x1A ∷ []

unfoldable pub versions : List Case
versions =
    -- "a word has (kb+m+x)·z bits, the last (m+x)·z of them parity": the filler stays marked
    record { computed = type_two_word last_places; due = 1 ∷ 1 ∷ 2 ∷ 0 ∷ 0 ∷ 0 ∷ 1 ∷ 1 ∷ 0 ∷ 1 ∷ 0 ∷ 1 ∷ 0 ∷ 1 ∷ 1 ∷ [] }
    -- "Type 2 starts rate matching at floor(D/4)·rv": D is 15, so rv 0 starts at place 0
    ∷ record { computed = type_two_matched 0; due = 1 ∷ 1 ∷ 0 ∷ 0 ∷ 0 ∷ 1 ∷ 1 ∷ 0 ∷ 1 ∷ 0 ∷ 1 ∷ 0 ∷ 1 ∷ 1 ∷ 1 ∷ 1 ∷ [] }
    -- at place 3, right behind the filler, which counts for the start
    ∷ record { computed = type_two_matched 1; due = 0 ∷ 0 ∷ 0 ∷ 1 ∷ 1 ∷ 0 ∷ 1 ∷ 0 ∷ 1 ∷ 0 ∷ 1 ∷ 1 ∷ 1 ∷ 1 ∷ 0 ∷ 0 ∷ [] }
    -- at place 6
    ∷ record { computed = type_two_matched 2; due = 1 ∷ 1 ∷ 0 ∷ 1 ∷ 0 ∷ 1 ∷ 0 ∷ 1 ∷ 1 ∷ 1 ∷ 1 ∷ 0 ∷ 0 ∷ 0 ∷ 1 ∷ 1 ∷ [] }
    -- at place 9
    ∷ record { computed = type_two_matched 3; due = 1 ∷ 0 ∷ 1 ∷ 0 ∷ 1 ∷ 1 ∷ 1 ∷ 1 ∷ 0 ∷ 0 ∷ 0 ∷ 1 ∷ 1 ∷ 0 ∷ 1 ∷ 0 ∷ [] }
    -- octet A5: B 32, C 11, E 16, and the bits for each rv
    ∷ record { computed = type_two_sent (transport (0xA5 ∷ [])) 0; due = 32 ∷ 11 ∷ replicate 11 16 ++ unpacked a5_with0 }
    ∷ record { computed = type_two_sent (transport (0xA5 ∷ [])) 1; due = 32 ∷ 11 ∷ replicate 11 16 ++ unpacked a5_with1 }
    ∷ record { computed = type_two_sent (transport (0xA5 ∷ [])) 2; due = 32 ∷ 11 ∷ replicate 11 16 ++ unpacked a5_with2 }
    ∷ record { computed = type_two_sent (transport (0xA5 ∷ [])) 3; due = 32 ∷ 11 ∷ replicate 11 16 ++ unpacked a5_with3 }
    ∷ []

-- ---- editions (document 02, CR 8)

-- kb 20, m 3 and one z of 2: for j below 20 row 0 holds j mod 2, row 1 floor(j/2) mod 2, row 2 0 where j is odd; then the toy's staircase. Kmax is 40.
unfoldable pub twenty : List ℕ
twenty =
    0x00 ∷ 0x14 ∷ 0x00 ∷ 0x03 ∷ 0x00 ∷ 0x00 ∷ 0x00 ∷ 0x01 ∷ 0x00 ∷ 0x01 ∷ 0x00 ∷ 0x02 ∷ 0x00 ∷ 0x0E
    ∷ 0x00 ∷ 0x01 ∷ 0x00 ∷ 0x01 ∷ 0x00 ∷ 0x01 ∷ 0x00 ∷ 0x01 ∷ 0x00 ∷ 0x01 ∷ 0x00 ∷ 0x01 ∷ 0x00 ∷ 0x01 ∷ 0x00 ∷ 0x01 ∷ 0x00 ∷ 0x01 ∷ 0x00 ∷ 0x01 ∷ 0x01 ∷ 0x00 ∷ 0xFF
    ∷ 0x00 ∷ 0x00 ∷ 0x01 ∷ 0x01 ∷ 0x00 ∷ 0x00 ∷ 0x01 ∷ 0x01 ∷ 0x00 ∷ 0x00 ∷ 0x01 ∷ 0x01 ∷ 0x00 ∷ 0x00 ∷ 0x01 ∷ 0x01 ∷ 0x00 ∷ 0x00 ∷ 0x01 ∷ 0x01 ∷ 0x00 ∷ 0x00 ∷ 0x00
    ∷ 0xFF ∷ 0x00 ∷ 0xFF ∷ 0x00 ∷ 0xFF ∷ 0x00 ∷ 0xFF ∷ 0x00 ∷ 0xFF ∷ 0x00 ∷ 0xFF ∷ 0x00 ∷ 0xFF ∷ 0x00 ∷ 0xFF ∷ 0x00 ∷ 0xFF ∷ 0x00 ∷ 0xFF ∷ 0x00 ∷ 0x01 ∷ 0xFF ∷ 0x00 ∷ []

-- the header of a record with kb 12, m 3 and the sizes 27, 54 and 81, which is all that a plan counts with; Kmax is 972
unfoldable pub twelve : List ℕ
twelve = 0x00 ∷ 0x0C ∷ 0x00 ∷ 0x03 ∷ 0x00 ∷ 0x00 ∷ 0x00 ∷ 0x01 ∷ 0x00 ∷ 0x03 ∷ 0x00 ∷ 0x1B ∷ 0x00 ∷ 0x16 ∷ 0x00 ∷ 0x36 ∷ 0x00 ∷ 0x43 ∷ 0x00 ∷ 0x51 ∷ 0x00 ∷ 0x70 ∷ []

-- and of the toy's with another z, which is Kmax
unfoldable pub one_of : ℕ → List ℕ
one_of z = 0x00 ∷ 0x01 ∷ 0x00 ∷ 0x03 ∷ 0x00 ∷ 0x00 ∷ 0x00 ∷ 0x01 ∷ 0x00 ∷ 0x01 ∷ 0x00 ∷ z ∷ 0x00 ∷ 0x0E ∷ []

-- how so many octets are cut: B, C, K, L, and the own bits and filler of the first block and of the last
unfoldable pub cut_with : List ℕ → ℕ → ℕ → List ℕ
cut_with R ed octets =
    let b = block_bits octets in
    let c = blocks R ed b in
    b ∷ c ∷ places R ed b ∷ sum_bits R ed b ∷ own_bits b c 0 ∷ filler R ed b 0 ∷ own_bits b c (c - 1) ∷ filler R ed b (c - 1) ∷ []

-- 1 where 9 applies, and 0 where it does not
unfoldable pub too_many_with : List ℕ → ℕ → ℕ → List ℕ
too_many_with R ed octets = cond (too_many_blocks R ed (block_bits octets)) 1 0 ∷ []

-- the ASCII digits 1 to 9
unfoldable pub nine_digits : List ℕ
nine_digits = 0x31 ∷ 0x32 ∷ 0x33 ∷ 0x34 ∷ 0x35 ∷ 0x36 ∷ 0x37 ∷ 0x38 ∷ 0x39 ∷ []

-- N_L 1, Q_m 2, G 138
unfoldable pub twenty_sent : List ℕ → ℕ → List ℕ
twenty_sent bits ed = sent_with twenty (record { nl = 1; qm = 2; rv = 0; edition = ed }) 3 bits 138

-- octets 01 02 03 in either edition, packed into octets
unfoldable pub three_with1 : List ℕ
three_with1 = 0x01 ∷ 0x02 ∷ 0x03 ∷ 0x00 ∷ 0x04 ∷ 0x08 ∷ 0x0C ∷ 0x00 ∷ 0x11 ∷ 0x0A ∷ 0x3A ∷ 0xC6 ∷ 0xB4 ∷ 0x28 ∷ 0xEB ∷ 0x1A ∷ 0xD0 ∷ 0x80 ∷ []

unfoldable pub three_with2 : List ℕ
three_with2 = 0x01 ∷ 0x02 ∷ 0x00 ∷ 0x42 ∷ 0x84 ∷ 0x90 ∷ 0x0D ∷ 0x08 ∷ 0x03 ∷ 0x58 ∷ 0x11 ∷ 0x48 ∷ 0xEB ∷ 0x12 ∷ 0x2B ∷ 0x12 ∷ 0x29 ∷ 0xC0 ∷ []

unfoldable pub editions : List Case
editions =
    -- 24B of "123456789" and of the single bit 1
    record { computed = checksum 24 gen24_b (unpacked nine_digits) ∷ []; due = 0x23EF52 ∷ [] }
    ∷ record { computed = checksum 24 gen24_b (1 ∷ []) ∷ []; due = 0x800063 ∷ [] }
    -- 118 octets fill one block of Kmax 972 up to 4 places, so both editions have one block and no checksum
    ∷ record { computed = cut_with twelve 1 118; due = 968 ∷ 1 ∷ 972 ∷ 0 ∷ 968 ∷ 4 ∷ 968 ∷ 4 ∷ [] }
    ∷ record { computed = cut_with twelve 2 118; due = 968 ∷ 1 ∷ 972 ∷ 0 ∷ 968 ∷ 4 ∷ 968 ∷ 4 ∷ [] }
    -- 119 octets are two blocks: 488 own bits and 24 more, for which K 648 is the smallest
    ∷ record { computed = cut_with twelve 2 119; due = 976 ∷ 2 ∷ 648 ∷ 24 ∷ 488 ∷ 136 ∷ 488 ∷ 136 ∷ [] }
    -- 2,048 octets are 18: ten of 912 own bits and eight of 911
    ∷ record { computed = cut_with twelve 2 2048; due = 16408 ∷ 18 ∷ 972 ∷ 24 ∷ 912 ∷ 36 ∷ 911 ∷ 37 ∷ [] }
    -- "9 also in edition 2 where B > Kmax and Kmax ≤ 24": one octet with Kmax 25 is 32 blocks of one own bit each; with 24, and with the toy's 2, it is 9
    ∷ record { computed = cut_with (one_of 25) 2 1; due = 32 ∷ 32 ∷ 25 ∷ 24 ∷ 1 ∷ 0 ∷ 1 ∷ 0 ∷ [] }
    ∷ record { computed = too_many_with (one_of 25) 2 1; due = 0 ∷ [] }
    ∷ record { computed = too_many_with (one_of 24) 2 1; due = 1 ∷ [] }
    ∷ record { computed = too_many_with toy 2 1; due = 1 ∷ [] }
    -- 125 octets with Kmax 40 are 64 blocks, and 126 too many
    ∷ record { computed = too_many_with twenty 2 125; due = 0 ∷ [] }
    ∷ record { computed = too_many_with twenty 2 126; due = 1 ∷ [] }
    -- octets 01 02 03: two blocks of 24 bits in edition 1, with a share of 70 and 68; three of 16 and 24 in edition 2, E = N = 46
    ∷ record { computed = twenty_sent (transport (0x01 ∷ 0x02 ∷ 0x03 ∷ [])) 1; due = 48 ∷ 2 ∷ 70 ∷ 68 ∷ take 138 (unpacked three_with1) }
    ∷ record { computed = twenty_sent (transport (0x01 ∷ 0x02 ∷ 0x03 ∷ [])) 2; due = 48 ∷ 3 ∷ 46 ∷ 46 ∷ 46 ∷ take 138 (unpacked three_with2) }
    -- noughts are sent as noughts in both, so that nothing is said across two
    ∷ record { computed = twenty_sent (transport (0x00 ∷ 0x00 ∷ 0x00 ∷ [])) 1; due = 48 ∷ 2 ∷ 70 ∷ 68 ∷ replicate 138 0 }
    ∷ record { computed = twenty_sent (transport (0x00 ∷ 0x00 ∷ 0x00 ∷ [])) 2; due = 48 ∷ 3 ∷ 46 ∷ 46 ∷ 46 ∷ replicate 138 0 }
    ∷ []

-- ---- control words (document 02, CR 5)

-- 101100
abbrev pub control_word : List ℕ
control_word = 1 ∷ 0 ∷ 1 ∷ 1 ∷ 0 ∷ 0 ∷ []

unfoldable pub control_words : List Case
control_words =
    -- the three streams of 100000, of 000001 and of 101100
    record { computed = streams (1 ∷ 0 ∷ 0 ∷ 0 ∷ 0 ∷ 0 ∷ []); due = 0 ∷ 0 ∷ 1 ∷ 1 ∷ 0 ∷ 1 ∷ 0 ∷ 1 ∷ 1 ∷ 1 ∷ 0 ∷ 0 ∷ 0 ∷ 1 ∷ 1 ∷ 0 ∷ 1 ∷ 0 ∷ [] }
    ∷ record { computed = streams (0 ∷ 0 ∷ 0 ∷ 0 ∷ 0 ∷ 1 ∷ []); due = 0 ∷ 1 ∷ 1 ∷ 0 ∷ 1 ∷ 0 ∷ 1 ∷ 1 ∷ 1 ∷ 0 ∷ 0 ∷ 0 ∷ 1 ∷ 1 ∷ 0 ∷ 1 ∷ 0 ∷ 0 ∷ [] }
    ∷ record { computed = streams control_word; due = 1 ∷ 1 ∷ 0 ∷ 1 ∷ 1 ∷ 1 ∷ 1 ∷ 1 ∷ 1 ∷ 0 ∷ 0 ∷ 0 ∷ 1 ∷ 0 ∷ 1 ∷ 1 ∷ 1 ∷ 1 ∷ [] }
    -- 101100 sent as 18 bits, and as 20, packed into octets
    ∷ record { computed = sent 6 (streams control_word) 18; due = take 18 (unpacked (0xED ∷ 0x6B ∷ 0xC0 ∷ [])) }
    ∷ record { computed = sent 6 (streams control_word) 20; due = take 20 (unpacked (0xED ∷ 0x6B ∷ 0xF0 ∷ [])) }
    -- of 40 bits the places 9, 25, 17, 1 and 33 of the first stream are sent first: each place holds its own number and three, so that none reads as a mark
    ∷ record { computed = sent 40 (list_below 120 (λ i. i + 3)) 5; due = (9 + 3) ∷ (25 + 3) ∷ (17 + 3) ∷ (1 + 3) ∷ (33 + 3) ∷ [] }
    ∷ []

-- ---- the nearest control word (document 02, CR 10)

-- three streams, each by the number that its bits are
abbrev pub three_streams : ℕ → ℕ → ℕ → ℕ → List ℕ
three_streams D a b c = digits D a ++ (digits D b ++ digits D c)

-- the nearest word, in how many places its code differs, and how many words are that far away
abbrev pub nearest_of : ℕ → List ℕ → ℕ → List ℕ
nearest_of D heard far = nearest D heard ∷ away D heard (nearest D heard) ∷ sum_below (2 ^ D) (λ k. cond (eqb (away D heard k) far) 1 0) ∷ []

unfoldable pub nearest_words : List Case
nearest_words =
    -- 011010 111000 110100 is the code of 000001
    record { computed = nearest_of 6 (three_streams 6 26 56 52) 0; due = 1 ∷ 0 ∷ 1 ∷ [] }
    -- 001011 110010 110110 gives 011011 with 4, and three words are as near
    ∷ record { computed = nearest_of 6 (three_streams 6 11 50 54) 4; due = 27 ∷ 4 ∷ 3 ∷ [] }
    -- 1101001 1101000 1001101 gives 0101001 with 6, and four words are as near
    ∷ record { computed = nearest_of 7 (three_streams 7 105 104 77) 6; due = 41 ∷ 6 ∷ 4 ∷ [] }
    ∷ []

-- ---- the columns of the tables

abbrev pub computed : Case → List ℕ
computed c = c.computed

abbrev pub due : Case → List ℕ
due c = c.due
