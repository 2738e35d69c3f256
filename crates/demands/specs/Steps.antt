-- What the second demand says of sending: the six steps of document 01, "From block to radio bits", as facts of the bits that a transport block is
-- sent as, "for each rv" (document 02, CR 3) and in either edition (CR 8). R is the profile's record, ed the edition. No parity bits are searched for here, and
-- no stretch is joined; the checksums, cutting, the matrix and rate matching are the definitions that sending itself is made of.
use Rattle.std.specs.Prelude.{◌≡◌, true, cond, List, ◌++◌, ℕ, ◌+◌, ◌-◌, ◌*◌, ◌/◌, ◌%◌, ◌≤◌, ◌<◌, eqb, ltb, length, get_or, take, drop, replicate}
use Rattle.bits.specs.Bits.{AreBits, digits, unpacked}
use Rattle.bits.specs.Counts.{ceil, place_bits}
use Rattle.bits.specs.Ranges.{sum_below}
use Rattle.bits.specs.declared.count.Terms.{Terms}
use Rattle.checksum.specs.Crc.{checksum, gen24_a}
use Rattle.profile.specs.Record.{kind, z, rows, columns, table}
use Rattle.blocksum.specs.Blocksum.{gen24_b}
use Rattle.cutting.specs.Plan.{block_bits, kmax, blocks, own_bits, size_index, places}
use Rattle.cutting.specs.Cutting.{own}
use Rattle.parity.specs.Matrix.{checks}
use Rattle.matching.specs.Matching.{matched, turned}
use Rattle.coding.specs.Joining.{joined}

-- C and K of a block of so many octets, and which of the record's sizes is chosen for it
unfoldable pub block_count : List ℕ → ℕ → ℕ → ℕ
block_count R ed octets = blocks R ed (block_bits octets)

unfoldable pub block_places : List ℕ → ℕ → ℕ → ℕ
block_places R ed octets = places R ed (block_bits octets)

unfoldable pub block_index : List ℕ → ℕ → ℕ → ℕ
block_index R ed octets = size_index R ed (block_bits octets)

-- G', and block r's share: "with γ = G' mod C, blocks r < γ have E_r = N_L·Q_m·ceil(G'/C) and the rest have floor" (document 02, CR 1)
unfoldable pub all_places : Terms → ℕ → ℕ
all_places terms g = g / place_bits terms

unfoldable pub block_share : List ℕ → ℕ → Terms → ℕ → ℕ → ℕ
block_share R octets terms g r =
    place_bits terms
    * cond (ltb r (all_places terms g % block_count R terms.edition octets)) (ceil (all_places terms g) (block_count R terms.edition octets))
    (all_places terms g / block_count R terms.edition octets)

-- how long a coded block is, filler counted: K systematic places, and "the last (m+x)·z of them parity" (document 02, CR 3)
unfoldable pub coded_length : List ℕ → ℕ → ℕ → ℕ
coded_length R ed octets = block_places R ed octets + rows R * z R (block_index R ed octets)

-- the place that a block's bits start from: "Type 2 starts rate matching at floor(D/4)·rv, D being the coded length" (CR 3), and Type 1 at the first
unfoldable pub block_start : List ℕ → ℕ → Terms → ℕ
block_start R octets terms = cond (eqb (kind R) 2) (coded_length R terms.edition octets / 4 * terms.rv) 0

-- what a block with these own bits carries: "In edition 2 one block is enough if B ≤ Kmax; otherwise .. each block's own bits are followed by their 24B
-- checksum" (CR 8)
pub record Carries (R : List ℕ) (ed octets : ℕ) (mine load : List ℕ) : Type 0 where
  pub alone : (ed ≡ 2 → ⊥) → load ≡ mine
  pub single : block_bits octets ≤ kmax R → load ≡ mine
  pub followed : ed ≡ 2 → kmax R < block_bits octets → load ≡ mine ++ digits 24 (checksum 24 gen24_b mine)

-- 3 and 4. w is the coded block of what is carried: "Places past a block's own bits, at its end, are filler"; "K systematic places" and then (m+x)·z parity
-- bits. "It must check with filler read as 0. Filler places stay marked."
pub record Word (R : List ℕ) (ed octets : ℕ) (load w : List ℕ) : Type 0 where
  pub systematic : take (block_places R ed octets) w ≡ load ++ replicate (block_places R ed octets - length load) 2
  pub long : length w ≡ coded_length R ed octets
  pub parity : (p : ℕ) → block_places R ed octets ≤ p → get_or w p 0 < 2
  pub checked : checks (table R (block_index R ed octets)) (rows R) (columns R) (z R (block_index R ed octets)) w ≡ true

pub record Steps (R block : List ℕ) (terms : Terms) (g : ℕ) (bits : List ℕ) : Type 0 where
  -- 1. "Append the 24 checksum bits of gCRC24A; B = A + 24"
  pub transport : List ℕ
  pub appended : transport ≡ unpacked block ++ digits 24 (checksum 24 gen24_a (unpacked block))
  pub transported : length transport ≡ 8 * length block + 24
  -- 2. "The first B mod C blocks carry ceil(B/C) bits in order, the others floor(B/C)", and together they carry all
  pub cut : (r : ℕ) → r < block_count R terms.edition (length block)
      → length (own R terms.edition (block_bits (length block)) transport r)
      ≡ own_bits (block_bits (length block)) (block_count R terms.edition (length block)) r
  pub together : joined (block_count R terms.edition (length block)) (own R terms.edition (block_bits (length block)) transport) ≡ transport
  -- and their checksums (CR 8)
  pub load : ℕ → List ℕ
  pub carried : (r : ℕ) → r < block_count R terms.edition (length block)
      → Carries R terms.edition (length block) (own R terms.edition (block_bits (length block)) transport r) (load r)
  -- 3 and 4, of each block
  pub word : ℕ → List ℕ
  pub coded : (r : ℕ) → r < block_count R terms.edition (length block) → Word R terms.edition (length block) (load r) (word r)
  -- 5 and 6. A block's E_r bits are its coded places in order from its start on, "filler skipped, starting again at the first after the last", and go
  -- into its own stretch, behind those of the blocks before it
  pub stretch : (r : ℕ) → r < block_count R terms.edition (length block)
      → take (block_share R (length block) terms g r) (drop (sum_below r (block_share R (length block) terms g)) bits)
      ≡ matched (turned (block_start R (length block) terms) (word r)) (block_share R (length block) terms g r)
  -- 5. "the shares now add up to G" (CR 1)
  pub all : sum_below (block_count R terms.edition (length block)) (block_share R (length block) terms g) ≡ g
  -- and the bits are G, each 0 or 1
  pub long : length bits ≡ g
  pub single : AreBits bits
