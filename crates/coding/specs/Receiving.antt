-- Receiving (document 01, "From block to radio bits"): "Where E ≥ N in every block it accepts exactly the bits that sending some transport
-- block of that length gives"; E is each block's own share (CR 1). R is the profile's record, bits the received bits, whose number is G.
use Rattle.std.specs.Prelude.{Bool, List, ℕ, ◌*◌, ◌^◌, ltb, length}
use Rattle.bits.specs.Bits.{same, digits, packed}
use Rattle.bits.specs.Ranges.{any_below, first_below}
use Rattle.bits.specs.declared.count.Terms.{Terms}
use Rattle.cutting.specs.Plan.{block_bits, blocks}
use Rattle.cutting.specs.Transport.{transport}
use Rattle.coding.specs.Blocks.{sendable}
use Rattle.coding.specs.Allocation.{share}
use Rattle.coding.specs.Joining.{radio_bits}

-- a transport block is sent as these bits
unfoldable pub sent_as : List ℕ → Terms → List ℕ → List ℕ → Bool
sent_as R terms bits block = same (radio_bits R (block_bits (length block)) (transport block) terms (length bits)) bits

-- the transport blocks of so many octets: the n-th, for n from 0 to 2^(8·octets) − 1, has the digits of n as its bits
unfoldable pub nth_block : ℕ → ℕ → List ℕ
nth_block octets n = packed octets (digits (8 * octets) n)

-- "some transport block of that length" is sent as these bits
unfoldable pub some_sent_as : List ℕ → ℕ → Terms → List ℕ → Bool
some_sent_as R octets terms bits = any_below (2 ^ (8 * octets)) (λ n. sent_as R terms bits (nth_block octets n))

-- "It then writes the octets": those of the first block that is sent as these bits; where every block has room there is one at most
unfoldable pub received_block : List ℕ → ℕ → Terms → List ℕ → List ℕ
received_block R octets terms bits = nth_block octets (first_below (2 ^ (8 * octets)) (λ n. sent_as R terms bits (nth_block octets n)))

-- 13: "E below N in some block"
unfoldable pub some_without_room : List ℕ → ℕ → Terms → ℕ → Bool
some_without_room R octets terms g =
    any_below (blocks R terms.edition (block_bits octets))
    (λ r. ltb (share terms g (blocks R terms.edition (block_bits octets)) r).0 (sendable R terms.edition (block_bits octets) r))
