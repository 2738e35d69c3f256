-- The radio bits (document 01, steps 5 and 6; document 02, CR 3): the blocks' bits one behind the other. R is the profile's record, b is B, bits the transport
-- bits; the edition is one of the terms.
use Rattle.std.specs.Prelude.{List, [], ◌++◌, ℕ, zero, suc}
use Rattle.bits.specs.declared.count.Terms.{Terms}
use Rattle.profile.specs.Record.{kind}
use Rattle.cutting.specs.Plan.{blocks}
use Rattle.matching.specs.Matching.{matched_from}
use Rattle.coding.specs.Blocks.{coded_block}
use Rattle.coding.specs.Allocation.{share}

-- block r's bits: its share of the allocation, from the start that the profile's type and the redundancy version give
unfoldable pub block_sent : List ℕ → ℕ → List ℕ → Terms → ℕ → ℕ → List ℕ
block_sent R b bits terms g r =
    matched_from (kind R) terms.rv (coded_block R terms.edition b bits r) (share terms g (blocks R terms.edition b) r).0

-- f 0, .., f (n − 1) one behind the other: "Each block's bits go straight into its own stretch in the middle of the output"
unfoldable pub joined : ℕ → (ℕ → List ℕ) → List ℕ
joined zero f = []
joined (suc n) f = joined n f ++ f n

-- what transport bits are sent as: nothing is left at the end, since the shares add up to G
unfoldable pub radio_bits : List ℕ → ℕ → List ℕ → Terms → ℕ → List ℕ
radio_bits R b bits terms g = joined (blocks R terms.edition b) (block_sent R b bits terms g)
