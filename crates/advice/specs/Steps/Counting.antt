-- What the steps of finding the least G promise each other.
use Rattle.std.specs.Prelude.{List, ℕ}
use Rattle.bits.specs.Counts.{ceil, place_bits}
use Rattle.bits.specs.Ranges.{sum_below}
use Rattle.bits.specs.declared.count.Terms.{Terms}
use Rattle.cutting.specs.Plan.{blocks}
use Rattle.coding.specs.Blocks.{sendable}

-- the symbol places that block r's N takes, and those that all blocks take together; b is B
unfoldable pub places_for : List ℕ → ℕ → Terms → ℕ → ℕ
places_for R b terms r = ceil (sendable R terms.edition b r) (place_bits terms)

unfoldable pub places_for_all : List ℕ → ℕ → Terms → ℕ
places_for_all R b terms = sum_below (blocks R terms.edition b) (places_for R b terms)
