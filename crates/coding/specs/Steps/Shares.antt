-- What is known of the allocation where shares and room are counted.
use Rattle.std.specs.Prelude.{◌≡◌, Bool, List, ℕ, ◌%◌, ◌≤◌, ◌<◌, ltb}
use Rattle.bits.specs.Counts.{place_bits}
use Rattle.bits.specs.Ranges.{any_below}
use Rattle.bits.specs.declared.count.Terms.{Terms}
use Rattle.bits.specs.Steps.Counting.{Usable}
use Rattle.cutting.specs.Plan.{blocks}
use Rattle.coding.specs.Allocation.{share}
use Rattle.coding.specs.Blocks.{sendable}

-- the allocation is one of step 5, for c blocks
pub record Allocated (terms : Terms) (g c : ℕ) : Type 0 where
  pub usable : Usable terms
  pub most : g ≤ 65536
  pub whole : g % place_bits terms ≡ 0
  pub blocks : 0 < c

-- block r's share is below N, where b is B; some block's is
abbrev pub short : List ℕ → ℕ → Terms → ℕ → ℕ → Bool
short R b terms g r = ltb (share terms g (blocks R terms.edition b) r).0 (sendable R terms.edition b r)

abbrev pub lacking_room : List ℕ → ℕ → Terms → ℕ → Bool
lacking_room R b terms g = any_below (blocks R terms.edition b) (short R b terms g)
