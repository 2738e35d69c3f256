-- What `plan` shows of a code block.
use Rattle.std.specs.Prelude.{◌≡◌, List, ℕ}
use Rattle.cutting.specs.Plan.{block_bits, sum_bits, blocks, own_bits, filler}
use Rattle.coding.specs.Blocks.{sendable}
use Rattle.desk.specs.declared.plan.Part.{Part}

-- block r of a transport block of so many octets in this edition: its own bits, those of its checksum, its filler, and N
pub record PartOf (R : List ℕ) (ed octets r : ℕ) (p : Part) : Type 0 where
  pub own : p.own ≡ own_bits (block_bits octets) (blocks R ed (block_bits octets)) r
  pub sums : p.sums ≡ sum_bits R ed (block_bits octets)
  pub filler : p.filler ≡ filler R ed (block_bits octets) r
  pub sendable : p.sendable ≡ sendable R ed (block_bits octets) r
