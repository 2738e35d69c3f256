use mathlib.Core.Path.{◌≡◌}
use mathlib.Core.Bool.{true}
use native.Mathlib.Omega.{arith}
use borrow.Author.Rules.{rules}
use Rattle.bits.specs.Counts.{usable}
use Rattle.bits.proofs.Terms.{usable-is}
use Rattle.coding.proofs.inner.is_misallocated.Goals as goal

pub place_bits-requires : goal.place_bits-requires
place_bits-requires c = let usable : usable c.args.terms ≡ true = search rules in usable-is _ usable

pub nonzero_rem-result : goal.nonzero_rem-result
nonzero_rem-result c = let usable : usable c.args.terms ≡ true = search rules in omega (arith, (usable-is _ usable).some, c.place_bits.ensures)
