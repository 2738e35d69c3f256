use mathlib.Core.Path.{◌∙◌}
use Rattle.parity.proofs.Columns.{sums-checks}
use Rattle.parity.proofs.sums.are_even.Goals as goal

pub returns : goal.returns
returns c = c.all_even.ensures ∙ sums-checks _ _ _ _ _ _ c.add_columns.ensures
