use mathlib.Core.Path.{refl}
use borrow.Author.Rules.{rules}
use Rattle.parity.proofs.Columns.{sums-row}
use Rattle.parity.proofs.sums.add_column.Goals as goal

pub loop-i-preserved : goal.loop-i-preserved
loop-i-preserved c =
    let l = c.loop-i in
    sums-row _ _ _ _ _ c.requires.0.shape c.double.ensures (search rules) refl refl refl l.invariant c.add_entry.ensures
