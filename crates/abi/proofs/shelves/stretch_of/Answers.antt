use Rattle.abi.proofs.Stretches.{crosses, none_crosses}
use Rattle.abi.proofs.shelves.stretch_of.Goals as goal

pub returns-in-Ok : goal.returns-in-Ok
returns-in-Ok c = rw c.shelf_number.ensures (crosses _ c.in-Ok.ensures)

pub returns-in-Err : goal.returns-in-Err
returns-in-Err c = rw c.refused_with.ensures (none_crosses _ c.in-Err.ensures)
