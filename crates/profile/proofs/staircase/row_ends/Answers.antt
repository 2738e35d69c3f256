use native.Mathlib.Omega.{arith}
use Rattle.profile.proofs.Extension.{ends_at}
use Rattle.profile.proofs.staircase.row_ends.Goals as goal

pub returns : goal.returns
returns c = ends_at _ _ _ _ _ _ c.rest_empty.ensures (omega arith) (omega arith)
