use Rattle.nearest.proofs.Charges.{low-goal}
use Rattle.nearest.proofs.Loops.{row-goal}
use Rattle.nearest.proofs.goals.first_goal.Goals as goal

pub fill-row-requires : goal.fill-row-requires
fill-row-requires c =
    let a = c.args in
    let p = c.requires in
    (p.0, low-goal a.goal _ p.1 c.end_at.ensures)

pub returns : goal.returns
returns c =
    let a = c.args in
    let p = c.requires in
    (row-goal a.steps.now a.d a.goal _ c.end_at.ensures _ p.1 c.fill-row.ensures.0, c.walk.ensures)
