use mathlib.Core.Path.{refl}
use native.Mathlib.Omega.{arith}
use lib.ListN.{take}
use Rattle.nearest.specs.Steps.Trellis.{cost}
use Rattle.nearest.proofs.Charges.{low-goal}
use Rattle.nearest.proofs.Loops.{row-goal}
use Rattle.nearest.proofs.Best.{best-skip}
use Rattle.nearest.proofs.Kept.{goal-front, goal-bits, best_kept}
use Rattle.nearest.proofs.goals.next_goal.Goals as goal

pub fill-row-requires : goal.fill-row-requires
fill-row-requires c =
    let a = c.args in
    let p = c.requires in
    (p.0, low-goal a.goal _ p.1 c.end_at.ensures)

pub returns-then-best-v : goal.returns-then-best-v
returns-then-best-v c =
    let a = c.args in
    let p = c.requires in
    let v = row-goal a.steps.now a.d a.goal _ c.end_at.ensures _ p.1 c.fill-row.ensures.0 in
    (best-skip (cost a.steps.now) a.d a.left.now a.best (take a.d a.out.now) p.3 a.goal p.1 (omega (arith, v, c.if-best-v.true)), refl, refl)

pub keep-requires : goal.keep-requires
keep-requires c =
    let a = c.args in
    let p = c.requires in
    let front = goal-front (cost a.steps.now) a.d a.goal _ _ c.walk.ensures in
    (p.2, omega (arith, p.0.most), goal-bits (cost a.steps.now) a.d _ _ p.3.word_is, goal-bits (cost a.steps.now) a.d _ _ front)

pub returns : goal.returns
returns c =
    let a = c.args in
    let p = c.requires in
    let v = row-goal a.steps.now a.d a.goal _ c.end_at.ensures _ p.1 c.fill-row.ensures.0 in
    let front = goal-front (cost a.steps.now) a.d a.goal _ _ c.walk.ensures in
    let both = best_kept (cost a.steps.now) a.d a.left.now a.goal a.best a.out.now _ _ _ _ p.3 p.1 v front c.keep.ensures in
    (both.0, both.1, refl)
