use Prim.Native.Nat.{◌-◌}
use native.Mathlib.Omega.{arith}
use borrow.Author.Rules.{rules}
use Rattle.nearest.proofs.Loops.{row_last, row_low, row_turn, filled-first, filled_turn}
use Rattle.nearest.proofs.rows.fill.Goals as goal

pub loop-n-init : goal.loop-n-init
loop-n-init c =
    let a = c.args in
    let p = c.requires in
    (row_last a.d a.steps.now a.prices.now p.0 _ p.1 (search rules) (a.d - 0), filled-first a.d a.steps.now a.prices.now p.0 _ p.1 (search rules) _ (search rules))

pub step_back-before-requires : goal.step_back-before-requires
step_back-before-requires c =
    let a = c.args in
    let p = c.requires in
    let l = c.loop-n in
    (p.0.low _, p.0.table, row_low a.d a.steps.now a.prices.now p.0 _ p.1 _ _ _ l.invariant.0 (omega (arith, p.0.most)))

pub loop-n-preserved : goal.loop-n-preserved
loop-n-preserved c =
    let a = c.args in
    let p = c.requires in
    let l = c.loop-n in
    let row = row_turn a.d a.steps.now a.prices.now p.0 _ p.1 l.n _ _ _ (omega arith) (omega arith) l.invariant.0 c.step_back-before.ensures in
    (row, filled_turn a.d a.steps.now a.prices.now p.0 _ p.1 l.n _ _ (omega arith) row l.invariant.1)
