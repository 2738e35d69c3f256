use mathlib.Core.Path.{sym, ◌∙◌}
use Prim.Native.Nat.{◌-◌}
use native.Mathlib.Omega.{arith}
use Rattle.nearest.specs.Steps.Trellis.{end_at}
use Rattle.nearest.proofs.Charges.{end_low}
use Rattle.nearest.proofs.Loops.{filled-low, walk_start, walk_turn, walk_end}
use Rattle.nearest.proofs.goals.walk.Goals as goal

pub loop-k-init : goal.loop-k-init
loop-k-init c =
    let a = c.args in
    let p = c.requires in
    (p.1, walk_start a.steps.now a.d a.goal a.word.now p.3)

pub chosen-b-requires : goal.chosen-b-requires
chosen-b-requires c =
    let a = c.args in
    let p = c.requires in
    let l = c.loop-k in
    (p.0.low l.k, l.invariant.0, p.0.table, filled-low a.d a.steps.now a.prices.now p.0 (end_at a.goal) (end_low a.goal p.1) a.costs.now p.2 (a.d - 1 - l.k) (omega arith))

pub loop-k-preserved : goal.loop-k-preserved
loop-k-preserved c =
    let a = c.args in
    let p = c.requires in
    let l = c.loop-k in
    let turn = walk_turn a.d a.steps.now a.prices.now p.0 (end_at a.goal) (end_low a.goal p.1) a.costs.now p.2 l.k l.s c.chosen-b.result l.word (omega arith) l.invariant.0 c.chosen-b.ensures.0 in
    (omega (arith, c.chosen-b.ensures.1), sym turn ∙ l.invariant.1)

pub returns : goal.returns
returns c =
    let a = c.args in
    let p = c.requires in
    let l = c.loop-k in
    sym (walk_end a.d a.steps.now a.prices.now p.0 (end_at a.goal) (end_low a.goal p.1) a.costs.now p.2 l.k l.s l.word (omega arith)) ∙ l.invariant.1
