use mathlib.Core.Path.{refl, ◌∙◌}
use Prim.Native.Nat.{◌%◌}
use native.Mathlib.Omega.{arith}
use Rattle.nearest.specs.Steps.Trellis.{cost}
use Rattle.nearest.proofs.Charges.{low_open}
use Rattle.nearest.proofs.Best.{Given, one_less}
use Rattle.nearest.proofs.Loops.{ready, goal_bound, open_row, open_low, open_goal}
use Rattle.nearest.proofs.Kept.{goal-rest, best_front, best_low, next-left, best_all}
use borrow.Author.Rules.{rules}
use Rattle.nearest.proofs.goals.put_nearest.Goals as goal

pub fill-open_costs-requires : goal.fill-open_costs-requires
fill-open_costs-requires c =
    let a = c.args in
    let p = c.requires in
    (ready a.d a.heard.now _ _ p.1 p.3 c.steps-steps.ensures c.prices-prices.ensures, low_open _ 500 c.end_open.ensures)

pub ranked-left-requires : goal.ranked-left-requires
ranked-left-requires c =
    let a = c.args in
    let p = c.requires in
    open_low a.d _ _ (ready a.d a.heard.now _ _ p.1 p.3 c.steps-steps.ensures c.prices-prices.ensures) _ (open_row _ a.d _ _ c.end_open.ensures c.fill-open_costs.ensures.0)

pub first_goal-best-requires : goal.first_goal-best-requires
first_goal-best-requires c =
    let a = c.args in
    let p = c.requires in
    (ready a.d a.heard.now _ _ p.1 p.3 c.steps-steps.ensures c.prices-prices.ensures, omega (arith, c.from-first.ensures), p.4)

pub loop-key-init : goal.loop-key-init
loop-key-init c =
    let a = c.args in
    let p = c.requires in
    let g = c.first_goal-best in
    let row = open_row _ a.d _ _ c.end_open.ensures c.fill-open_costs.ensures.0 in
    let low = open_low a.d _ _ (ready a.d a.heard.now _ _ p.1 p.3 c.steps-steps.ensures c.prices-prices.ensures) _ row in
    let best = best_front (cost _) a.d c.fill-open_costs.result _ _ g.result a.out.now _ (omega arith) low (λ s m. open_goal _ a.d s _ m row) c.ranked-left.ensures g.ensures.0 g.ensures.1 in
    (refl, refl, best, c.least_of-key.ensures)

pub next_goal-best-requires : goal.next_goal-best-requires
next_goal-best-requires c =
    let a = c.args in
    let p = c.requires in
    let l = c.loop-key in
    let g = c.first_goal-best in
    (ready a.d a.heard.now _ _ p.1 p.3 c.steps-steps.ensures c.prices-prices.ensures, omega arith, omega (arith, p.4, l.invariant.0, g.auto.out), l.invariant.2)

pub loop-key-smaller : goal.loop-key-smaller
loop-key-smaller c =
    let a = c.args in
    let p = c.requires in
    let l = c.loop-key in
    let low = best_low (cost _) a.d l.left l.best _ (goal_bound a.d _ _ (ready a.d a.heard.now _ _ p.1 p.3 c.steps-steps.ensures c.prices-prices.ensures)) l.invariant.2 in
    let still = next-left (cost _) a.d l.left l.best _ l.key l.invariant.2 low l.invariant.3 (search rules) in
    rw (c.next_goal-best.ensures.2, c.from-goal.ensures) (one_less l.left (l.key % 64) l.invariant.2.len (omega arith) still)

pub returns : goal.returns
returns c =
    let a = c.args in
    let p = c.requires in
    let l = c.loop-key in
    let g = c.first_goal-best in
    let rest = goal-rest (cost _) a.d _ a.out.now _ g.ensures.1 in
    let given : Given a.d a.heard.now _ = record { six = p.0; most = p.1; size = p.2; single = p.3; steps = c.steps-steps.ensures } in
    best_all a.d a.heard.now _ l.left l.best l.key l.out a.out.now given l.invariant.2 l.invariant.3 (search rules) (l.invariant.1 ∙ rest)
