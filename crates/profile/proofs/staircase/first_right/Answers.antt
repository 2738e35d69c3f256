use mathlib.Core.Path.{sym, ap₂, ◌∙◌}
use Prim.Native.Nat.{suc, ◌<◌}
use native.Mathlib.Omega.{arith}
use lib.Dec.{eqb}
use Rattle.profile.specs.Steps.Walk.{column}
use Rattle.profile.proofs.Walk.{first-empty, first-none, first-middle, first_more, first-last}
use Rattle.profile.proofs.staircase.first_right.Goals as goal

pub returns-then-outer : goal.returns-then-outer
returns-then-outer c = first-empty _ (column c.args.table.now c.args.columns c.args.kb) (sym c.first_entry-outer.ensures ∙ c.if-outer.true)

pub returns-then-middle-m : goal.returns-then-middle-m
returns-then-middle-m c =
    let call = c.next_filled-middle in
    first-none _ (column c.args.table.now c.args.columns c.args.kb) call.result call.ensures (omega arith)

pub returns-then-first_entry-ne-MIDDLE : goal.returns-then-first_entry-ne-MIDDLE
returns-then-first_entry-ne-MIDDLE c =
    let inner : suc c.next_filled-middle.result < c.args.m = omega (arith, c.next_filled-middle.ensures.below, c.if-middle-m.false) in
    let call = c.next_filled-middle in
    first-middle _ (column c.args.table.now c.args.columns c.args.kb) call.result call.ensures inner
    (λ e. c.if-first_entry-ne-MIDDLE.true (c.first_entry.ensures ∙ e))

pub returns-then-last-m : goal.returns-then-last-m
returns-then-last-m c =
    let inner : suc c.next_filled-middle.result < c.args.m = omega (arith, c.next_filled-middle.ensures.below, c.if-middle-m.false) in
    let call = c.next_filled-middle in
    let last = c.next_filled-last in
    first_more _ (column c.args.table.now c.args.columns c.args.kb) call.result last.result call.ensures inner last.ensures (omega arith)

pub returns : goal.returns
returns c =
    let inner : suc c.next_filled-middle.result < c.args.m = omega (arith, c.next_filled-middle.ensures.below, c.if-middle-m.false) in
    let call = c.next_filled-middle in
    let top = c.first_entry-outer in
    let last = c.next_filled-last in
    ap₂ eqb c.first_entry-2.ensures top.ensures
    ∙ first-last _ (column c.args.table.now c.args.columns c.args.kb) call.result last.result (λ e. c.if-outer.false (top.ensures ∙ e))
    call.ensures inner (sym c.first_entry.ensures ∙ c.if-first_entry-ne-MIDDLE.false) last.ensures
    (omega (arith, last.ensures.below, c.if-last-m.false))
