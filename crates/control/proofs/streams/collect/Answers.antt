use mathlib.Core.Path.{◌∙◌}
use native.Mathlib.Omega.{arith}
use Rattle.control.specs.Interleaver.{columns}
use Rattle.control.proofs.Ordering.{column_lt}
use Rattle.control.proofs.Loops.{before-none, before-all, column-first, column-turn, column-end, column_bound, threes_none, collected_on, collected-all}
use Rattle.control.proofs.streams.collect.Goals.{else-loop-p-test, then-loop-p-test+else-d-p-gt32}
use Rattle.control.proofs.streams.collect.Goals as goal

pub loop-c-init : goal.loop-c-init
loop-c-init c = (before-none c.args.d, threes_none _ _ c.args.out.now)

pub first_place-p-requires : goal.first_place-p-requires
unfolding columns
first_place-p-requires c = (c.requires.1, column_lt c.loop-c.c-index (omega arith))

pub loop-p-init : goal.loop-p-init
unfolding columns
loop-p-init c =
    let l = c.loop-c in
    let k = column-first c.args.d l.c-index l.n _ c.requires.0 c.requires.1 (omega arith) l.invariant.0 c.first_place-p.ensures in
    (k, column_bound k, l.invariant.1)

pub loop-p-preserved : goal.loop-p-preserved
loop-p-preserved c =
    let k = c.loop-p.invariant.0 in
    let l = c.loop-p-test.true in
    let t = column-turn k l in
    (t, column_bound t, collected_on c.args.d c.requires.0 c.requires.1 c.args.streams.now c.args.out.now _ _ k l c.loop-p.invariant.2 c.put_three.ensures)

pub loop-c-preserved : goal.loop-c-preserved
loop-c-preserved c =
    let k = c.loop-p.invariant.0 in
    elim c.loop-p-test.branch [
      | else-loop-p-test w ↦ (w.n-is ∙ column-end k w.loop-p-test.false, rw (w.n-is, w.out-is) c.loop-p.invariant.2)
      | then-loop-p-test+else-d-p-gt32 w ↦
          let l = w.loop-p-test.true in
          (w.n-is ∙ column-end (column-turn k l) (omega arith), rw (w.n-is, w.out-is) (collected_on c.args.d c.requires.0 c.requires.1 c.args.streams.now c.args.out.now _ _ k l c.loop-p.invariant.2 w.put_three.ensures))
    ]

pub returns : goal.returns
returns c =
    let l = c.loop-c in
    let all = l.invariant.0 ∙ before-all c.args.d c.requires.1 l.c-index (omega arith) in
    collected-all c.args.d c.requires.0 c.requires.1 c.args.streams.now c.args.out.now l.out l.n all c.requires.3 l.invariant.1
