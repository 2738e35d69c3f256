use mathlib.Core.Path.{◌∙◌}
use native.Mathlib.Omega.{arith}
use Rattle.control.specs.Register.{preset}
use Rattle.control.proofs.Loops.{threes_none}
use Rattle.control.proofs.Registers.{after_none, streams_turn, streams-all}
use Rattle.control.proofs.register.put_streams.Goals as goal

pub loop-k-init : goal.loop-k-init
loop-k-init c =
    let word = c.args.word.now in
    (c.preset-s.ensures.1, c.preset-s.ensures.0 ∙ after_none (preset word) word, threes_none _ _ c.args.out.now)

pub loop-k-preserved : goal.loop-k-preserved
loop-k-preserved c =
    let l = c.loop-k in
    let r = c.above-r in
    let t = streams_turn c.args.word.now l.k l.s r.result _ _ _ c.args.out.now l.out _ (omega arith) l.invariant.1 r.ensures.0 c.output-x.ensures c.output-y.ensures c.output-z.ensures l.invariant.2 c.put_three.ensures in
    (omega (arith, r.ensures), t.0, t.1)

pub returns : goal.returns
returns c =
    let l = c.loop-k in
    streams-all c.args.word.now l.k c.args.out.now l.out (omega arith) c.requires.2 l.invariant.2
