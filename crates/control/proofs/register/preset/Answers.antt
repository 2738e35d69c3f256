use mathlib.Core.Path.{sym, ◌∙◌}
use native.Mathlib.Omega.{arith}
use borrow.Author.Rules.{rules}
use Rattle.control.proofs.Registers.{preset-first, preset_turn, preset_end}
use Rattle.control.proofs.register.preset.Goals as goal

pub loop-x-init : goal.loop-x-init
loop-x-init c = (search rules, preset-first c.args.word.now)

pub loop-x-preserved : goal.loop-x-preserved
loop-x-preserved c =
    let l = c.loop-x in
    (omega (arith, c.above-s.ensures), sym (preset_turn l.s l.x-index c.above-s.result _ (omega arith) c.above-s.ensures.0) ∙ l.invariant.1)

pub returns : goal.returns
returns c =
    let l = c.loop-x in
    (sym (preset_end l.s l.x-index _ (omega arith)) ∙ l.invariant.1, l.invariant.0)
