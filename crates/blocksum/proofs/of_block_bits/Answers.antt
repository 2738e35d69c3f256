use mathlib.Core.Path.{sym, ◌∙◌}
use Rattle.bits.proofs.Over.{over_none_bits}
use Rattle.blocksum.proofs.Answers.{block_bits_refused, block_bits_summed}
use Rattle.blocksum.proofs.of_block_bits.Goals as goal

pub returns-then-some_over : goal.returns-then-some_over
returns-then-some_over c = block_bits_refused c.args.bits.now (sym c.some_over.ensures ∙ c.if-some_over.true)

pub sum-requires : goal.sum-requires
sum-requires c = over_none_bits c.args.bits.now (sym c.some_over.ensures ∙ c.if-some_over.false)

pub returns : goal.returns
returns c =
    block_bits_summed c.args.bits.now (sym c.some_over.ensures ∙ c.if-some_over.false) c.sum.result c.sum.ensures
