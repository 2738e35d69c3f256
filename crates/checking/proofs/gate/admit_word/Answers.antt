-- its tests, in their order.
use mathlib.Core.Path.{refl}
use Rattle.std.proofs.lemmas.Result.{err_from_is_err_and}
use Rattle.bits.proofs.Answers.{refusal-numbered}
use Rattle.checking.proofs.Answers.{word_first, word-12, word-0}
use Rattle.checking.proofs.gate.admit_word.Goals as goal

pub returns-in_err-index-clause-number : goal.returns-in_err-index-clause-number
returns-in_err-index-clause-number c =
    let p = err_from_is_err_and c.from_residual.result c.from_residual.ensures.1 in
    rw (p.1, p.2) (word_first _ _ _ _ c.in_err-index.ensures.number (refusal-numbered _))

pub returns-then-some_over-clause-number : goal.returns-then-some_over-clause-number
returns-then-some_over-clause-number c = word-12 _ _ _ _ c.in_ok-index.ensures.number refl _ c.some_over.ensures c.if-some_over.true

pub returns-clause-number : goal.returns-clause-number
returns-clause-number c = word-0 _ _ _ _ c.in_ok-index.ensures.number refl _ c.some_over.ensures c.if-some_over.false
