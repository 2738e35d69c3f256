use mathlib.Core.Path.{refl, sym}
use native.Mathlib.Omega.{arith}
use Rattle.std.proofs.lemmas.Result.{err_from_is_err_and}
use Rattle.bits.proofs.Answers.{refusal-numbered}
use Rattle.checksum.proofs.Answers.{bits-done}
use Rattle.masked.proofs.Answers.{sum-refused, sum_done}
use Rattle.masked.proofs.sum_under.Goals as goal

pub returns-in_err-sum : goal.returns-in_err-sum
returns-in_err-sum c =
    let a = c.args in
    let p = err_from_is_err_and c.from_residual.result c.from_residual.ensures.1 in
    rw (p.1, p.2) (sum-refused a.width a.mask a.bits.now _ c.in_err-sum.ensures (refusal-numbered _))

pub overflow_cast-width : goal.overflow_cast-width
overflow_cast-width c = omega (arith, (bits-done c.args.width c.args.bits.now (sym c.in_ok-sum.ensures.number)).0.most)

pub under-requires : goal.under-requires
under-requires c = omega (arith, (bits-done c.args.width c.args.bits.now (sym c.in_ok-sum.ensures.number)).0.most)

pub returns : goal.returns
returns c =
    let a = c.args in
    sum_done a.width a.mask a.bits.now _ c.in_ok-sum.ensures refl c.under.result c.under.ensures
