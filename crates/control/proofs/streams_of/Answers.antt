use mathlib.Core.Path.{refl, sym}
use native.Mathlib.Omega.{arith}
use lib.ListN.{length}
use Rattle.std.proofs.lemmas.Result.{err_from_is_err_and}
use Rattle.bits.proofs.Answers.{refusal-numbered}
use Rattle.control.proofs.Answers.{back_taken, wrote_refused, wrote_done}
use Rattle.control.proofs.streams_of.Goals as goal

pub returns-in_err-admit_back : goal.returns-in_err-admit_back
returns-in_err-admit_back c =
    let p = err_from_is_err_and c.from_residual.result c.from_residual.ensures.1 in
    rw (p.1, p.2) (wrote_refused _ _ _ _ _ c.in_err-admit_back.ensures (refusal-numbered _))

pub put_back-requires : goal.put_back-requires
put_back-requires c =
    let a = c.args in
    let t = back_taken a.d a.bits.now (length a.out.now) (sym c.in_ok-admit_back.ensures) in
    (t.six, t.most, t.single, t.long, t.fits, t.found)

pub overflow_mul-result : goal.overflow_mul-result
overflow_mul-result c =
    let a = c.args in
    let t = back_taken a.d a.bits.now (length a.out.now) (sym c.in_ok-admit_back.ensures) in
    omega (arith, t.most)

pub returns : goal.returns
returns c = wrote_done _ _ _ _ _ c.in_ok-admit_back.ensures refl _ (omega arith) _ c.put_back.ensures
