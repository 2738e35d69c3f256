use mathlib.Core.Path.{refl, sym}
use native.Mathlib.Omega.{arith}
use lib.ListN.{length}
use Rattle.std.proofs.lemmas.Result.{err_from_is_err_and}
use Rattle.bits.proofs.Answers.{refusal-numbered}
use Rattle.control.proofs.Answers.{code_taken, wrote_refused, wrote_done}
use Rattle.control.proofs.code_word.Goals as goal

pub returns-in_err-admit_code : goal.returns-in_err-admit_code
returns-in_err-admit_code c =
    let p = err_from_is_err_and c.from_residual.result c.from_residual.ensures.1 in
    rw (p.1, p.2) (wrote_refused _ _ _ _ _ c.in_err-admit_code.ensures (refusal-numbered _))

pub put_streams-requires : goal.put_streams-requires
put_streams-requires c =
    let a = c.args in
    let t = code_taken a.word.now (length a.out.now) (sym c.in_ok-admit_code.ensures) in
    (t.0.six, t.0.bits, t.1)

pub overflow_mul-result : goal.overflow_mul-result
overflow_mul-result c =
    let a = c.args in
    let t = code_taken a.word.now (length a.out.now) (sym c.in_ok-admit_code.ensures) in
    omega (arith, t.0.most)

pub returns : goal.returns
returns c = wrote_done _ _ _ _ _ c.in_ok-admit_code.ensures refl _ (omega arith) _ c.put_streams.ensures
