use mathlib.Core.Path.{refl, sym}
use lib.ListN.{length}
use Rattle.std.proofs.lemmas.Result.{err_from_is_err_and}
use Rattle.bits.proofs.Answers.{refusal-numbered}
use Rattle.control.proofs.Answers.{send-taken, wrote_refused, wrote_done}
use Rattle.control.proofs.send_word.Goals as goal

pub returns-in_err-admit_send : goal.returns-in_err-admit_send
returns-in_err-admit_send c =
    let p = err_from_is_err_and c.from_residual.result c.from_residual.ensures.1 in
    rw (p.1, p.2) (wrote_refused _ _ _ _ _ c.in_err-admit_send.ensures (refusal-numbered _))

pub send_coded-requires : goal.send_coded-requires
send_coded-requires c =
    let a = c.args in
    let t = send-taken a.word.now a.e.0 (length a.out.now) (sym c.in_ok-admit_send.ensures) in
    (t.0.six, t.0.most, t.0.bits, t.1)

pub returns : goal.returns
returns c = wrote_done _ _ _ _ _ c.in_ok-admit_send.ensures refl _ refl _ c.send_coded.ensures
