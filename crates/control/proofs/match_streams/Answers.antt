use mathlib.Core.Path.{refl, sym}
use lib.ListN.{length}
use Rattle.std.proofs.lemmas.Result.{err_from_is_err_and}
use Rattle.bits.proofs.Answers.{refusal-numbered}
use Rattle.control.proofs.Answers.{match_taken, wrote_refused, wrote_done}
use Rattle.control.proofs.match_streams.Goals as goal

pub returns-in_err-admit_match : goal.returns-in_err-admit_match
returns-in_err-admit_match c =
    let p = err_from_is_err_and c.from_residual.result c.from_residual.ensures.1 in
    rw (p.1, p.2) (wrote_refused _ _ _ _ _ c.in_err-admit_match.ensures (refusal-numbered _))

pub send-requires : goal.send-requires
send-requires c =
    let a = c.args in
    let t = match_taken a.d a.streams.now a.e.0 (length a.out.now) (sym c.in_ok-admit_match.ensures) in
    (t.six, t.most, t.size, t.bits, t.fits)

pub returns : goal.returns
returns c = wrote_done _ _ _ _ _ c.in_ok-admit_match.ensures refl _ refl _ c.send.ensures
