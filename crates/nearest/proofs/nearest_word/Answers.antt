use mathlib.Core.Path.{refl, sym, ◌∙◌}
use lib.ListN.{length}
use Rattle.std.proofs.lemmas.Result.{err_from_is_err_and}
use Rattle.bits.proofs.Answers.{refusal-numbered}
use Rattle.nearest.proofs.Answers.{taken, found-refused, found-done}
use Rattle.nearest.proofs.nearest_word.Goals as goal

pub returns-in_err-admit_nearest : goal.returns-in_err-admit_nearest
returns-in_err-admit_nearest c =
    let a = c.args in
    let p = err_from_is_err_and c.from_residual.result c.from_residual.ensures.1 in
    rw (p.1, p.2) (found-refused a.d a.heard.now a.out.now _ c.in_err-admit_nearest.ensures (refusal-numbered _))

pub put_nearest-requires : goal.put_nearest-requires
put_nearest-requires c =
    let a = c.args in
    let t = taken a.d a.heard.now (length a.out.now) (sym c.in_ok-admit_nearest.ensures) in
    (t.six, t.most, t.size, t.bits, t.fits)

pub returns : goal.returns
returns c =
    let a = c.args in
    found-done a.d a.heard.now a.out.now _ c.in_ok-admit_nearest.ensures _ _ refl (c.from-differences.ensures ∙ c.put_nearest.ensures.0) c.put_nearest.ensures.1
