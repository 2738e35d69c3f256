use mathlib.Core.Path.{refl, sym}
use Rattle.std.proofs.lemmas.Result.{err_from_is_err_and}
use Rattle.bits.proofs.Answers.{refusal-numbered}
use Rattle.matching.proofs.Answers.{match_passed, match-refused, match-done}
use Rattle.matching.proofs.Start.{versioned, matched-from}
use Rattle.matching.proofs.rate_match.Goals as goal

pub returns-in_err-admit_match : goal.returns-in_err-admit_match
returns-in_err-admit_match c =
    let a = c.args in
    let p = err_from_is_err_and c.from_residual.result c.from_residual.ensures.1 in
    rw (p.1, p.2) (match-refused a.coded.now a.kind a.rv a.e.0 a.out.now _ c.in_err-admit_match.ensures (refusal-numbered _))

pub start_of-start-requires : goal.start_of-start-requires
start_of-start-requires c =
    let a = c.args in
    versioned a.kind a.rv (match_passed a.coded.now a.kind a.rv a.e.0 a.out.now (sym c.in_ok-admit_match.ensures)).0

pub fill-requires : goal.fill-requires
fill-requires c =
    let a = c.args in
    let ok = match_passed a.coded.now a.kind a.rv a.e.0 a.out.now (sym c.in_ok-admit_match.ensures) in
    (c.start_of-start.ensures.1, ok.2, ok.1)

pub returns : goal.returns
returns c =
    let a = c.args in
    let from = matched-from a.kind a.rv _ a.e.0 a.coded.now _ _ c.start_of-start.ensures.0 c.fill.ensures in
    match-done a.coded.now a.kind a.rv a.e.0 a.out.now _ c.in_ok-admit_match.ensures refl _ from
