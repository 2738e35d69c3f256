use mathlib.Core.Path.{◌≡◌, sym, ◌∙◌}
use mathlib.Core.Bool.{true}
use Rattle.std.proofs.lemmas.Result.{err_from_is_err_and}
use Rattle.bits.proofs.Answers.{refusal-numbered}
use Rattle.profile.specs.Promises.{judged}
use Rattle.shelf.specs.Shelf.{private_shelf}
use Rattle.keeping.specs.Promises.{put_number}
use Rattle.keeping.proofs.Sizes.{put_zero, put-unformed, put-judged, put-roomed, put_changes}
use Rattle.keeping.proofs.change.putting.Goals as goal

pub returns-then-tenant-eq0 : goal.returns-then-tenant-eq0
returns-then-tenant-eq0 c =
    let a = c.args in
    sym (put_zero a.private.now a.tenant a.profile a.octets.now a.lent c.if-tenant-eq0.true)

pub returns-then-not-well_formed : goal.returns-then-not-well_formed
returns-then-not-well_formed c =
    let a = c.args in
    sym (put-unformed a.private.now a.tenant a.profile a.octets.now a.lent c.if-tenant-eq0.false (sym c.well_formed-2.ensures ∙ c.if-not-well_formed.true))

pub returns-in_err-judge : goal.returns-in_err-judge
returns-in_err-judge c =
    let a = c.args in
    let formed : private_shelf a.private.now ≡ true = sym c.well_formed-2.ensures ∙ c.if-not-well_formed.false in
    let p = err_from_is_err_and c.from_residual.result c.from_residual.ensures.1 in
    let n = put-judged a.private.now a.tenant a.profile a.octets.now a.lent c.if-tenant-eq0.false formed (λ z. refusal-numbered _ (c.in_err-judge.ensures ∙ z)) in
    rw (p.1, p.2) (c.in_err-judge.ensures ∙ sym n)

pub returns : goal.returns
returns c =
    let formed : private_shelf c.args.private.now ≡ true = sym c.well_formed-2.ensures ∙ c.if-not-well_formed.false in
    let a = c.args in
    let S = a.private.now in
    let R = a.octets.now in
    let done : judged R ≡ 0 = sym c.in_ok-judge.ensures in
    let r = c.of-place.result in
    put_changes S a.tenant a.profile r.at r.gone formed c.of-place.ensures a.lent R (put_number S a.tenant a.profile R a.lent) c.with_room.result
    (put-roomed S a.tenant a.profile R a.lent c.if-tenant-eq0.false formed done r.at r.gone c.of-place.ensures) c.with_room.ensures
