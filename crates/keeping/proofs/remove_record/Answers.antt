use mathlib.Core.Path.{refl, sym, ◌∙◌}
use native.Mathlib.Omega.{arith}
use lib.ListN.{length}
use Rattle.std.proofs.lemmas.Result.{err_from_is_err_and}
use Rattle.bits.proofs.Answers.{refusal-numbered}
use Rattle.keeping.specs.Entries.{shelf_left}
use Rattle.keeping.specs.Promises.{remove_number}
use Rattle.keeping.proofs.Sizes.{one_gone}
use Rattle.keeping.proofs.Laying.{kept-refused, kept-done}
use Rattle.keeping.proofs.remove_record.Goals as goal

pub returns-in_err-left : goal.returns-in_err-left
returns-in_err-left c =
    let a = c.args in
    let p = err_from_is_err_and c.from_residual.result c.from_residual.ensures.1 in
    rw (p.1, p.2)
    (kept-refused (remove_number a.private.now a.tenant a.profile (length a.out.now)) (shelf_left a.private.now a.tenant a.profile)
    a.out.now _ c.in_err-left.ensures (λ z. refusal-numbered _ (c.in_err-left.ensures ∙ z)) refl)

pub without_record-requires : goal.without_record-requires
without_record-requires c =
    let a = c.args in
    let spot = c.in_ok-left.left.spot in
    let change = c.in_ok-left.ensures in
    (one_gone a.private.now a.tenant a.profile (length a.out.now) spot.at spot.gone change.1.formed change.1.spot change.0, change.1)

pub returns : goal.returns
returns c =
    let a = c.args in
    let change = c.in_ok-left.ensures in
    kept-done (remove_number a.private.now a.tenant a.profile (length a.out.now)) (shelf_left a.private.now a.tenant a.profile)
    a.out.now _ _ (sym change.0) change.0 change.1.size (omega (arith, change.1.size, change.1.room)) c.without_record.ensures
