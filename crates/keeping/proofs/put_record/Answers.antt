use mathlib.Core.Path.{refl, sym, ◌∙◌}
use native.Mathlib.Omega.{arith}
use lib.ListN.{length}
use Rattle.std.proofs.lemmas.Result.{err_from_is_err_and}
use Rattle.bits.proofs.Answers.{refusal-numbered}
use Rattle.keeping.specs.Entries.{shelf_put}
use Rattle.keeping.specs.Promises.{put_number}
use Rattle.keeping.proofs.Laying.{kept-refused, kept-done}
use Rattle.keeping.proofs.put_record.Goals as goal

pub returns-in_err-put : goal.returns-in_err-put
returns-in_err-put c =
    let a = c.args in
    let p = err_from_is_err_and c.from_residual.result c.from_residual.ensures.1 in
    rw (p.1, p.2)
    (kept-refused (put_number a.private.now a.tenant a.profile a.octets.now (length a.out.now)) (shelf_put a.private.now a.tenant a.profile a.octets.now)
    a.out.now _ c.in_err-put.ensures (λ z. refusal-numbered _ (c.in_err-put.ensures ∙ z)) refl)

pub returns : goal.returns
returns c =
    let a = c.args in
    let change = c.in_ok-put.ensures in
    kept-done (put_number a.private.now a.tenant a.profile a.octets.now (length a.out.now)) (shelf_put a.private.now a.tenant a.profile a.octets.now)
    a.out.now _ _ (sym change.0) change.0 change.1.size (omega (arith, change.1.size, change.1.room)) c.with_record.ensures
