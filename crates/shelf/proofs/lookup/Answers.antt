use mathlib.Core.Path.{sym, ◌∙◌}
use Rattle.std.proofs.lemmas.Result.{err_from_is_err_and}
use Rattle.bits.proofs.Answers.{refusal-numbered}
use Rattle.shelf.proofs.Finding.{none-found}
use Rattle.shelf.proofs.lookup.Goals as goal

pub returns-in_err-found : goal.returns-in_err-found
returns-in_err-found c =
    let p = err_from_is_err_and c.from_residual.result c.from_residual.ensures.1 in
    let a = c.args in
    let n = c.in_err-found.ensures in
    let none = none-found a.private.now a.public.now a.tenant a.profile (λ z. refusal-numbered _ (n ∙ z)) in
    rw (p.1, p.2) (record { number = n; stretch = record { octets = none.0; place = none.1 a.private.ref_ptr a.public.ref_ptr } })

pub stretch-requires : goal.stretch-requires
stretch-requires c = c.in_ok-found.ensures.inside

pub returns : goal.returns
returns c =
    let l = c.in_ok-found.ensures in
    let a = c.args in
    let s = c.stretch.ensures in
    record { number = sym l.done; stretch = record { octets = s.0 ∙ l.octets; place = s.1 ∙ l.place a.private.ref_ptr a.public.ref_ptr } }
