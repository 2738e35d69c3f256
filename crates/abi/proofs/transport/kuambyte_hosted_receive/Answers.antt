use mathlib.Core.Path.{refl, sym, ◌∙◌}
use native.Mathlib.Omega.{arith}
use Rattle.abi.proofs.Held.{small-numbers, held-large, held_small}
use Rattle.abi.proofs.transport.kuambyte_hosted_receive.Goals as goal

pub returns-then-too_large : goal.returns-then-too_large
returns-then-too_large c = rw c.from.ensures (held-large (sym c.too_large.ensures ∙ c.if-too_large.true) (record { answer = refl; output = refl }))

pub overflow_cast-tenant : goal.overflow_cast-tenant
overflow_cast-tenant c =
    let s = small-numbers _ _ (sym c.too_large.ensures ∙ c.if-too_large.false) in
    omega arith

pub overflow_cast-profile : goal.overflow_cast-profile
overflow_cast-profile c =
    let s = small-numbers _ _ (sym c.too_large.ensures ∙ c.if-too_large.false) in
    omega arith

pub returns : goal.returns
returns c = rw c.from-2.ensures (held_small (sym c.too_large.ensures ∙ c.if-too_large.false) c.hosted_receive.ensures)
