use mathlib.Core.Path.{ap}
use Prim.Native.Nat.{ℕ, ◌*◌}
use native.Mathlib.Omega.{arith}
use Rattle.cutting.proofs.PlanFields.{some-fields, word-most}
use Rattle.block.proofs.inner.size.Goals as goal

pub columns-requires : goal.columns-requires
columns-requires c =
    let a = c.args in
    let R = a.profile.now in
    let k = some-fields R a.plan c.requires in
    k.accepted

pub overflow_mul-result : goal.overflow_mul-result
overflow_mul-result c =
    let a = c.args in
    let R = a.profile.now in
    let k = some-fields R a.plan c.requires in
    rw c.columns.ensures.0 (omega (arith, word-most R a.plan k))

pub returns : goal.returns
returns c =
    let a = c.args in
    let R = a.profile.now in
    let k = some-fields R a.plan c.requires in
    let is = ap (λ (x : ℕ). x * a.plan.z) c.columns.ensures.0 in
    (is, rw is (word-most R a.plan k))
