use mathlib.Core.Path.{◌≡◌, ◌∙◌, refl}
use native.Mathlib.Omega.{arith}
use Prim.Native.Nat.{◌+◌, ◌-◌}
use lib.ListN.{length, take, drop}
use Rattle.profile.proofs.Shape.{all_none, all_more}
use Rattle.profile.proofs.Walk.{empty_stretch}
use Rattle.profile.proofs.staircase.rest_empty.Goals as goal

pub loop-e-init : goal.loop-e-init
loop-e-init c = all_none _

pub loop-e-preserved : goal.loop-e-preserved
loop-e-preserved c = all_more _ c.loop-e.e-index c.loop-e.invariant refl

pub returns : goal.returns
returns c =
    let a = c.args in
    let size : a.from + a.n - a.from ≡ a.n = omega arith in
    let all : c.loop-e.e-index ≡ length (take (a.from + a.n - a.from) (drop a.from a.table.now)) = omega arith in
    rw all at c.loop-e.invariant ∙ empty_stretch a.table.now a.from a.n _ size c.requires
