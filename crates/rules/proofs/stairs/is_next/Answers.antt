use mathlib.Core.Path.{◌≡◌}
use Prim.Native.Nat.{suc, ◌+◌, ◌*◌}
use native.Mathlib.Omega.{arith}
use Rattle.profile.specs.Record.{entry}
use Rattle.profile.specs.Steps.Walk.{next_right}
use Rattle.rules.proofs.stairs.is_next.Goals as goal

pub returns : goal.returns
unfolding next_right entry
returns c =
    let a = c.args in
    let place : a.row * a.columns + (a.kb + suc a.i) ≡ a.row * a.columns + a.kb + 1 + a.i = omega arith in
    rw place (cc)
