use mathlib.Core.Path.{◌≡◌}
use Prim.Native.Nat.{◌+◌}
use native.Mathlib.Omega.{arith}
use Rattle.profile.specs.Record.{rows}
use Rattle.profile.proofs.Shape.{rows_is, header_is}
use Rattle.profile.proofs.parts.rows.Goals as goal

pub m-requires : goal.m-requires
m-requires c = omega (arith, (header_is c.args.profile.now c.requires).long)

pub x-requires : goal.x-requires
x-requires c = omega (arith, (header_is c.args.profile.now c.requires).long)

pub returns : goal.returns
returns c =
    let R = c.args.profile.now in
    let h = header_is R c.requires in
    let e : c.m.result + c.x.result ≡ rows R = cc (rows_is R) in
    (e, omega (arith, h.rows_low), omega (arith, h.rows_high))
