use mathlib.Core.Path.{◌≡◌}
use Prim.Native.Nat.{◌+◌}
use native.Mathlib.Omega.{arith}
use Rattle.profile.specs.Record.{columns}
use Rattle.profile.proofs.Shape.{columns_is, header_is}
use Rattle.profile.proofs.parts.columns.Goals as goal

pub kb-requires : goal.kb-requires
kb-requires c = omega (arith, (header_is c.args.profile.now c.requires).long)

pub returns : goal.returns
returns c =
    let R = c.args.profile.now in
    let h = header_is R c.requires in
    let e : c.kb.result + c.rows.result ≡ columns R = cc (columns_is R) in
    (e, omega (arith, h.columns_low), omega (arith, h.columns_high))
