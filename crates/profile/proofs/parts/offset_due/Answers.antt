use native.Mathlib.Omega.{arith}
use Rattle.profile.specs.Record.{offset_due}
use Rattle.profile.proofs.Shape.{header_is}
use Rattle.profile.proofs.parts.offset_due.Goals as goal

pub t-requires : goal.t-requires
t-requires c = omega (arith, (header_is c.args.profile.now c.requires.0).long)

pub returns : goal.returns
unfolding offset_due
returns c = cc
