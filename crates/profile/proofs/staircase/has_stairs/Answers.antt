use native.Mathlib.Omega.{arith}
use Rattle.profile.proofs.Shape.{shape_is}
use Rattle.profile.proofs.staircase.has_stairs.Goals as goal

pub kb-kb-requires : goal.kb-kb-requires
kb-kb-requires c = omega (arith, (shape_is c.args.profile.now c.requires.0).header.long)

pub m-m-requires : goal.m-m-requires
m-m-requires c = omega (arith, (shape_is c.args.profile.now c.requires.0).header.long)

pub x-x-requires : goal.x-x-requires
x-x-requires c = omega (arith, (shape_is c.args.profile.now c.requires.0).header.long)

pub columns-requires : goal.columns-requires
columns-requires c = (shape_is c.args.profile.now c.requires.0).right
