use native.Mathlib.Omega.{arith}
use Rattle.profile.proofs.Shape.{header_is}
use Rattle.profile.proofs.form.ends_right.Goals as goal

pub t-requires : goal.t-requires
t-requires c = omega (arith, (header_is c.args.profile.now c.requires).long)

pub offset_due-requires : goal.offset_due-requires
offset_due-requires c = (c.requires, omega (arith, (header_is c.args.profile.now c.requires).t_high))
