use native.Mathlib.Omega.{arith}
use Rattle.profile.proofs.Shape.{shape_is, table-long, table-test}
use Rattle.profile.proofs.form.table_right.Goals as goal

pub z-z-requires : goal.z-z-requires
z-z-requires c = (shape_is c.args.profile.now c.requires.0).pair c.args.i c.requires.1

pub overflow_cast-z : goal.overflow_cast-z
overflow_cast-z c =
    omega (arith, ((shape_is c.args.profile.now c.requires.0).size c.args.i c.requires.1).z_high)

pub returns : goal.returns
returns c =
    let a = c.args in
    let R = c.args.profile.now in
    let long = table-long R (shape_is R c.requires.0) a.i c.requires.1 in
    cc (table-test R a.i c.z-z.result c.table.result.now c.table.ensures.same c.z-z.ensures.0 long)
