use mathlib.Core.Path.{ap}
use native.Mathlib.Omega.{arith}
use lib.Dec.{leb}
use borrow.Author.Tests.{eq-eqb, ne_eqb}
use Rattle.shelf.specs.Shelf.{count, tenant_right}
use Rattle.shelf.specs.Steps.Walking.{tenants_right}
use Rattle.shelf.proofs.WellFormed.{sizes_are}
use Rattle.shelf.proofs.inner.form.tenants_right.Goals as goal

pub count-count-requires : goal.count-count-requires
count-count-requires c = omega (arith, (sizes_are c.args.shelf.now c.requires).room)

pub returns-then-count-eq0 : goal.returns-then-count-eq0
unfolding tenants_right
returns-then-count-eq0 c =
    let S = c.args.shelf.now in
    rw (eq-eqb (count S) 0 (omega arith))

pub tenant-requires : goal.tenant-requires
tenant-requires c =
    omega (arith, (sizes_are c.args.shelf.now c.requires).room)

pub returns-then-private : goal.returns-then-private
unfolding tenants_right tenant_right
returns-then-private c =
    let S = c.args.shelf.now in
    rw (ne_eqb (count S) 0 (λ e. c.if-count-eq0.false (omega arith)), c.if-private.true) (ap (leb 1) c.tenant.ensures.0)

pub tenant-requires-2 : goal.tenant-requires-2
tenant-requires-2 c =
    omega (arith, (sizes_are c.args.shelf.now c.requires).room)

pub returns : goal.returns
unfolding tenants_right tenant_right
returns c =
    let S = c.args.shelf.now in
    rw (ne_eqb (count S) 0 (λ e. c.if-count-eq0.false (omega arith)), c.if-private.false) (cc)
