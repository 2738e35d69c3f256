use Rattle.shelf.specs.Shelf.{tenant_right}
use Rattle.rules.proofs.entries.is_tenant.Goals as goal

pub returns-then-private : goal.returns-then-private
unfolding tenant_right
returns-then-private c = rw c.if-private.true (cc)

pub returns : goal.returns
unfolding tenant_right
returns c = rw c.if-private.false (cc)
