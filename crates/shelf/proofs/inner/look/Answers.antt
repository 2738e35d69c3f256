use mathlib.Core.Path.{◌≡◌, sym, ◌∙◌}
use mathlib.Core.Bool.{true, false}
use native.Mathlib.Omega.{arith}
use borrow.Author.Rules.{rules}
use borrow.Author.Tests.{not-true, not-false}
use Rattle.shelf.specs.Shelf.{private_shelf, public_shelf}
use Rattle.shelf.proofs.Finding.{tenant_zero, private-wrong, public-wrong}
use Rattle.shelf.proofs.inner.look.Goals as goal

pub returns-then-tenant-eq0 : goal.returns-then-tenant-eq0
returns-then-tenant-eq0 c = sym (tenant_zero _ _ _ _ c.if-tenant-eq0.true)

pub returns-then-not-well_formed : goal.returns-then-not-well_formed
returns-then-not-well_formed c = sym (private-wrong _ _ _ _ (omega arith) (sym c.well_formed-2.ensures ∙ c.if-not-well_formed.true))

pub returns-then-not-well_formed-2 : goal.returns-then-not-well_formed-2
returns-then-not-well_formed-2 c =
    sym (public-wrong _ _ _ _ (omega arith) (sym c.well_formed-2.ensures ∙ c.if-not-well_formed.false) (sym c.well_formed-3.ensures ∙ c.if-not-well_formed-2.true))

pub choose-requires : goal.choose-requires
choose-requires c = (
  omega arith,
  sym c.well_formed-2.ensures ∙ c.if-not-well_formed.false,
  sym c.well_formed-3.ensures ∙ c.if-not-well_formed-2.false,
  search rules,
  search rules,
)
