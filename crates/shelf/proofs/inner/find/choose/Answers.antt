use mathlib.Core.Path.{sym, subst}
use mathlib.Core.Bool.{true, false}
use native.Mathlib.Omega.{arith}
use borrow.Author.Rules.{rules}
use Rattle.shelf.specs.Steps.Finding.{Located}
use Rattle.shelf.proofs.Finding.{searched, neither-has, chosen-own, chosen-public}
use Rattle.shelf.proofs.inner.find.choose.Goals as goal

pub entry_of-requires : goal.entry_of-requires
entry_of-requires c =
    let s = searched c.args.private.now (λ i. omega (arith, c.type_inv.private i)) true c.requires.1 in
    (s.0, s.1, search rules, search rules)

pub found_at-requires : goal.found_at-requires
found_at-requires c =
    let s = searched c.args.private.now (λ i. omega (arith, c.type_inv.private i)) true c.requires.1 in
    omega (arith, s.0, c.in-Some.ensures.1)

pub returns-in-Some : goal.returns-in-Some
returns-in-Some c =
    let r = c.requires in
    subst (Located c.args.private.now c.args.public.now c.args.tenant c.args.profile) (sym c.found_at.ensures)
    (chosen-own _ _ _ _ r.0 r.1 r.2 c.in-Some.k c.in-Some.ensures)

pub entry_of-requires-2 : goal.entry_of-requires-2
entry_of-requires-2 c =
    let s = searched c.args.public.now (λ i. omega (arith, c.type_inv.public i)) false c.requires.2 in
    (s.0, s.1, search rules, search rules)

pub found_at-requires-in-Some-entry_of : goal.found_at-requires-in-Some-entry_of
found_at-requires-in-Some-entry_of c =
    let s = searched c.args.public.now (λ i. omega (arith, c.type_inv.public i)) false c.requires.2 in
    omega (arith, s.0, c.in-Some-entry_of.ensures.1)

pub returns-in-Some-entry_of : goal.returns-in-Some-entry_of
returns-in-Some-entry_of c =
    let r = c.requires in
    subst (Located c.args.private.now c.args.public.now c.args.tenant c.args.profile) (sym c.found_at-in-Some-entry_of.ensures)
    (chosen-public _ _ _ _ r.0 r.1 r.2 c.in_default.ensures c.in-Some-entry_of.k c.in-Some-entry_of.ensures)

pub returns : goal.returns
returns c =
    let r = c.requires in
    sym (neither-has _ _ _ _ r.0 r.1 r.2 c.in_default.ensures c.in_default-entry_of.ensures)
