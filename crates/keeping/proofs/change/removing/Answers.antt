use mathlib.Core.Path.{◌≡◌, sym, ap, ◌∙◌}
use mathlib.Core.Bool.{true, false}
use Prim.Native.Nat.{ℕ, ◌-◌}
use native.Mathlib.Omega.{arith}
use lib.Dec.{eqb}
use lib.ListN.{length}
use Rattle.shelf.specs.Shelf.{private_shelf}
use Rattle.shelf.specs.Lookup.{has}
use Rattle.keeping.specs.Promises.{remove_number}
use Rattle.keeping.proofs.Sizes.{freed-inside, remove_zero, remove-unformed, remove_none, remove-room, left_changes}
use Rattle.keeping.proofs.change.removing.Goals as goal

pub returns-then-tenant-eq0 : goal.returns-then-tenant-eq0
returns-then-tenant-eq0 c =
    let a = c.args in
    sym (remove_zero a.private.now a.tenant a.profile a.lent c.if-tenant-eq0.true)

pub returns-then-not-well_formed : goal.returns-then-not-well_formed
returns-then-not-well_formed c =
    let a = c.args in
    sym (remove-unformed a.private.now a.tenant a.profile a.lent c.if-tenant-eq0.false (sym c.well_formed-2.ensures ∙ c.if-not-well_formed.true))

pub returns-then-place-eq0 : goal.returns-then-place-eq0
returns-then-place-eq0 c =
    let formed : private_shelf c.args.private.now ≡ true = sym c.well_formed-2.ensures ∙ c.if-not-well_formed.false in
    let a = c.args in
    let S = a.private.now in
    let zero : c.of-place.result.gone ≡ 0 = omega (arith, c.if-place-eq0.true) in
    let none : has S a.tenant a.profile ≡ false = c.of-place.ensures.held ∙ ap (λ (g : ℕ). eqb g 1) zero in
    sym (remove_none S a.tenant a.profile a.lent c.if-tenant-eq0.false formed none)

pub overflow_sub-size : goal.overflow_sub-size
overflow_sub-size c =
    let formed : private_shelf c.args.private.now ≡ true = sym c.well_formed-2.ensures ∙ c.if-not-well_formed.false in
    let a = c.args in
    let r = c.of-place.result in
    omega (arith, freed-inside a.private.now r.at r.gone formed c.of-place.ensures.one c.of-place.ensures.inside, c.freed.ensures)

pub returns : goal.returns
returns c =
    let formed : private_shelf c.args.private.now ≡ true = sym c.well_formed-2.ensures ∙ c.if-not-well_formed.false in
    let a = c.args in
    let S = a.private.now in
    let r = c.of-place.result in
    let one : r.gone ≡ 1 = omega (arith, c.of-place.ensures.one, c.if-place-eq0.false) in
    let some : has S a.tenant a.profile ≡ true = c.of-place.ensures.held ∙ ap (λ (g : ℕ). eqb g 1) one in
    left_changes S a.tenant a.profile r.at r.gone formed c.of-place.ensures a.lent (length S - c.freed.result)
    (remove_number S a.tenant a.profile a.lent) c.within.result (ap (λ (k : ℕ). length S - k) c.freed.ensures)
    (remove-room S a.tenant a.profile a.lent c.if-tenant-eq0.false formed some) c.within.ensures
