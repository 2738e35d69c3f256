use mathlib.Core.Path.{◌≡◌, sym, ◌∙◌}
use mathlib.Core.Bool.{true, false, ◌&&◌}
use Rattle.shelf.specs.Steps.Walking.{sizes_right, tenants_right, walk_right}
use Rattle.shelf.proofs.WellFormed.{walk_is}
use Rattle.shelf.proofs.inner.form.well_formed.Goals as goal
use Rattle.shelf.proofs.inner.form.well_formed.Goals.{then-sizes_right, else-sizes_right}

pub returns-then-tenants_right : goal.returns-then-tenants_right
unfolding walk_right
returns-then-tenants_right c =
    let S = c.args.shelf.now in
    let front : c.if-sizes_right.value ≡ (sizes_right S && tenants_right c.args.private S) =
    elim c.if-sizes_right.branch [
      | then-sizes_right w ↦ rw (sym c.sizes_right.ensures ∙ w.if-sizes_right.true) (w.value-is ∙ w.tenants_right.ensures)
      | else-sizes_right w ↦ rw (sym c.sizes_right.ensures ∙ w.if-sizes_right.false) (w.value-is ∙ w.if-sizes_right.false)
    ] in
    rw (← walk_is S c.args.private, ← front, c.if-tenants_right.true) c.entries_right.ensures

pub returns-else-tenants_right : goal.returns-else-tenants_right
unfolding walk_right
returns-else-tenants_right c =
    let S = c.args.shelf.now in
    let front : c.if-sizes_right.value ≡ (sizes_right S && tenants_right c.args.private S) =
    elim c.if-sizes_right.branch [
      | then-sizes_right w ↦ rw (sym c.sizes_right.ensures ∙ w.if-sizes_right.true) (w.value-is ∙ w.tenants_right.ensures)
      | else-sizes_right w ↦ rw (sym c.sizes_right.ensures ∙ w.if-sizes_right.false) (w.value-is ∙ w.if-sizes_right.false)
    ] in
    rw (← walk_is S c.args.private, ← front, c.if-tenants_right.false)
