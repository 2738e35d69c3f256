use mathlib.Core.Path.{◌≡◌}
use Prim.Native.Nat.{◌+◌, ◌-◌, ◌≤◌}
use native.Mathlib.Omega.{arith}
use lib.ListN.{length}
use borrow.Author.Rules.{rules}
use Rattle.shelf.specs.Lookup.{into}
use Rattle.shelf.specs.Steps.Finding.{stretch_of, place_of}
use Rattle.shelf.proofs.inner.stretch.Goals as goal

pub overflow_add-end : goal.overflow_add-end
overflow_add-end c = omega (arith, c.requires.short)

pub slice_bounds-result-end : goal.slice_bounds-result-end
slice_bounds-result-end c =
    let here : c.args.found.at + c.args.found.size ≤ length c.args.private.now = rw c.if-found.true at c.requires.within in
    search rules

pub returns-then-found : goal.returns-then-found
unfolding stretch_of place_of into
returns-then-found c =
    let f = c.args.found in
    let long : f.at + f.size - f.at ≡ f.size = omega arith in
    (rw (c.if-found.true, long), rw c.if-found.true)

pub slice_bounds-result-end-2 : goal.slice_bounds-result-end-2
slice_bounds-result-end-2 c =
    let here : c.args.found.at + c.args.found.size ≤ length c.args.public.now = rw c.if-found.false at c.requires.within in
    search rules

pub returns : goal.returns
unfolding stretch_of place_of into
returns c =
    let f = c.args.found in
    let long : f.at + f.size - f.at ≡ f.size = omega arith in
    (rw (c.if-found.false, long), rw c.if-found.false)
