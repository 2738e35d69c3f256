use Prim.Native.Nat.{◌+◌, ◌*◌, ◌<◌}
use mathlib.Core.Path.{◌≡◌}
use borrow.Author.Rules.{rules}
use Rattle.profile.specs.Staircase.{row_ends}
use Rattle.profile.specs.Steps.Walk.{empty_from}
use Rattle.rules.specs.Rules.{first_not}
use Rattle.rules.proofs.Firsts.{test-with, first-with, not-with}
use Rattle.rules.proofs.Staircase.{row-is}
use Rattle.rules.proofs.stairs.row_on.Goals as goal

pub returns : goal.returns
returns c =
    let a = c.args in
    let T = a.table.now in
    first-with _ a.m
    (row_ends T a.kb a.m a.x a.columns)
    (λ row k. (k < a.x) × (k ≡ first_not a.x (empty_from T (row * a.columns + (a.kb + a.m)))))
    c.first_found.result
    c.first_found.ensures
    (λ row r l q. test-with _ _ _ r (row-is T a.kb a.m a.x a.columns row) (not-with a.x (empty_from T (row * a.columns + (a.kb + a.m))) r (search rules)))
