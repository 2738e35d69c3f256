use Prim.Native.Nat.{suc, ◌+◌, ◌<◌}
use mathlib.Core.Path.{◌≡◌}
use borrow.Author.Rules.{rules}
use Rattle.profile.specs.Staircase.{next_column}
use Rattle.profile.specs.Steps.Walk.{column, next_right}
use Rattle.rules.specs.Rules.{first_not}
use Rattle.rules.proofs.Firsts.{test-with, first-with, not-with}
use Rattle.rules.proofs.Staircase.{column_is}
use Rattle.rules.proofs.stairs.column_off.Goals as goal

pub returns : goal.returns
returns c =
    let a = c.args in
    let T = a.table.now in
    first-with _ a.n
    (λ i. next_column a.m (suc i) (column T a.columns (a.kb + suc i)))
    (λ i row. (row < a.m) × (row ≡ first_not a.m (λ r. next_right T a.kb a.columns r i)))
    c.first_found.result
    c.first_found.ensures
    (λ i r l q. test-with _ _ _ r (column_is T a.kb a.m 0 a.columns i) (not-with a.m (λ row. next_right T a.kb a.columns row i) r (search rules)))
