use native.Mathlib.Omega.{arith}
use borrow.Author.Rules.{rules}
use borrow.Author.Tests.{tests}
use Rattle.profile.specs.Steps.Walk.{row_right}
use Rattle.profile.proofs.Counted.{all_in_range}
use Rattle.profile.proofs.staircase.rows_right.Goals as goal

pub returns : goal.returns
returns c =
    let a = c.args in
    all_in_range (row_right a.table.now a.kb a.m a.columns) a.m c.all.ensures.ran (omega arith) (λ row b q k. search (rules, tests))
