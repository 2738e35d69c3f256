use native.Mathlib.Omega.{arith}
use borrow.Author.Rules.{rules}
use borrow.Author.Tests.{tests}
use Rattle.profile.specs.Staircase.{row_ends}
use Rattle.profile.proofs.Counted.{all_in_range}
use Rattle.profile.proofs.staircase.rows_end.Goals as goal

pub returns : goal.returns
returns c =
    let a = c.args in
    all_in_range (row_ends a.table.now a.kb a.m a.x a.columns) a.m c.all.ensures.ran (omega arith) (λ row b q k. search (rules, tests))
