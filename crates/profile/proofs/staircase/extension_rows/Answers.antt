use native.Mathlib.Omega.{arith}
use borrow.Author.Rules.{rules}
use borrow.Author.Tests.{tests}
use Rattle.profile.specs.Staircase.{extension_row}
use Rattle.profile.proofs.Counted.{all_in_range}
use Rattle.profile.proofs.staircase.extension_rows.Goals as goal

pub returns : goal.returns
returns c =
    let a = c.args in
    all_in_range (extension_row a.table.now a.kb a.m a.x a.columns) a.x c.all.ensures.ran (omega arith) (λ i b q k. search (rules, tests))
