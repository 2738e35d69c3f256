use native.Mathlib.Omega.{arith}
use borrow.Author.Rules.{rules}
use borrow.Author.Tests.{tests}
use Rattle.profile.proofs.Counted.{all_in_range}
use Rattle.parity.specs.Steps.Runs.{even_row}
use Rattle.parity.proofs.sums.all_even.Goals as goal

pub returns : goal.returns
returns c =
    let a = c.args in
    all_in_range (even_row a.sums.now a.z) a.rows c.all.ensures.ran (omega arith) (λ row b q k. search (rules, tests))
