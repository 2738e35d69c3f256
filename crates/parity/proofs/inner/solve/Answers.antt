use borrow.Author.Rules.{rules}
use Rattle.parity.proofs.Unique.{begun_solution}
use Rattle.parity.proofs.Groups.{begun_on, begun_all}
use Rattle.parity.proofs.inner.solve.Goals as goal

pub returns-then-m-rows : goal.returns-then-m-rows
returns-then-m-rows c =
    let fit = c.requires.0 in
    begun_solution _ _ _ _ _ _ _ _ fit.some fit.tall fit.wide (begun_on c.climb.ensures.0 c.lay_later.ensures)

pub returns-else-m-rows : goal.returns-else-m-rows
returns-else-m-rows c =
    let fit = c.requires.0 in
    begun_solution _ _ _ _ _ _ _ _ fit.some fit.tall fit.wide (begun_all fit.tall (search rules) c.climb.ensures.0)
