use native.Mathlib.Omega.{arith}
use borrow.Author.Rules.{rules}
use borrow.Author.Tests.{tests}
use Rattle.profile.specs.Record.{t}
use Rattle.profile.specs.Staircase.{staircases}
use Rattle.profile.specs.Steps.Walk.{stairs_at}
use Rattle.profile.proofs.Counted.{all_in_range}
use Rattle.profile.proofs.Shape.{shape_is}
use Rattle.profile.proofs.staircase.staircases.Goals as goal

pub t-requires : goal.t-requires
t-requires c = omega (arith, (shape_is c.args.profile.now c.requires).header.long)

pub returns : goal.returns
unfolding staircases
returns c =
    let R = c.args.profile.now in
    all_in_range (stairs_at R) (t R) c.all.ensures.ran (omega arith) (λ i b q k. search (rules, tests))
