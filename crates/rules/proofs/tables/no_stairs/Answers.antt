use borrow.Author.Rules.{rules}
use Rattle.rules.specs.Rules.{stairs}
use Rattle.rules.specs.Steps.Sizes.{StairsIn}
use Rattle.rules.proofs.Firsts.{first-with}
use Rattle.rules.proofs.tables.no_stairs.Goals as goal

pub returns : goal.returns
returns c =
    let R = c.args.octets.now in
    first-with _ c.args.s.t (stairs R) (StairsIn R) c.first_found.result c.first_found.ensures (λ i r l q. search rules)
