use borrow.Author.Rules.{rules}
use Rattle.profile.specs.Staircase.{extension_row}
use Rattle.rules.specs.Steps.Sizes.{ExtensionSpot}
use Rattle.rules.proofs.Firsts.{first-with}
use Rattle.rules.proofs.stairs.extension_off.Goals as goal

pub returns : goal.returns
returns c =
    let a = c.args in
    let T = a.table.now in
    first-with _ a.x (extension_row T a.kb a.m a.x a.columns) (λ i spot. ExtensionSpot T a.kb a.m a.x a.columns i spot) c.first_found.result
    c.first_found.ensures (λ i r l q. search rules)
