use Rattle.std.proofs.Common.{rules, arith, tests}
use Rattle.std.proofs.lemmas.Iterator.{serves_from_Range}
use Rattle.profile.specs.Record.{t}
use Rattle.profile.specs.Steps.Shape.{size_right}
use Rattle.profile.proofs.Shape.{header_is, pair-there}
use Rattle.profile.proofs.Counted.{all_in_range}
use Rattle.profile.proofs.form.sizes_right.Goals as goal

pub t-requires : goal.t-requires
t-requires c = omega (arith, (header_is c.args.profile.now c.requires.0).long)

pub all-requires-clause-callable : goal.all-requires-clause-callable
all-requires-clause-callable c =
    let R = c.args.profile.now in
    let p = c.requires in
    let few = (header_is R p.0).t_high in
    serves_from_Range (λ x q e. search rules)
    (λ x low high. let there = pair-there R p.1 x (omega arith) in search rules)

pub returns : goal.returns
returns c = all_in_range (size_right c.args.profile.now) (t c.args.profile.now) c.all.ensures.ran (omega arith) (λ x b q k. search (rules, tests))
