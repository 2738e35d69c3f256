use Rattle.std.proofs.Common.{rules, arith, tests, eqb, ℕ}
use Rattle.profile.specs.Record.{t, z}
use Rattle.profile.proofs.Counted.{first_in_range}
use Rattle.profile.proofs.inner.index_of.Goals as goal

pub returns : goal.returns
returns c =
    let R = c.args.profile.now in
    let found = first_in_range (λ (i : ℕ). eqb (z R i) c.args.wanted) (t R) _ c.find.result c.find.ensures.ran (omega arith) (λ x b q k. search (rules, tests)) in
    record { first = found.0; within = found.1 }
