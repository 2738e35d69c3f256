use native.Mathlib.Omega.{arith}
use Rattle.profile.specs.Record.{offset, offset_due}
use Rattle.rules.specs.Rules.{linked}
use Rattle.rules.proofs.Records.{small}
use Rattle.rules.proofs.pairs.is_linked.Goals as goal

pub offset_due-due-requires : goal.offset_due-due-requires
offset_due-due-requires c =
    let n = small c.args.octets.now c.requires.0.sizes in
    (n.few, n.short, omega (arith, n.few, c.requires.1))

pub returns : goal.returns
unfolding linked offset offset_due
returns c = cc
