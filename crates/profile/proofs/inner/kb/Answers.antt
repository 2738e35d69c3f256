use native.Mathlib.Omega.{arith}
use borrow.Author.Rules.{rules}
use Rattle.profile.proofs.Accepted.{accepted-shape, accepted}
use Rattle.profile.proofs.inner.kb.Goals as goal

pub kb-requires : goal.kb-requires
kb-requires c = omega (arith, (accepted-shape c.args.profile.now c.requires).header.long)

pub returns : goal.returns
returns c = let known = accepted c.args.profile.now c.requires in search rules
