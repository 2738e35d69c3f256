use native.Mathlib.Omega.{arith}
use borrow.Author.Rules.{rules}
use Rattle.profile.proofs.Accepted.{accepted-shape, accepted}
use Rattle.profile.proofs.inner.kind.Goals as goal

pub kind-requires : goal.kind-requires
kind-requires c = omega (arith, (accepted-shape c.args.profile.now c.requires).header.long)

pub returns : goal.returns
returns c = let known = accepted c.args.profile.now c.requires in search rules
