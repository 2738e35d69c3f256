use native.Mathlib.Omega.{arith}
use borrow.Author.Tests.{lt-ltb, le-ltb}
use Rattle.rules.specs.Places.{smaller}
use Rattle.rules.proofs.entries.smaller.Goals as goal

pub returns-then-a-b : goal.returns-then-a-b
unfolding smaller
returns-then-a-b c = (rw (lt-ltb _ _ c.if-a-b.true), omega arith, omega arith)

pub returns : goal.returns
unfolding smaller
returns c = (rw (le-ltb c.args.a c.args.b (omega arith)), omega arith, omega arith)
