use Prim.Native.Nat.{◌%◌}
use borrow.Author.Tests.{eq-eqb, ne_eqb}
use Rattle.coding.specs.Steps.Numbers.{octets_of}
use Rattle.coding.proofs.inner.octets_of.Goals as goal

pub returns-then-a-ne0 : goal.returns-then-a-ne0
unfolding octets_of
returns-then-a-ne0 c = rw (ne_eqb (c.args.a % 8) 0 c.if-a-ne0.true)

pub returns : goal.returns
unfolding octets_of
returns c = rw (eq-eqb (c.args.a % 8) 0 c.if-a-ne0.false)
