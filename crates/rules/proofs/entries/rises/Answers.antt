use native.Mathlib.Omega.{arith}
use Rattle.rules.proofs.Shelves.{rises-first, rises-later}
use Rattle.rules.proofs.entries.rises.Goals as goal

pub returns-then-k-eq0 : goal.returns-then-k-eq0
returns-then-k-eq0 c = cc (rises-first c.args.octets.now c.args.k c.if-k-eq0.true)

pub returns-else-k-eq0 : goal.returns-else-k-eq0
returns-else-k-eq0 c =
    cc (rises-later c.args.octets.now (λ i. omega (arith, c.type_inv.octets i)) c.args.k c.if-k-eq0.false, c.pair.ensures.0, c.pair-else-k-eq0.ensures.0)
