use mathlib.Core.Path.{ap, ◌∙◌}
use Prim.Native.Nat.{ℕ}
use native.Mathlib.Omega.{arith}
use lib.Bits.{bit_xor}
use lib.Count.{ones}
use Rattle.nearest.specs.Steps.Trellis.{price}
use Rattle.nearest.proofs.Loops.{made_more}
use Rattle.nearest.proofs.prices.prices_at.Goals as goal

pub loop-j-preserved : goal.loop-j-preserved
unfolding price
loop-j-preserved c =
    let l = c.loop-j in
    let here = c.apart.ensures ∙ ap (λ (y : ℕ). ones (bit_xor y c.args.h)) (c.requires.1.at l.j (omega arith)) in
    made_more _ _ _ _ _ l.invariant (omega arith) here
