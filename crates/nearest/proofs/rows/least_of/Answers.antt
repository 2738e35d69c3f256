use mathlib.Core.Path.{ap, ◌∙◌}
use Prim.Native.Nat.{ℕ, min}
use native.Mathlib.Omega.{arith}
use Rattle.nearest.proofs.Loops.{least_more, behind-first}
use Rattle.nearest.proofs.rows.least_of.Goals as goal

pub loop-key-preserved : goal.loop-key-preserved
loop-key-preserved c =
    let l = c.loop-key in
    least_more _ _ _ _ l.invariant (c.min-v.ensures ∙ ap (λ (x : ℕ). min l.v x) (behind-first c.args.keys.now 63 l.key-index (omega arith)))
