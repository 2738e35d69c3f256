-- The loop's invariant: what is left of the last six bits makes the preset state.
use mathlib.Core.Path.{◌≡◌}
use Prim.Native.Nat.{◌<◌}
use lib.ListN.{drop}
use Rattle.control.specs.Register.{after, preset}
use Rattle.control.proofs.register.preset.Given as goal

abbrev pub invariant-loop-x : goal.invariant-loop-x
invariant-loop-x l = (l.s < 64) × (after l.s (drop l.x-index l.x-items) ≡ preset l.word)
