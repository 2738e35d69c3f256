-- The loop's invariant: the state is that after the bits so far, and their outputs stand in the three streams.
use mathlib.Core.Path.{◌≡◌}
use Prim.Native.Nat.{◌<◌}
use lib.ListN.{length, get_or, take}
use Rattle.control.specs.Register.{after, preset, streams}
use Rattle.control.specs.Steps.Order.{Threes}
use Rattle.control.proofs.register.put_streams.Given as goal

abbrev pub invariant-loop-k : goal.invariant-loop-k
invariant-loop-k l = (l.s < 64) × (l.s ≡ after (preset l.word) (take l.k l.word)) × Threes (length l.word) (λ i. get_or (streams l.word) i 0) l.k l.initial.out l.out
