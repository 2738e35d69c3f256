-- The loop's invariant: what is left to walk makes what the whole walk makes.
use mathlib.Core.Path.{◌≡◌}
use Prim.Native.Nat.{◌-◌, ◌<◌}
use mathlib.Core.List.{◌++◌}
use lib.ListN.{drop}
use lib.Seq.{sets}
use Rattle.nearest.specs.Steps.Trellis.{cost, end_at, walk, goal_word}
use Rattle.nearest.proofs.goals.walk.Given as goal

abbrev pub invariant-loop-k : goal.invariant-loop-k
invariant-loop-k l = (l.s < 64) × (sets l.word l.k (walk (cost l.steps) (end_at l.goal) (l.d - l.k) l.k l.s) ≡ goal_word (cost l.steps) l.d l.goal ++ drop l.d l.initial.word)
