-- The loop's invariant: the reading stands.
use Rattle.stream.specs.Room.{Stands}
use Rattle.stream.proofs.read_all.Given as goal

abbrev pub invariant-loop-turn : goal.invariant-loop-turn
invariant-loop-turn g l =
    Stands l.reading l.line l.lent l.out
