-- The loop's invariant: the reading stands.
use Rattle.std.proofs.Common.{length}
use Rattle.stream.specs.Room.{Stands}
use Rattle.stream.proofs.answer_lines.Given as goal

abbrev pub invariant-loop-piece : goal.invariant-loop-piece
invariant-loop-piece g l =
    Stands l.reading l.line l.lent l.out

abbrev pub decreases-loop-piece : goal.decreases-loop-piece
decreases-loop-piece g l =
    length l.left
