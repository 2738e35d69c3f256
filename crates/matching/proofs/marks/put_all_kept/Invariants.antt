-- The loop's invariant: the kept ones of the places so far are put.
use lib.ListN.{take}
use Rattle.matching.specs.Matching.{kept}
use Rattle.matching.specs.Steps.Places.{Put}
use Rattle.matching.proofs.marks.put_all_kept.Given as goal

abbrev pub invariant-loop-x : goal.invariant-loop-x
invariant-loop-x l = Put (kept (take l.x-index l.run)) l.initial.out l.at l.e.0 l.k l.out
