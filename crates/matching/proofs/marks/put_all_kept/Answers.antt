use native.Mathlib.Omega.{arith}
use Rattle.matching.specs.Matching.{kept}
use Rattle.matching.proofs.Put.{put_none, put_more, put_is, kept_turn}
use Rattle.matching.proofs.marks.put_all_kept.Goals as goal

pub loop-x-init : goal.loop-x-init
unfolding kept
loop-x-init c = put_none _ _ _ c.requires.0

pub loop-x-preserved : goal.loop-x-preserved
loop-x-preserved c =
    put_is (kept_turn _ _ (omega arith)) (put_more _ c.loop-x.invariant c.put_kept-k.ensures)
