use Rattle.std.proofs.Common.{get_or}
use Rattle.profile.specs.Record.{shift_right}
use Rattle.profile.proofs.Shape.{all_none, all_more}
use Rattle.profile.proofs.form.shifts_right.Goals as goal

pub loop-s-init : goal.loop-s-init
loop-s-init c = all_none _

pub loop-s-preserved : goal.loop-s-preserved
loop-s-preserved c = all_more (λ k. shift_right c.args.z (get_or c.args.table.now k 0)) c.loop-s.s-index c.loop-s.invariant c.shift_right-right.ensures
