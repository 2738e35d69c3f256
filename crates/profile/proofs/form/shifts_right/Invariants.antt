-- The loop's invariant: `right` says whether every entry passed is right.
use Rattle.std.proofs.Common.{◌≡◌, get_or}
use Rattle.bits.specs.Ranges.{all_below}
use Rattle.profile.specs.Record.{shift_right}
use Rattle.profile.proofs.form.shifts_right.Given as goal

abbrev pub invariant-loop-s : goal.invariant-loop-s
invariant-loop-s l = l.right ≡ all_below l.s-index (λ k. shift_right l.z (get_or l.table k 0))
