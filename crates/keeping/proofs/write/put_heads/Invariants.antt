-- The loop's invariant: the heads that are left, put behind those that are there, give what all of them give.
use mathlib.Core.Path.{◌≡◌}
use Prim.Native.Nat.{◌+◌, ◌-◌, ◌*◌, ◌≤◌}
use lib.ListN.{length}
use lib.Seq.{sets}
use Rattle.keeping.specs.Entries.{entries_from, heads, records}
use Rattle.keeping.proofs.write.put_heads.Given as goal

abbrev pub invariant-loop-k : goal.invariant-loop-k
invariant-loop-k l =
    (l.place + 8 * (l.to - l.k) ≤ length l.initial.out) × (length l.out ≡ length l.initial.out)
    × (l.next + length (records (entries_from l.private (l.to - l.k) l.k)) ≡ l.offset + length (records (entries_from l.private (l.to - l.from) l.from)))
    × (sets l.out l.place (heads l.next (entries_from l.private (l.to - l.k) l.k)) ≡ sets l.initial.out l.at (heads l.offset (entries_from l.private (l.to - l.from) l.from)))
