use mathlib.Core.Path.{◌≡◌, refl}
use native.Mathlib.Omega.{arith}
use Prim.Native.Nat.{◌+◌, ◌*◌}
use lib.ListN.{length}
use borrow.Author.Tests.{lt-ltb, le-ltb}
use Rattle.bits.specs.Numbers.{answered}
use Rattle.shelf.specs.Shelf.{count}
use Rattle.rules.specs.Faults.{broken}
use Rattle.rules.specs.Rules.{shelf_rule}
use Rattle.rules.specs.Places.{place_of, shelf_entry, shelf_at}
use Rattle.rules.proofs.Places.{shelf-told}
use Rattle.rules.proofs.of_shelf.Goals as goal

pub returns-then-size-lt2 : goal.returns-then-size-lt2
unfolding shelf_rule answered place_of shelf_entry shelf_at
returns-then-size-lt2 c =
    let a = c.args in
    let S = a.octets.now in
    let first : 1 ≡ shelf_rule a.private S = rw (lt-ltb (length S) 2 c.if-size-lt2.true) in
    rw c.of_count.ensures (
    shelf-told a.private S (record { rule = 1; entry = 0; at = length S }) first refl refl (omega arith)
    )

pub returns-then-count-gt64 : goal.returns-then-count-gt64
unfolding shelf_rule answered place_of shelf_entry shelf_at
returns-then-count-gt64 c =
    let a = c.args in
    let S = a.octets.now in
    let first : 2 ≡ shelf_rule a.private S = rw (le-ltb (length S) 2 (omega arith), lt-ltb 64 (count S) (omega arith)) in
    rw c.of_count-then-count-gt64.ensures (
    shelf-told a.private S (record { rule = 2; entry = 0; at = 0 }) first refl refl (omega arith)
    )

pub returns-then-size-count : goal.returns-then-size-count
unfolding shelf_rule answered place_of shelf_entry shelf_at
returns-then-size-count c =
    let a = c.args in
    let S = a.octets.now in
    let first : 3 ≡ shelf_rule a.private S = rw (le-ltb (length S) 2 (omega arith), le-ltb 64 (count S) (omega arith), lt-ltb (length S) (2 + 8 * count S) (omega arith)) in
    rw c.of_count-then-size-count.ensures (
    shelf-told a.private S (record { rule = 3; entry = 0; at = length S }) first refl refl (omega arith)
    )

pub returns : goal.returns
unfolding shelf_rule answered
returns c =
    let a = c.args in
    let S = a.octets.now in
    let r = broken c.of_entries.result in
    let told = c.of_entries.ensures in
    let first : r.rule ≡ shelf_rule a.private S =
    rw (le-ltb (length S) 2 (omega arith), le-ltb 64 (count S) (omega arith), le-ltb (length S) (2 + 8 * count S) (omega arith)) told.first in
    shelf-told a.private S r first told.entry_is told.at_is told.inside
