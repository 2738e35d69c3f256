use mathlib.Core.Path.{◌≡◌}
use mathlib.Core.Bool.{true, false}
use Prim.Native.Nat.{ℕ, ◌+◌, ◌*◌, ◌≤◌}
use native.Mathlib.Omega.{arith}
use lib.ListN.{length}
use borrow.Author.Count.{below_more}
use borrow.Author.Rules.{rules}
use borrow.Author.Tests.{not-true, not-false}
use Rattle.bits.specs.Bits.{AreOctets}
use Rattle.bits.proofs.Ranges.{all_of, all_fails}
use Rattle.shelf.specs.Shelf.{count, offset_due, ends_right}
use Rattle.shelf.specs.Steps.Walking.{least_pair, entry_right, entries_right}
use Rattle.shelf.proofs.WellFormed.{least-next, due-after, sizes_are, entry_is, offset-small, entry-carried}
use Rattle.shelf.proofs.inner.form.entries_right.Goals as goal

pub count-count-requires : goal.count-count-requires
count-count-requires c = omega (arith, (sizes_are c.args.shelf.now c.requires).room)

pub loop-k-init : goal.loop-k-init
unfolding least_pair offset_due
loop-k-init c = (search rules, cc, λ j l. absurd (omega arith))

pub entry_right-requires : goal.entry_right-requires
entry_right-requires c =
    let inside : 10 + 8 * c.loop-k.k ≤ length c.args.shelf.now = omega (arith, (sizes_are c.args.shelf.now c.requires).room) in
    inside

pub returns-then-not-entry_right : goal.returns-then-not-entry_right
unfolding entries_right
returns-then-not-entry_right c =
    let octets : AreOctets c.args.shelf.now = λ i. omega (arith, c.shared_slice_known-1.given i) in
    let S = c.args.shelf.now in
    let k = c.loop-k.k in
    let wrong : entry_right S k ≡ false = cc (not-true c.entry_right.result c.if-not-entry_right.true-raw, entry-carried S octets k) in
    rw (all_fails (count S) (entry_right S) k (search rules) wrong)

pub pair-least-requires : goal.pair-least-requires
pair-least-requires c =
    let inside : 10 + 8 * c.loop-k.k ≤ length c.args.shelf.now = omega (arith, (sizes_are c.args.shelf.now c.requires).room) in
    inside

pub size-due-requires : goal.size-due-requires
size-due-requires c =
    let inside : 10 + 8 * c.loop-k.k ≤ length c.args.shelf.now = omega (arith, (sizes_are c.args.shelf.now c.requires).room) in
    inside

pub overflow_add-due-in-loop-k : goal.overflow_add-due-in-loop-k
overflow_add-due-in-loop-k c =
    let octets : AreOctets c.args.shelf.now = λ i. omega (arith, c.shared_slice_known-1.given i) in
    let right : entry_right c.args.shelf.now c.loop-k.k ≡ true = cc (not-false c.entry_right.result c.if-not-entry_right.false-raw, entry-carried c.args.shelf.now octets c.loop-k.k) in
    let S = c.args.shelf.now in
    let l = c.loop-k in
    omega (arith, (entry_is S l.k right).1, offset-small S octets l.k)

pub loop-k-preserved : goal.loop-k-preserved
loop-k-preserved c =
    let octets : AreOctets c.args.shelf.now = λ i. omega (arith, c.shared_slice_known-1.given i) in
    let right : entry_right c.args.shelf.now c.loop-k.k ≡ true = cc (not-false c.entry_right.result c.if-not-entry_right.false-raw, entry-carried c.args.shelf.now octets c.loop-k.k) in
    let S = c.args.shelf.now in
    let l = c.loop-k in (
      omega (arith, least-next S l.k),
      omega (arith, due-after S l.k, (entry_is S l.k right).1),
      below_more (λ (j : ℕ). entry_right S j ≡ true) l.k l.invariant.2 right,
    )

pub returns : goal.returns
unfolding entries_right ends_right
returns c =
    let S = c.args.shelf.now in
    let l = c.loop-k in
    let last : l.k ≡ count S = omega arith in
    rw (all_of (count S) (entry_right S) (λ j m. l.invariant.2 j (omega arith))) (cc last)
