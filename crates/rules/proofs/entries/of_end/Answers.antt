use mathlib.Core.Path.{◌≡◌, refl}
use mathlib.Core.Bool.{Bool, true, false}
use native.Mathlib.Omega.{arith}
use Prim.Native.Nat.{ℕ}
use lib.ListN.{length}
use borrow.Author.Tests.{lt-ltb, le-ltb}
use Rattle.bits.specs.Numbers.{answered}
use Rattle.bits.specs.Ranges.{all_below}
use Rattle.shelf.specs.Shelf.{count, tenant, offset_due, ends_right, tenant_right}
use Rattle.rules.specs.Rules.{first_not}
use Rattle.rules.specs.Places.{place_of, smaller, shelf_entry, shelf_at}
use Rattle.rules.proofs.Firsts.{first-some-not}
use Rattle.rules.proofs.Shelves.{ends-right, ends_wrong}
use Rattle.rules.proofs.entries.of_end.Goals as goal

pub returns-then-size-end : goal.returns-then-size-end
unfolding answered place_of shelf_entry shelf_at
returns-then-size-end c =
    let S = c.args.octets.now in
    let wrong : ends_right S ≡ false = ends_wrong S (λ e. c.if-size-end.true (cc e)) in
    let at : c.smaller.result ≡ smaller (length S) (offset_due S (count S)) = cc (c.smaller.ensures.0, c.due-end.ensures.0, c.requires.same) in
    rw c.of_count.ensures (
    record { first = rw wrong; entry_is = refl; at_is = at; inside = omega (arith, c.smaller.ensures.1) }
    )

pub returns-then-size-gt65535 : goal.returns-then-size-gt65535
unfolding answered place_of shelf_entry shelf_at
returns-then-size-gt65535 c =
    let S = c.args.octets.now in
    let right : ends_right S ≡ true = ends-right S (cc c.if-size-end.false) in
    rw c.of_count-then-size-gt65535.ensures (
    record { first = rw (right, lt-ltb 65535 (length S) c.if-size-gt65535.true); entry_is = refl; at_is = refl; inside = omega arith }
    )

pub returns-in-Some : goal.returns-in-Some
unfolding answered place_of shelf_entry shelf_at
returns-in-Some c =
    let S = c.args.octets.now in
    let right : ends_right S ≡ true = ends-right S (cc c.if-size-end.false) in
    let owned : ℕ → Bool = λ k. tenant_right c.args.private (tenant S k) in
    let some : all_below (count S) owned ≡ false = rw (← c.requires.same) (first-some-not c.args.count owned c.in-Some.ensures.1 c.in-Some.ensures.0) in
    let is : c.in-Some.k ≡ first_not (count S) owned = rw (← c.requires.same) c.in-Some.ensures.1 in
    record {
      first = rw (right, le-ltb 65535 (length S) (omega arith), some);
      entry_is = is;
      at_is = omega (arith, is);
      inside = omega (arith, c.requires.room, c.in-Some.ensures.0);
    }

pub returns : goal.returns
unfolding answered place_of shelf_entry shelf_at
returns c =
    let S = c.args.octets.now in
    let right : ends_right S ≡ true = ends-right S (cc c.if-size-end.false) in
    let owned : ℕ → Bool = λ k. tenant_right c.args.private (tenant S k) in
    let none : all_below (count S) owned ≡ true = rw (← c.requires.same) c.in_default.ensures in
    record { first = rw (right, le-ltb 65535 (length S) (omega arith), none); entry_is = refl; at_is = refl; inside = omega arith }
