use mathlib.Core.Path.{◌≡◌, refl, sym, ap, ◌∙◌}
use mathlib.Core.Bool.{true, false}
use native.Mathlib.Omega.{arith}
use lib.Dec.{ltb}
use borrow.Author.Tests.{lt-ltb}
use Rattle.bits.specs.Numbers.{answered}
use Rattle.bits.specs.Ranges.{all_below}
use Rattle.shelf.specs.Shelf.{count, rises, chained}
use Rattle.rules.specs.Rules.{first_not}
use Rattle.rules.specs.Places.{place_of, shelf_entry, shelf_at}
use Rattle.rules.proofs.Firsts.{first-fails, first-before, first-some-not, all_first}
use Rattle.rules.proofs.entries.of_entries.Goals as goal

pub returns-in-Some : goal.returns-in-Some
unfolding answered place_of shelf_entry shelf_at
returns-in-Some c =
    let S = c.args.octets.now in
    let some : all_below (count S) (rises S) ≡ false =
    rw (← c.requires.same) (first-some-not c.args.count (rises S) c.in-Some.ensures.1 c.in-Some.ensures.0) in
    let at : c.in-Some.fallen ≡ first_not (count S) (rises S) = rw (← c.requires.same) c.in-Some.ensures.1 in
    record { first = rw some; entry_is = at; at_is = omega (arith, at); inside = omega (arith, c.requires.room, c.in-Some.ensures.0) }

pub returns-then-loose-eq0 : goal.returns-then-loose-eq0
unfolding answered place_of shelf_entry shelf_at
returns-then-loose-eq0 c =
    let S = c.args.octets.now in
    let up : all_below (count S) (rises S) ≡ true =
    rw (← c.requires.same) c.in_default.ensures in
    let first : chained S 0 ≡ false =
    ap (chained S) (sym c.if-loose-eq0.true) ∙ first-fails c.args.count (chained S) c.in-Some-first_loose.ensures.1 c.in-Some-first_loose.ensures.0 in
    let some : ltb 0 (count S) ≡ true = lt-ltb 0 (count S) (omega (arith, c.requires.same, c.in-Some-first_loose.ensures.0)) in
    rw c.of_count.ensures (
    record { first = rw (up, some, first); entry_is = refl; at_is = refl; inside = omega (arith, c.requires.room, c.in-Some-first_loose.ensures.0) }
    )

pub returns-in-Some-first_loose : goal.returns-in-Some-first_loose
unfolding answered place_of shelf_entry shelf_at
returns-in-Some-first_loose c =
    let S = c.args.octets.now in
    let up : all_below (count S) (rises S) ≡ true =
    rw (← c.requires.same) c.in_default.ensures in
    let is = c.in-Some-first_loose.ensures.1 in
    let first : chained S 0 ≡ true = first-before c.args.count (chained S) is 0 (omega arith) (omega (arith, c.in-Some-first_loose.ensures.0)) in
    let some : ltb 0 (count S) ≡ true = lt-ltb 0 (count S) (omega (arith, c.requires.same, c.in-Some-first_loose.ensures.0)) in
    let loose : all_below (count S) (chained S) ≡ false = rw (← c.requires.same) (first-some-not c.args.count (chained S) is c.in-Some-first_loose.ensures.0) in
    let at : c.in-Some-first_loose.loose ≡ first_not (count S) (chained S) = rw (← c.requires.same) is in
    record { first = rw (up, some, first, loose); entry_is = at; at_is = omega (arith, at); inside = omega (arith, c.requires.room, c.in-Some-first_loose.ensures.0) }

pub returns : goal.returns
unfolding answered
returns c =
    let S = c.args.octets.now in
    let up : all_below (count S) (rises S) ≡ true =
    rw (← c.requires.same) c.in_default.ensures in
    let linked : all_below (count S) (chained S) ≡ true =
    rw (← c.requires.same) c.in_default-first_loose.ensures in
    let told = c.of_end.ensures in
    record {
      first = rw (up, all_first (count S) (chained S) linked, linked) told.first;
      entry_is = told.entry_is;
      at_is = told.at_is;
      inside = told.inside;
    }
