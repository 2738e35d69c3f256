use mathlib.Core.Path.{◌≡◌, refl}
use mathlib.Core.Bool.{Bool, true, false}
use Prim.Native.Nat.{ℕ, ◌+◌, ◌*◌}
use native.Mathlib.Omega.{arith}
use lib.ListN.{length}
use borrow.Author.Tests.{lt-ltb, le-ltb}
use Rattle.bits.specs.Numbers.{answered}
use Rattle.bits.specs.Ranges.{all_below, within}
use Rattle.profile.specs.Record.{t, z, rises}
use Rattle.rules.specs.Rules.{or_else, first_not}
use Rattle.rules.specs.Places.{place_of, table_row, table_column, record_table, record_row, record_column, record_at}
use Rattle.rules.proofs.Firsts.{first-some-not}
use Rattle.rules.proofs.Records.{small}
use Rattle.rules.proofs.pairs.of_zs.Goals as goal

pub overflow_mul-t : goal.overflow_mul-t
overflow_mul-t c =
    let a = c.args in
    let R = a.octets.now in
    omega (arith, (small R c.requires).few)

pub overflow_add-t : goal.overflow_add-t
overflow_add-t c =
    let a = c.args in
    let R = a.octets.now in
    omega (arith, (small R c.requires).few)

pub returns-then-size-t : goal.returns-then-size-t
unfolding answered or_else place_of table_row table_column record_table record_row record_column record_at
returns-then-size-t c =
    let a = c.args in
    let R = a.octets.now in
    rw c.of_whole.ensures (
    record {
      first = rw (lt-ltb (length R) (10 + 4 * t R) (omega (arith, c.requires.t_is)));
      table_is = refl;
      row_is = refl;
      column_is = refl;
      at_is = refl;
      inside = omega arith;
    }
    )

pub returns-in-Some : goal.returns-in-Some
unfolding answered or_else place_of table_row table_column record_table record_row record_column record_at
returns-in-Some c =
    let a = c.args in
    let R = a.octets.now in
    let n = c.requires in
    let room = le-ltb (length R) (10 + 4 * t R) (omega (arith, n.t_is)) in
    let ranges : ℕ → Bool = λ i. within 1 81 (z R i) in
    let some : all_below (t R) ranges ≡ false = rw (← n.t_is) (first-some-not a.s.t ranges c.in-Some.ensures.1 c.in-Some.ensures.0) in
    let is : c.in-Some.out ≡ first_not (t R) ranges = rw (← n.t_is) c.in-Some.ensures.1 in
    record {
      first = rw (room, some);
      table_is = is;
      row_is = refl;
      column_is = refl;
      at_is = omega (arith, is);
      inside = omega (arith, c.in-Some.ensures.0);
    }

pub returns-in-Some-first_fall : goal.returns-in-Some-first_fall
unfolding answered or_else place_of table_row table_column record_table record_row record_column record_at
returns-in-Some-first_fall c =
    let a = c.args in
    let R = a.octets.now in
    let n = c.requires in
    let room = le-ltb (length R) (10 + 4 * t R) (omega (arith, n.t_is)) in
    let ranges : ℕ → Bool = λ i. within 1 81 (z R i) in
    let all : all_below (t R) ranges ≡ true = rw (← n.t_is) c.in_default.ensures in
    let some : all_below (t R) (rises R) ≡ false = rw (← n.t_is) (first-some-not a.s.t (rises R) c.in-Some-first_fall.ensures.1 c.in-Some-first_fall.ensures.0) in
    let is : c.in-Some-first_fall.fallen ≡ first_not (t R) (rises R) = rw (← n.t_is) c.in-Some-first_fall.ensures.1 in
    record {
      first = rw (room, all, some);
      table_is = is;
      row_is = refl;
      column_is = refl;
      at_is = omega (arith, is);
      inside = omega (arith, c.in-Some-first_fall.ensures.0);
    }

pub returns : goal.returns
unfolding answered or_else
returns c =
    let a = c.args in
    let R = a.octets.now in
    let n = c.requires in
    let room = le-ltb (length R) (10 + 4 * t R) (omega (arith, n.t_is)) in
    let ranges : ℕ → Bool = λ i. within 1 81 (z R i) in
    let all : all_below (t R) ranges ≡ true = rw (← n.t_is) c.in_default.ensures in
    let up : all_below (t R) (rises R) ≡ true = rw (← n.t_is) c.in_default-first_fall.ensures in
    let told = c.of_offsets.ensures in
    record {
      first = rw (room, all, up) told.first;
      table_is = told.table_is;
      row_is = told.row_is;
      column_is = told.column_is;
      at_is = told.at_is;
      inside = told.inside;
    }
