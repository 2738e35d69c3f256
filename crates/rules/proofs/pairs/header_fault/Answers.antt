use native.Mathlib.Omega.{arith}
use borrow.Author.Tests.{not-true, not-false, lt-ltb, le-ltb}
use Rattle.bits.specs.Numbers.{answered}
use mathlib.Core.Path.{refl, sym, ◌∙◌}
use Rattle.rules.specs.Places.{place_of, table_row, table_column, record_table, record_row, record_column, record_at}
use Prim.Native.Nat.{◌+◌}
use Rattle.rules.proofs.pairs.header_fault.Goals as goal

pub returns-then-not-is_within : goal.returns-then-not-is_within
unfolding answered place_of table_row table_column record_table record_row record_column record_at
returns-then-not-is_within c =
    let a = c.args in
    rw c.of_whole.ensures (record {
      first = rw (sym c.is_within.ensures ∙ not-true c.is_within.result c.if-not-is_within.true-raw);
      some = omega arith;
      told = λ R. (refl, refl, refl, refl);
      low = omega arith;
    })

pub returns-then-not-is_within-2 : goal.returns-then-not-is_within-2
unfolding answered place_of table_row table_column record_table record_row record_column record_at
returns-then-not-is_within-2 c =
    let a = c.args in
    rw c.of_whole-then-not-is_within-2.ensures (record {
      first = rw (
        sym c.is_within.ensures ∙ not-false c.is_within.result c.if-not-is_within.false-raw,
        sym c.is_within-2.ensures ∙ not-true c.is_within-2.result c.if-not-is_within-2.true-raw,
      );
      some = omega arith;
      told = λ R. (refl, refl, refl, refl);
      low = omega arith;
    })

pub returns-then-x-gt37 : goal.returns-then-x-gt37
unfolding answered place_of table_row table_column record_table record_row record_column record_at
returns-then-x-gt37 c =
    let a = c.args in
    rw c.of_whole-then-x-gt37.ensures (record {
      first = rw (
        sym c.is_within.ensures ∙ not-false c.is_within.result c.if-not-is_within.false-raw,
        sym c.is_within-2.ensures ∙ not-false c.is_within-2.result c.if-not-is_within-2.false-raw,
        lt-ltb 37 a.x c.if-x-gt37.true,
      );
      some = omega arith;
      told = λ R. (refl, refl, refl, refl);
      low = omega arith;
    })

pub returns-then-m-x-gt40 : goal.returns-then-m-x-gt40
unfolding answered place_of table_row table_column record_table record_row record_column record_at
returns-then-m-x-gt40 c =
    let a = c.args in
    rw c.of_whole-then-m-x-gt40.ensures (record {
      first = rw (
        sym c.is_within.ensures ∙ not-false c.is_within.result c.if-not-is_within.false-raw,
        sym c.is_within-2.ensures ∙ not-false c.is_within-2.result c.if-not-is_within-2.false-raw,
        le-ltb 37 a.x (omega arith),
        lt-ltb 40 (a.m + a.x) c.if-m-x-gt40.true,
      );
      some = omega arith;
      told = λ R. (refl, refl, refl, refl);
      low = omega arith;
    })

pub returns-then-not-is_within-3 : goal.returns-then-not-is_within-3
unfolding answered place_of table_row table_column record_table record_row record_column record_at
returns-then-not-is_within-3 c =
    let a = c.args in
    rw c.of_whole-then-not-is_within-3.ensures (record {
      first = rw (
        sym c.is_within.ensures ∙ not-false c.is_within.result c.if-not-is_within.false-raw,
        sym c.is_within-2.ensures ∙ not-false c.is_within-2.result c.if-not-is_within-2.false-raw,
        le-ltb 37 a.x (omega arith),
        le-ltb 40 (a.m + a.x) (omega arith),
        sym c.is_within-3.ensures ∙ not-true c.is_within-3.result c.if-not-is_within-3.true-raw,
      );
      some = omega arith;
      told = λ R. (refl, refl, refl, refl);
      low = omega arith;
    })

pub returns-then-is_type_1_extended : goal.returns-then-is_type_1_extended
unfolding answered place_of table_row table_column record_table record_row record_column record_at
returns-then-is_type_1_extended c =
    let a = c.args in
    rw c.of_whole-then-is_type_1_extended.ensures (record {
      first = rw (
        sym c.is_within.ensures ∙ not-false c.is_within.result c.if-not-is_within.false-raw,
        sym c.is_within-2.ensures ∙ not-false c.is_within-2.result c.if-not-is_within-2.false-raw,
        le-ltb 37 a.x (omega arith),
        le-ltb 40 (a.m + a.x) (omega arith),
        sym c.is_within-3.ensures ∙ not-false c.is_within-3.result c.if-not-is_within-3.false-raw,
        sym c.is_type_1_extended.ensures ∙ c.if-is_type_1_extended.true,
      );
      some = omega arith;
      told = λ R. (refl, refl, refl, refl);
      low = omega arith;
    })

pub returns-then-not-is_within-4 : goal.returns-then-not-is_within-4
unfolding answered place_of table_row table_column record_table record_row record_column record_at
returns-then-not-is_within-4 c =
    let a = c.args in
    rw c.of_whole-then-not-is_within-4.ensures (record {
      first = rw (
        sym c.is_within.ensures ∙ not-false c.is_within.result c.if-not-is_within.false-raw,
        sym c.is_within-2.ensures ∙ not-false c.is_within-2.result c.if-not-is_within-2.false-raw,
        le-ltb 37 a.x (omega arith),
        le-ltb 40 (a.m + a.x) (omega arith),
        sym c.is_within-3.ensures ∙ not-false c.is_within-3.result c.if-not-is_within-3.false-raw,
        sym c.is_type_1_extended.ensures ∙ c.if-is_type_1_extended.false,
        sym c.is_within-4.ensures ∙ not-true c.is_within-4.result c.if-not-is_within-4.true-raw,
      );
      some = omega arith;
      told = λ R. (refl, refl, refl, refl);
      low = omega arith;
    })

pub returns : goal.returns
unfolding answered
returns c =
    let a = c.args in
    rw (
      sym c.is_within.ensures ∙ not-false c.is_within.result c.if-not-is_within.false-raw,
      sym c.is_within-2.ensures ∙ not-false c.is_within-2.result c.if-not-is_within-2.false-raw,
      le-ltb 37 a.x (omega arith),
      le-ltb 40 (a.m + a.x) (omega arith),
      sym c.is_within-3.ensures ∙ not-false c.is_within-3.result c.if-not-is_within-3.false-raw,
      sym c.is_type_1_extended.ensures ∙ c.if-is_type_1_extended.false,
      sym c.is_within-4.ensures ∙ not-false c.is_within-4.result c.if-not-is_within-4.false-raw,
    )
