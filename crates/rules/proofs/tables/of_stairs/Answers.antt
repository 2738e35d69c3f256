use mathlib.Core.Path.{◌≡◌, refl, sym, ap, ◌∙◌}
use mathlib.Core.Bool.{true, false}
use mathlib.Core.List.{List}
use Prim.Native.Nat.{ℕ, ◌*◌}
use Rattle.rules.specs.declared.pairs.Sizes.{Sizes}
use Rattle.rules.specs.Steps.Sizes.{SizesOf}
use native.Mathlib.Omega.{arith}
use Rattle.std.specs.Prelude.{Some}
use Rattle.rules.specs.Faults.{record_number, wrong}
use Rattle.bits.specs.Ranges.{all_below}
use Rattle.profile.specs.Record.{t, columns}
use Rattle.rules.specs.Rules.{first_not, stairs}
use Rattle.rules.specs.Places.{place_of, table_row, table_column, record_table, record_row, record_column, record_at}
use Rattle.rules.proofs.Firsts.{first-some-not}
use Rattle.rules.proofs.Records.{small, table-length, stair_none, stair_some}
use Rattle.rules.proofs.Places.{told-entry, stair-table, stair-row, stair-column}
use Rattle.rules.proofs.tables.of_stairs.Goals as goal

-- the columns of the numbers are those of the record
cell : (R : List ℕ) {s : Sizes} → SizesOf R s → (row : ℕ) → row * s.columns ≡ row * columns R
cell R n row = ap (λ (k : ℕ). row * k) n.columns_is

pub told-requires : goal.told-requires
told-requires c =
    let R = c.args.octets.now in
    let n = c.requires.sizes in
    let f = c.in-Some.ensures in
    let few = small R n in
    let size = table-length R n c.requires.shape c.in-Some.i f.0 in
    (few.few, few.short, omega (arith, few.few, f.0), omega (arith, f.2.inside, size, n.columns_is, cell R n c.in-Some.spot.row))

pub returns-in-Some : goal.returns-in-Some
returns-in-Some c =
    let a = c.args in
    let R = a.octets.now in
    let n = c.requires.sizes in
    let f = c.in-Some.ensures in
    let i = c.in-Some.i in
    let spot = c.in-Some.spot in
    let is : i ≡ first_not (t R) (stairs R) = rw (← n.t_is) f.1 in
    let some : all_below (t R) (stairs R) ≡ false = rw (← n.t_is) (first-some-not a.s.t (stairs R) f.1 f.0) in
    let size = table-length R n c.requires.shape i f.0 in
    let told =
    told-entry R n c.requires.shape (record_number spot.rule) i spot.row spot.column (wrong (Some c.told.result)) c.told.ensures (omega (arith, f.2.late)) f.0
    (omega (arith, f.2.inside, size, cell R n spot.row)) (stair-table R (record_number spot.rule) f.2.late i is) (cc (f.2.row_is, stair-row R (record_number spot.rule) f.2.late i is))
    (cc (f.2.column_is, stair-column R (record_number spot.rule) f.2.late i is)) in
    record {
      first = told.first ∙ f.2.first ∙ sym (stair_some R i is some);
      table_is = told.table_is;
      row_is = told.row_is;
      column_is = told.column_is;
      at_is = told.at_is;
      inside = told.inside;
    }

pub returns : goal.returns
unfolding place_of table_row table_column record_table record_row record_column record_at
returns c =
    let a = c.args in
    let R = a.octets.now in
    let n = c.requires.sizes in
    let all : all_below (t R) (stairs R) ≡ true = rw (← n.t_is) c.in_default.ensures in
    record { first = sym (stair_none R all); table_is = refl; row_is = refl; column_is = refl; at_is = refl; inside = omega arith }
