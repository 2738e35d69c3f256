-- What the walks over a record promise each other.
use Rattle.std.specs.Prelude.{◌≡◌, true, cond, Option, Some, None, List, ℕ, suc, ◌+◌, ◌-◌, ◌*◌, ◌≤◌, ◌<◌, length}
use Rattle.bits.specs.Ranges.{all_below, within}
use Rattle.profile.specs.Record.{kb, m, x, t, z, columns, table, table_size, rises}
use Rattle.profile.specs.Staircase.{extension_row}
use Rattle.profile.specs.Steps.Walk.{NextFilled}
use Rattle.profile.specs.Steps.Shape.{front_right, shape_right}
use Rattle.rules.specs.declared.Wrong.{Wrong}
use Rattle.rules.specs.declared.RecordFault.{RecordFault}
use Rattle.rules.specs.declared.pairs.Sizes.{Sizes}
use Rattle.rules.specs.declared.stairs.Spot.{Spot}
use Rattle.rules.specs.Faults.{record_number, wrong}
use Rattle.rules.specs.Rules.{linked, own_zero, table_rule}
use Rattle.rules.specs.Steps.Walks.{TestWith}
use Rattle.rules.specs.Places.{filled_column, entry_over, table_row, table_column, record_table, record_row, record_column, record_at}

-- s are the numbers of a record whose header is right; the pairs stand in it; its tables can be read
pub record SizesOf (R : List ℕ) (s : Sizes) : Type 0 where
  pub front : front_right R ≡ true
  pub kb_is : s.kb ≡ kb R
  pub m_is : s.m ≡ m R
  pub x_is : s.x ≡ x R
  pub t_is : s.t ≡ t R
  pub columns_is : s.columns ≡ columns R
  pub size_is : s.size ≡ table_size R

pub record PairsOf (R : List ℕ) (s : Sizes) : Type 0 where
  pub sizes : SizesOf R s
  pub room : 10 + 4 * s.t ≤ length R

-- the z's are right too; and the offsets
pub record RisingOf (R : List ℕ) (s : Sizes) : Type 0 where
  pub pairs : PairsOf R s
  pub range : all_below (t R) (λ i. within 1 81 (z R i)) ≡ true
  pub rising : all_below (t R) (rises R) ≡ true

pub record LinkedOf (R : List ℕ) (s : Sizes) : Type 0 where
  pub zs : RisingOf R s
  pub links : all_below (t R) (linked R) ≡ true

pub record TablesOf (R : List ℕ) (s : Sizes) : Type 0 where
  pub sizes : SizesOf R s
  pub shape : shape_right R ≡ true

-- what is told of a record is the rule n, and where it is broken
pub record Told (R : List ℕ) (n : ℕ) (r : Wrong) : Type 0 where
  pub first : r.rule ≡ n
  pub table_is : r.table ≡ record_table R r.rule
  pub row_is : r.row ≡ record_row R r.rule
  pub column_is : r.column ≡ record_column R r.rule
  pub at_is : r.at ≡ record_at R r.rule
  pub inside : r.at ≤ length R

-- and of a table; the numbers of its rules
pub record Spotted (T : List ℕ) (kb' m' x' columns' n : ℕ) (r : Spot) : Type 0 where
  pub first : record_number r.rule ≡ n
  pub row_is : r.row ≡ table_row T kb' m' x' columns' (record_number r.rule)
  pub column_is : r.column ≡ table_column T kb' m' x' columns' (record_number r.rule)
  pub inside : r.row * columns' + r.column < length T
  pub late : 16 ≤ record_number r.rule

-- where rule n of a table is broken; 0 for none
abbrev pub SpotOf : List ℕ → ℕ → ℕ → ℕ → ℕ → ℕ → Option Spot → Type 0
SpotOf T kb' m' x' columns' n (Some r) = Spotted T kb' m' x' columns' n r
SpotOf T kb' m' x' columns' n None = n ≡ 0

-- the first row from `from` on, before row m − 1, that a column C fills
abbrev pub Filled : (ℕ → ℕ) → ℕ → ℕ → Option ℕ → Type 0
Filled C m' from (Some r) = NextFilled C m' from r × (suc r < m')
Filled C m' from None = NextFilled C m' from (m' - 1)

-- what is wrong in extension row m + i: its own column, or a later one
pub record ExtensionSpot (T : List ℕ) (kb' m' x' columns' i : ℕ) (r : Spot) : Type 0 where
  pub rule_is : record_number r.rule ≡ cond (own_zero T kb' m' columns' i) 24 23
  pub row_is : r.row ≡ m' + i
  pub column_is : r.column ≡ cond (own_zero T kb' m' columns' i) (filled_column T columns' (m' + i) (kb' + (m' + i) + 1) (x' - (i + 1))) (kb' + (m' + i))
  pub inside : r.row * columns' + r.column < length T

abbrev pub ExtensionRow : List ℕ → ℕ → ℕ → ℕ → ℕ → ℕ → Option Spot → Type 0
ExtensionRow T kb' m' x' columns' i r = TestWith (extension_row T kb' m' x' columns' i) (ExtensionSpot T kb' m' x' columns' i) r

-- what is told of an entry of table i is what is known of it, and its octet
pub record ToldOf (s : Sizes) (rule i row column : ℕ) (r : Wrong) : Type 0 where
  pub rule_is : r.rule ≡ rule
  pub table_is : r.table ≡ i
  pub row_is : r.row ≡ row
  pub column_is : r.column ≡ column
  pub at_is : r.at ≡ 10 + 4 * s.t + i * s.size + (row * s.columns + column)

-- k is the first place of table i that holds no shift below its z
abbrev pub OverIn : List ℕ → ℕ → ℕ → Type 0
OverIn R i k = (k < table_size R) × (k ≡ entry_over R i)

-- r is where the staircase of table i is broken first
abbrev pub StairsIn : List ℕ → ℕ → Spot → Type 0
StairsIn R i r = Spotted (table R i) (kb R) (m R) (x R) (columns R) (table_rule (table R i) (kb R) (m R) (x R) (columns R)) r

-- what is told of a header: one of its rules, which is about no table, and the octet of its number in any record; or no rule
pub record HeaderFault (n : ℕ) (r : Wrong) : Type 0 where
  pub first : r.rule ≡ n
  pub some : 2 ≤ r.rule
  pub told : (R : List ℕ) → (r.table ≡ record_table R r.rule) × (r.row ≡ record_row R r.rule) × (r.column ≡ record_column R r.rule) × (r.at ≡ record_at R r.rule)
  pub low : r.at ≤ 8

abbrev pub HeaderOf : ℕ → Option RecordFault → Type 0
HeaderOf n (Some f) = HeaderFault n (wrong (Some f))
HeaderOf n None = n ≡ 0
