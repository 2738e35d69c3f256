-- Where each rule is broken: of a shelf the entry and the octet, of a record the table, the row, the column and the octet. All are counted from 0, and are 0
-- where the rule is about none. S is a shelf's octets, R a record's, T a table's.
use Rattle.std.specs.Prelude.{Bool, cond, List, [], ◌∷◌, ℕ, suc, ◌+◌, ◌-◌, ◌*◌, ◌/◌, ◌%◌, eqb, leb, ltb, length, get_or}
use Rattle.bits.specs.Ranges.{first_below, within}
use Rattle.shelf.specs.Shelf as shelf
use Rattle.profile.specs.Record.{kb, m, x, t, z, columns, table_size, table, entry, empty, offset, offset_due, rises, shift_right, table_right}
use Rattle.profile.specs.Staircase.{filled, filled_between, next_due, next_column, row_ends, extension_row}
use Rattle.rules.specs.declared.Broken.{Broken}
use Rattle.rules.specs.declared.Wrong.{Wrong}
use Rattle.rules.specs.Rules.{first_not, linked, stairs, shelf_rule, record_rule}

-- of rules that are listed with their places, the place of one; 0 for a rule that is not listed
unfoldable pub place_of : List (ℕ × ℕ) → ℕ → ℕ
place_of [] rule = 0
place_of ((number, place) ∷ later) rule = cond (eqb number rule) place (place_of later rule)

-- of octets that do not end where they are due to, the first that is missing or the first that is too many
unfoldable pub smaller : ℕ → ℕ → ℕ
smaller a b = cond (ltb a b) a b

-- ---- a shelf

-- the first entry whose pair does not rise, whose offset is not the one that is due, whose tenant is not of this shelf
unfoldable pub shelf_entry : Bool → List ℕ → ℕ → ℕ
shelf_entry private S =
    place_of
    ((4, first_not (shelf.count S) (shelf.rises S))
    ∷ (6, first_not (shelf.count S) (shelf.chained S))
    ∷ (9, first_not (shelf.count S) (λ k. shelf.tenant_right private (shelf.tenant S k)))
    ∷ [])

-- where that entry starts, or where its offset stands; else where the shelf ends too early, or where it is too long
unfoldable pub shelf_at : Bool → List ℕ → ℕ → ℕ
shelf_at private S rule =
    let k = shelf_entry private S rule in
    place_of
    ((1, length S)
    ∷ (2, 0)
    ∷ (3, length S)
    ∷ (4, 2 + 8 * k)
    ∷ (5, 6)
    ∷ (6, 6 + 8 * k)
    ∷ (7, smaller (length S) (shelf.offset_due S (shelf.count S)))
    ∷ (8, 65535)
    ∷ (9, 2 + 8 * k)
    ∷ [])
    rule

-- what is told of a shelf
unfoldable pub shelf_broken : Bool → List ℕ → Broken
shelf_broken private S =
    let rule = shelf_rule private S in
    record { rule = rule; entry = shelf_entry private S rule; at = shelf_at private S rule }

-- ---- a table: rules 16 to 24

-- the first row from `from` on, before row m−1, that a column fills; row m−1 where there is none
unfoldable pub filled_from : ℕ → (ℕ → ℕ) → ℕ → ℕ
filled_from m' col from = from + first_below (m' - 1 - from) (λ k. filled (col (from + k)))

-- the first row between row 0 and row m−1 that column kb fills, and the second
unfoldable pub middle_row : ℕ → (ℕ → ℕ) → ℕ
middle_row m' col = filled_from m' col 1

unfoldable pub second_row : ℕ → (ℕ → ℕ) → ℕ
second_row m' col = filled_from m' col (middle_row m' col + 1)

-- the first of n columns from `from` on that a row fills
unfoldable pub filled_column : List ℕ → ℕ → ℕ → ℕ → ℕ → ℕ
filled_column T columns' row from n = from + first_not n (λ k. eqb (entry T columns' row (from + k)) empty)

module _ (T : List ℕ) (kb' m' x' columns' : ℕ) where
  -- the first column kb+1+i that is not what it is due to be: its i
  abbrev pub column_off : ℕ
  column_off = first_not (m' - 1) (λ i. next_column m' (suc i) (λ row. entry T columns' row (kb' + suc i)))

  -- the first staircase row that is not empty in all extension columns
  abbrev pub row_on : ℕ
  row_on = first_not m' (row_ends T kb' m' x' columns')

  -- the first extension row m+i that is wrong: its i
  abbrev pub extension_off : ℕ
  extension_off = first_not x' (extension_row T kb' m' x' columns')

  -- 18 where no row between is filled: the first of them; where two are: the second that is
  unfoldable pub table_row : ℕ → ℕ
  table_row =
      let col : ℕ → ℕ = λ row. entry T columns' row kb' in
      place_of
      ((17, m' - 1)
      ∷ (18, cond (eqb (filled_between m' col) 0) 1 (second_row m' col))
      ∷ (19, m' - 1)
      ∷ (20, middle_row m' col)
      ∷ (21, first_not m' (λ row. eqb (entry T columns' row (kb' + suc column_off)) (next_due (suc column_off) row)))
      ∷ (22, row_on)
      ∷ (23, m' + extension_off)
      ∷ (24, m' + extension_off)
      ∷ [])

  unfoldable pub table_column : ℕ → ℕ
  table_column =
      place_of
      ((16, kb')
      ∷ (17, kb')
      ∷ (18, kb')
      ∷ (19, kb')
      ∷ (20, kb')
      ∷ (21, kb' + suc column_off)
      ∷ (22, filled_column T columns' row_on (kb' + m') x')
      ∷ (23, kb' + (m' + extension_off))
      ∷ (24, filled_column T columns' (m' + extension_off) (kb' + (m' + extension_off) + 1) (x' - (extension_off + 1)))
      ∷ [])

-- ---- a record

-- the first table whose z is out of range, whose z does not rise, whose offset is not the one that is due, that holds an entry which is no shift below its
-- z; and from 16 on the first table that is no staircase with its extension
unfoldable pub record_table : List ℕ → ℕ → ℕ
record_table R rule =
    cond (leb rule 15)
    (place_of
    ((10, first_not (t R) (λ i. within 1 81 (z R i)))
    ∷ (11, first_not (t R) (rises R))
    ∷ (13, first_not (t R) (linked R))
    ∷ (15, first_not (t R) (table_right R))
    ∷ [])
    rule)
    (first_not (t R) (stairs R))

-- of table i the first entry that is no shift below its z, counted row by row
unfoldable pub entry_over : List ℕ → ℕ → ℕ
entry_over R i = first_not (table_size R) (λ k. shift_right (z R i) (get_or (table R i) k 0))

unfoldable pub record_row : List ℕ → ℕ → ℕ
record_row R rule =
    let i = record_table R rule in
    cond (eqb rule 15) (entry_over R i / columns R) (table_row (table R i) (kb R) (m R) (x R) (columns R) rule)

unfoldable pub record_column : List ℕ → ℕ → ℕ
record_column R rule =
    let i = record_table R rule in
    cond (eqb rule 15) (entry_over R i % columns R) (table_column (table R i) (kb R) (m R) (x R) (columns R) rule)

-- where the number stands that the rule is about, or where the record ends; from 15 on where the entry stands
unfoldable pub record_at : List ℕ → ℕ → ℕ
record_at R rule =
    let i = record_table R rule in
    cond (leb rule 14)
    (place_of
    ((1, length R)
    ∷ (2, 0)
    ∷ (3, 2)
    ∷ (4, 4)
    ∷ (5, 4)
    ∷ (6, 6)
    ∷ (7, 4)
    ∷ (8, 8)
    ∷ (9, length R)
    ∷ (10, 10 + 4 * i)
    ∷ (11, 10 + 4 * i)
    ∷ (12, 12)
    ∷ (13, 12 + 4 * i)
    ∷ (14, smaller (length R) (offset_due R (t R)))
    ∷ [])
    rule)
    (offset R i + (record_row R rule * columns R + record_column R rule))

-- what is told of a record
unfoldable pub record_wrong : List ℕ → Wrong
record_wrong R =
    let rule = record_rule R in
    record { rule = rule; table = record_table R rule; row = record_row R rule; column = record_column R rule; at = record_at R rule }
