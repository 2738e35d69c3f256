-- The rules of document 01, "Shelf and profile records" (with document 02, CR 3), each with whether it is broken, in the document's order: the rule that
-- is told is the first that is. S is a shelf's octets, R a record's.
use Rattle.std.specs.Prelude.{Bool, cond, not, ◌&&◌, ◌||◌, List, [], ◌∷◌, ◌++◌, ℕ, zero, suc, ◌+◌, ◌-◌, ◌*◌, eqb, leb, ltb, length}
use Rattle.bits.specs.Numbers.{answered}
use Rattle.bits.specs.Ranges.{all_below, first_below, within}
use Rattle.shelf.specs.Shelf as shelf
use Rattle.profile.specs.Record.{kb, m, x, kind, t, z, columns, table, entry, offset, offset_due, ends_right, rises, table_right}
use Rattle.profile.specs.Staircase.{filled, filled_between, next_column, staircase, row_ends, extension_row, extended, staircases}

-- the first of 0 .. n − 1 at which p does not hold, and n where there is none
unfoldable pub first_not : ℕ → (ℕ → Bool) → ℕ
first_not n p = first_below n (λ k. not (p k))

-- the first of two rules, where 0 stands for none
unfoldable pub or_else : ℕ → ℕ → ℕ
or_else zero later = later
or_else (suc rule) later = suc rule

-- ---- a shelf

-- "and the shelf ends with the last record (at 2 when n = 0). A shelf is at most 65,535 octets. Every tenant is 0 in a public shelf and 1 or more in a
-- private one."
abbrev pub end_rules : Bool → List ℕ → List (ℕ × Bool)
end_rules private S =
    (7, not (shelf.ends_right S))
    ∷ (8, ltb 65535 (length S))
    ∷ (9, not (all_below (shelf.count S) (λ k. shelf.tenant_right private (shelf.tenant S k))))
    ∷ []

-- "Pairs (tenant, profile number) strictly rise. The first offset is 2 + 8n, each next offset is the end of the record before":
-- 6 is looked at where 5 is not broken, and so is about a next one
abbrev pub entry_rules : Bool → List ℕ → List (ℕ × Bool)
entry_rules private S =
    (4, not (all_below (shelf.count S) (shelf.rises S)))
    ∷ (5, ltb 0 (shelf.count S) && not (shelf.chained S 0))
    ∷ (6, not (all_below (shelf.count S) (shelf.chained S)))
    ∷ end_rules private S

-- "a count n (0 to 64); then n entries"
abbrev pub shelf_rules : Bool → List ℕ → List (ℕ × Bool)
shelf_rules private S =
    (1, ltb (length S) 2)
    ∷ (2, ltb 64 (shelf.count S))
    ∷ (3, ltb (length S) (2 + 8 * shelf.count S))
    ∷ entry_rules private S

-- the rule that a shelf breaks first
unfoldable pub shelf_rule : Bool → List ℕ → ℕ
shelf_rule private S = answered (shelf_rules private S)

-- ---- a record: its form (number 5)

-- "kb (1 to 20), m (3 to 12), t (1 to 3)"; "x extension rows (0 to 37, m + x at most 40)"; "a type other than 1 or 2"; "Type 1 requires .. x 0"
abbrev pub header_rules : ℕ → ℕ → ℕ → ℕ → ℕ → List (ℕ × Bool)
header_rules kb' m' x' kind' t' =
    (2, not (within 1 20 kb'))
    ∷ (3, not (within 3 12 m'))
    ∷ (4, ltb 37 x')
    ∷ (5, ltb 40 (m' + x'))
    ∷ (6, not (within 1 2 kind'))
    ∷ (7, eqb kind' 1 && not (eqb x' 0))
    ∷ (8, not (within 1 3 t'))
    ∷ []

-- an offset is the one that is due
unfoldable pub linked : List ℕ → ℕ → Bool
linked R i = eqb (offset R i) (offset_due R i)

-- "255 for empty, else a shift below its z"
abbrev pub shift_rules : List ℕ → List (ℕ × Bool)
shift_rules R = (15, not (all_below (t R) (table_right R))) ∷ []

-- "and the record ends with the last table"
abbrev pub table_rules : List ℕ → List (ℕ × Bool)
table_rules R = (14, not (ends_right R)) ∷ shift_rules R

-- "the first offset is 10 + 4t", each next one a table's size further: 13 is looked at where 12 is not broken, and so is about a next one
abbrev pub offset_rules : List ℕ → List (ℕ × Bool)
offset_rules R = (12, not (linked R 0)) ∷ (13, not (all_below (t R) (linked R))) ∷ table_rules R

-- "then t pairs of z (1 to 81, strictly rising) and offset"
abbrev pub pair_rules : List ℕ → List (ℕ × Bool)
pair_rules R =
    (9, ltb (length R) (10 + 4 * t R))
    ∷ (10, not (all_below (t R) (λ i. within 1 81 (z R i))))
    ∷ (11, not (all_below (t R) (rises R)))
    ∷ offset_rules R

abbrev pub form_rules : List ℕ → List (ℕ × Bool)
form_rules R = (1, ltb (length R) 10) ∷ (header_rules (kb R) (m R) (x R) (kind R) (t R) ++ pair_rules R)

-- ---- a table (number 6)

-- ".. and exactly one row between. The two outer shifts are equal and the middle one is 0."
abbrev pub between_rules : ℕ → (ℕ → ℕ) → List (ℕ × Bool)
between_rules m' col =
    (18, not (eqb (filled_between m' col) 1))
    ∷ (19, not (eqb (col 0) (col (m' - 1))))
    ∷ (20, not (all_below (m' - 2) (λ i. not (filled (col (suc i))) || eqb (col (suc i)) 0)))
    ∷ []

-- "column kb is filled in row 0, row m−1 .."
abbrev pub first_rules : ℕ → (ℕ → ℕ) → List (ℕ × Bool)
first_rules m' col = (16, not (filled (col 0))) ∷ (17, not (filled (col (m' - 1)))) ∷ between_rules m' col

-- extension row m + i holds 0 in its own column
unfoldable pub own_zero : List ℕ → ℕ → ℕ → ℕ → ℕ → Bool
own_zero T kb' m' columns' i = eqb (entry T columns' (m' + i) (kb' + (m' + i))) 0

-- "In extension row m+i, column kb+m+i holds 0, later columns are empty": 23 where the first extension row that is wrong lacks its own 0, else 24
abbrev pub extension_rules : List ℕ → ℕ → ℕ → ℕ → ℕ → List (ℕ × Bool)
extension_rules T kb' m' x' columns' =
    (23, not (all_below x' (extension_row T kb' m' x' columns')) && not (own_zero T kb' m' columns' (first_not x' (extension_row T kb' m' x' columns'))))
    ∷ (24, not (all_below x' (extension_row T kb' m' x' columns')))
    ∷ []

-- "staircase rows are empty in all extension columns"
abbrev pub row_rules : List ℕ → ℕ → ℕ → ℕ → ℕ → List (ℕ × Bool)
row_rules T kb' m' x' columns' = (22, not (all_below m' (row_ends T kb' m' x' columns'))) ∷ extension_rules T kb' m' x' columns'

-- "Column kb+j, for j from 1 to m−1, holds 0 in rows j−1 and j and is empty elsewhere."
abbrev pub stair_rules : List ℕ → ℕ → ℕ → ℕ → ℕ → List (ℕ × Bool)
stair_rules T kb' m' x' columns' =
    (21, not (all_below (m' - 1) (λ i. next_column m' (suc i) (λ row. entry T columns' row (kb' + suc i))))) ∷ row_rules T kb' m' x' columns'

-- the rule that a table breaks first
unfoldable pub table_rule : List ℕ → ℕ → ℕ → ℕ → ℕ → ℕ
table_rule T kb' m' x' columns' = answered (first_rules m' (λ row. entry T columns' row kb') ++ stair_rules T kb' m' x' columns')

-- a table of the record is a staircase with its extension
unfoldable pub stairs : List ℕ → ℕ → Bool
stairs R i = staircase (table R i) (kb R) (m R) (columns R) && extended (table R i) (kb R) (m R) (x R) (columns R)

-- of a record that is well formed, the rule of the first table that breaks one
unfoldable pub stair_rule : List ℕ → ℕ
stair_rule R = cond (staircases R) 0 (table_rule (table R (first_not (t R) (stairs R))) (kb R) (m R) (x R) (columns R))

-- the rule that a record breaks first: 5 goes before 6 over the whole record
unfoldable pub record_rule : List ℕ → ℕ
record_rule R = or_else (answered (form_rules R)) (stair_rule R)

-- the number that a record is refused with for a rule
unfoldable pub number_of : ℕ → ℕ
number_of zero = 0
number_of (suc rule) = cond (leb (suc rule) 15) 5 6
