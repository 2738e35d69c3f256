-- The staircase (document 01, "Shelf and profile records") and its extension (document 02, CR 3), column by column: col gives what a column holds in each
-- of its rows. "The staircase rule now speaks of the first m rows only."
use Rattle.std.specs.Prelude.{Bool, cond, not, ◌&&◌, ◌||◌, List, ℕ, suc, ◌+◌, ◌-◌, eqb, leb}
use Rattle.bits.specs.Ranges.{sum_below, all_below}
use Rattle.profile.specs.Record.{kb, m, x, t, columns, table, entry, empty}

unfoldable pub filled : ℕ → Bool
filled e = not (eqb e empty)

-- of the rows between row 0 and row m−1, how many are filled
unfoldable pub filled_between : ℕ → (ℕ → ℕ) → ℕ
filled_between m' col = sum_below (m' - 2) (λ i. cond (filled (col (suc i))) 1 0)

-- "column kb is filled in row 0, row m−1 and exactly one row between. The two outer shifts are equal and the middle one is 0."
unfoldable pub first_column : ℕ → (ℕ → ℕ) → Bool
first_column m' col =
    filled (col 0)
    && filled (col (m' - 1))
    && eqb (filled_between m' col) 1
    && eqb (col 0) (col (m' - 1))
    && all_below (m' - 2) (λ i. not (filled (col (suc i))) || eqb (col (suc i)) 0)

-- "Column kb+j, for j from 1 to m−1, holds 0 in rows j−1 and j and is empty elsewhere."
unfoldable pub next_due : ℕ → ℕ → ℕ
next_due j row = cond (eqb row (j - 1) || eqb row j) 0 empty

unfoldable pub next_column : ℕ → ℕ → (ℕ → ℕ) → Bool
next_column m' j col = all_below m' (λ row. eqb (col row) (next_due j row))

-- in the first m rows of a table T of so many columns
unfoldable pub staircase : List ℕ → ℕ → ℕ → ℕ → Bool
staircase T kb' m' columns' =
    first_column m' (λ row. entry T columns' row kb')
    && all_below (m' - 1) (λ i. next_column m' (suc i) (λ row. entry T columns' row (kb' + suc i)))

-- "staircase rows are empty in all extension columns"
unfoldable pub row_ends : List ℕ → ℕ → ℕ → ℕ → ℕ → ℕ → Bool
row_ends T kb' m' x' columns' row = all_below x' (λ j. eqb (entry T columns' row (kb' + (m' + j))) empty)

-- "In extension row m+i, column kb+m+i holds 0, later columns are empty, earlier ones are free"
unfoldable pub extension_row : List ℕ → ℕ → ℕ → ℕ → ℕ → ℕ → Bool
extension_row T kb' m' x' columns' i =
    eqb (entry T columns' (m' + i) (kb' + (m' + i))) 0
    && all_below x' (λ j. leb j i || eqb (entry T columns' (m' + i) (kb' + (m' + j))) empty)

-- "After the m staircase rows come x extension rows"
unfoldable pub extended : List ℕ → ℕ → ℕ → ℕ → ℕ → Bool
extended T kb' m' x' columns' = all_below m' (row_ends T kb' m' x' columns') && all_below x' (extension_row T kb' m' x' columns')

-- "in each table"; 6 also "for a bad extension"
unfoldable pub staircases : List ℕ → Bool
staircases R = all_below (t R) (λ i. staircase (table R i) (kb R) (m R) (columns R) && extended (table R i) (kb R) (m R) (x R) (columns R))
