-- The staircase as the code walks it: column kb by its filled rows, and then row by row the columns after it. T is a table of `columns` columns.
use Rattle.std.specs.Prelude.{◌≡◌, Bool, true, ◌&&◌, List, ℕ, zero, suc, ◌+◌, ◌-◌, ◌≤◌, ◌<◌, eqb, get_or}
use Rattle.bits.specs.Ranges.{all_below}
use Rattle.profile.specs.Record.{kb, m, x, columns, table, entry, empty}
use Rattle.profile.specs.Staircase.{next_due, staircase, extended}

-- what a column holds in each of its rows
abbrev pub column : List ℕ → ℕ → ℕ → ℕ → ℕ
column T columns j row = entry T columns row j

-- r is the first row from `from` on that a column C of m rows fills, or the last row
pub record NextFilled (C : ℕ → ℕ) (m from r : ℕ) : Type 0 where
  pub after : from ≤ r
  pub below : r < m
  pub none : (k : ℕ) → from ≤ k → k < r → C k ≡ empty
  pub some : suc r < m → C r ≡ empty → ⊥

-- column kb + j + 1 holds in a row what it is due; and so does each column after column kb
unfoldable pub next_right : List ℕ → ℕ → ℕ → ℕ → ℕ → Bool
next_right T kb columns row j = eqb (entry T columns row (kb + suc j)) (next_due (suc j) row)

unfoldable pub row_right : List ℕ → ℕ → ℕ → ℕ → ℕ → Bool
row_right T kb m columns row = all_below (m - 1) (next_right T kb columns row)

-- the k-th entry from `from` on is empty
unfoldable pub empty_from : List ℕ → ℕ → ℕ → Bool
empty_from T from k = eqb (get_or T (from + k) 0) empty

-- the entries of a row up to its column kb + row: the last of them is 0 and the others are empty
unfoldable pub before_right : List ℕ → ℕ → ℕ → Bool
before_right T first zero = true
before_right T first (suc n) = all_below n (empty_from T first) && eqb (get_or T (first + n) 0) 0

-- those behind it: 0 in the place `own`, and so many empty ones
unfoldable pub behind_right : List ℕ → ℕ → ℕ → Bool
behind_right T own later = eqb (get_or T own 0) 0 && all_below later (empty_from T (own + 1))

-- table i of a record is a staircase with its extension
abbrev pub stairs_at : List ℕ → ℕ → Bool
stairs_at R i = staircase (table R i) (kb R) (m R) (columns R) && extended (table R i) (kb R) (m R) (x R) (columns R)
