-- A profile record (document 01, "Shelf and profile records", with the header and the extension of document 02, CR 3): its parts, and when it is well
-- formed. R is the record's octets.
use Rattle.std.specs.Prelude.{Bool, true, ◌&&◌, ◌||◌, List, ℕ, zero, suc, ◌+◌, ◌*◌, eqb, leb, ltb, length, get_or, take, drop}
use Rattle.bits.specs.Bits.{number_at}
use Rattle.bits.specs.Ranges.{all_below, within}

-- ---- "The profile header becomes kb, m, x, type, t"; "then t pairs of z (1 to 81, strictly rising) and offset; then t tables"

unfoldable pub kb : List ℕ → ℕ
kb R = number_at R 0

unfoldable pub m : List ℕ → ℕ
m R = number_at R 2

unfoldable pub x : List ℕ → ℕ
x R = number_at R 4

-- the type, 1 or 2
unfoldable pub kind : List ℕ → ℕ
kind R = number_at R 6

unfoldable pub t : List ℕ → ℕ
t R = number_at R 8

unfoldable pub z : List ℕ → ℕ → ℕ
z R i = number_at R (10 + 4 * i)

unfoldable pub offset : List ℕ → ℕ → ℕ
offset R i = number_at R (12 + 4 * i)

-- "a table has m + x rows ..": those of the staircase and those of the extension
unfoldable pub rows : List ℕ → ℕ
rows R = m R + x R

-- ".. of kb+m+x entries": a column for each group of z places of a coded block
unfoldable pub columns : List ℕ → ℕ
columns R = kb R + rows R

unfoldable pub table_size : List ℕ → ℕ
table_size R = rows R * columns R

unfoldable pub table : List ℕ → ℕ → List ℕ
table R i = take (table_size R) (drop (offset R i) R)

-- the entry in a row and a column of a table T of so many columns
unfoldable pub entry : List ℕ → ℕ → ℕ → ℕ → ℕ
entry T columns' row column = get_or T (row * columns' + column) 0

-- what it holds where there is no shift
abbrev pub empty : ℕ
empty = 255

-- ---- well formed, part by part

-- "x extension rows (0 to 37, m + x at most 40)"; 5 for "a type other than 1 or 2"; "Type 1 requires .. x 0"
unfoldable pub kind_right : List ℕ → Bool
kind_right R = leb (x R) 37 && leb (rows R) 40 && within 1 2 (kind R) && (eqb (kind R) 2 || eqb (x R) 0)

-- "kb (1 to 20), m (3 to 12), t (1 to 3)"
unfoldable pub header_right : List ℕ → Bool
header_right R = within 1 20 (kb R) && within 3 12 (m R) && kind_right R && within 1 3 (t R)

-- "z (1 to 81, strictly rising)"
unfoldable pub rises : List ℕ → ℕ → Bool
rises R zero = true
rises R (suc i) = ltb (z R i) (z R (suc i))

unfoldable pub sizes_right : List ℕ → Bool
sizes_right R = all_below (t R) (λ i. within 1 81 (z R i) && rises R i)

-- "the first offset is 10 + 4t", each next one a table's size further
unfoldable pub offset_due : List ℕ → ℕ → ℕ
offset_due R i = 10 + 4 * t R + i * table_size R

unfoldable pub offsets_right : List ℕ → Bool
offsets_right R = all_below (t R) (λ i. eqb (offset R i) (offset_due R i))

-- "and the record ends with the last table": where a table after the last would start
unfoldable pub ends_right : List ℕ → Bool
ends_right R = eqb (length R) (offset_due R (t R))

-- "255 for empty, else a shift below its z"
unfoldable pub shift_right : ℕ → ℕ → Bool
shift_right z' s = eqb s empty || ltb s z'

unfoldable pub table_right : List ℕ → ℕ → Bool
table_right R i = all_below (table_size R) (λ k. shift_right (z R i) (get_or (table R i) k 0))

unfoldable pub well_formed : List ℕ → Bool
well_formed R = header_right R && sizes_right R && offsets_right R && ends_right R && all_below (t R) (table_right R)
