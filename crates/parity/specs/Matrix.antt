-- The parity check, spread out (document 01, "Shelf and profile records"; 5.1.3.2 of 5G.212). T is a table of so many rows and columns;
-- it stands for a matrix of rows·z rows over columns·z places.
use Rattle.std.specs.Prelude.{Bool, cond, List, ℕ, ◌+◌, ◌*◌, ◌/◌, ◌%◌, eqb, get_or}
use Rattle.bits.specs.Ranges.{parity_below, all_below}
use Rattle.profile.specs.Record.{entry, empty}

-- "Shift s stands for the z by z matrix whose row i has its one in column (i+s) mod z. Empty stands for zeros."
unfoldable pub square : ℕ → ℕ → ℕ → ℕ → ℕ
square z s i j = cond (eqb s empty) 0 (cond (eqb j ((i + s) % z)) 1 0)

-- the spread-out matrix: each entry becomes its square
unfoldable pub spread : List ℕ → ℕ → ℕ → ℕ → ℕ → ℕ
spread T columns z row place = square z (entry T columns (row / z) (place / z)) (row % z) (place % z)

-- the bit at a place of a word, which holds 0, 1 or the filler mark 2; "filler read as 0"
unfoldable pub bit_at : List ℕ → ℕ → ℕ
bit_at w place = cond (eqb (get_or w place 0) 2) 0 (get_or w place 0)

-- "a word has (kb+m+x)·z bits" (document 02, CR 3), and it "checks when every row of the spread-out matrix sums to an even number over it"
unfoldable pub row_even : List ℕ → ℕ → ℕ → List ℕ → ℕ → Bool
row_even T columns z w row = eqb (parity_below (columns * z) (λ place. spread T columns z row place * bit_at w place)) 0

unfoldable pub checks : List ℕ → ℕ → ℕ → ℕ → List ℕ → Bool
checks T rows columns z w = all_below (rows * z) (row_even T columns z w)
