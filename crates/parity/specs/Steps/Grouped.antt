-- The parity check by groups of z places: what each entry of a table adds to a row's sum, and the staircase and its extension solved from the front.
use Rattle.std.specs.Prelude.{◌≡◌, cond, List, ℕ, zero, suc, ◌+◌, ◌*◌, ◌%◌, ◌≤◌, ◌<◌, eqb, ltb, length, get_or}
use Rattle.bits.specs.Ranges.{sum_below}
use Rattle.profile.specs.Record.{entry, empty}

-- the bit at a place as it is read without a test, by its lowest digit: that of the mark 2 is 0
unfoldable pub low_bit : List ℕ → ℕ → ℕ
low_bit w place = get_or w place 0 % 2

-- what the entry s adds to row u of its square, where the places of its column start at base
unfoldable pub entry_bit : ℕ → List ℕ → ℕ → ℕ → ℕ → ℕ
entry_bit z w s base u = cond (eqb s empty) 0 (low_bit w (base + (u + s) % z))

-- the entry in row i and column j
unfoldable pub term : List ℕ → ℕ → ℕ → List ℕ → ℕ → ℕ → ℕ → ℕ
term T columns z w i u j = entry_bit z w (entry T columns i j) (j * z) u

-- the sum in row u of the squares of row i, over the first n columns
unfoldable pub row_part : List ℕ → ℕ → ℕ → List ℕ → ℕ → ℕ → ℕ → ℕ
row_part T columns z w n i u = sum_below n (term T columns z w i u)

-- the rows 0 .. r − 1 together
unfoldable pub stack : List ℕ → ℕ → ℕ → List ℕ → ℕ → ℕ → ℕ → ℕ
stack T columns z w n r u = sum_below r (λ i. row_part T columns z w n i u)

-- column kb is the sum of the staircase's m rows over the systematic columns, column kb + n that of the rows before n over columns 0 .. kb, and past the
-- staircase that of row n over all columns before it
pub record Solved (T : List ℕ) (kb m rows columns z : ℕ) (w : List ℕ) : Type 0 where
  pub first : (u : ℕ) → u < z → low_bit w (kb * z + u) ≡ stack T columns z w kb m u % 2
  pub next : (n u : ℕ) → 0 < n → n < m → u < z → low_bit w ((kb + n) * z + u) ≡ stack T columns z w (suc kb) n u % 2
  pub later : (n u : ℕ) → m ≤ n → n < rows → u < z → low_bit w ((kb + n) * z + u) ≡ row_part T columns z w (kb + n) n u % 2

-- the same as one rule for every parity column: what column kb + n is the parity of
unfoldable pub due : List ℕ → ℕ → ℕ → ℕ → ℕ → List ℕ → ℕ → ℕ → ℕ
due T kb m columns z w zero u = stack T columns z w kb m u
due T kb m columns z w (suc n) u = cond (ltb (suc n) m) (stack T columns z w (suc kb) (suc n) u) (row_part T columns z w (kb + suc n) (suc n) u)

-- a word of `columns` groups of z places that has the places of sys in front, then bits, and solves the staircase and its extension
pub record Solution (T : List ℕ) (kb m rows columns z : ℕ) (sys w : List ℕ) : Type 0 where
  pub size : length w ≡ columns * z
  pub front : (p : ℕ) → p < kb * z → get_or w p 0 ≡ get_or sys p 0
  pub bits : (p : ℕ) → kb * z ≤ p → get_or w p 0 < 2
  pub solved : Solved T kb m rows columns z w

-- such a word on the way: its first k parity columns hold what they are due
pub record Begun (T : List ℕ) (kb m columns z : ℕ) (sys : List ℕ) (k : ℕ) (w : List ℕ) : Type 0 where
  pub size : length w ≡ columns * z
  pub front : (p : ℕ) → p < kb * z → get_or w p 0 ≡ get_or sys p 0
  pub laid : (n u : ℕ) → n < k → u < z → get_or w ((kb + n) * z + u) 0 ≡ due T kb m columns z w n u % 2

-- a table of so many rows and columns that goes with z, within the sizes of document 02, CR 3
pub record Shape (T : List ℕ) (rows columns z : ℕ) : Type 0 where
  pub size : length T ≡ rows * columns
  pub shifts : (k : ℕ) → (get_or T k 0 ≡ empty → ⊥) → get_or T k 0 < z
  pub z_some : 0 < z
  pub z_most : z ≤ 81
  pub rows_some : 0 < rows
  pub rows_most : rows ≤ 40
  pub columns_most : columns ≤ 60

-- and what coding asks: of its rows m are the staircase's, there is a column past kb for each row, and the word w is as long as the columns say
pub record Codable (T : List ℕ) (kb m rows columns z : ℕ) (w : List ℕ) : Type 0 where
  pub shape : Shape T rows columns z
  pub some : 0 < m
  pub tall : m ≤ rows
  pub wide : columns ≡ kb + rows
  pub long : length w ≡ columns * z
