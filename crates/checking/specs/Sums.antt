-- The sums of the rows of the spread-out matrix over a word (document 01, "Shelf and profile records"), for those who look for the odd ones.
use Rattle.std.specs.Prelude.{List, ℕ, ◌*◌}
use Rattle.bits.specs.Ranges.{parity_below, list_below}
use Rattle.parity.specs.Matrix.{spread, bit_at}

-- what a row of the spread-out matrix sums to over the word, modulo two: 0 where it is even
unfoldable pub row_sum : List ℕ → ℕ → ℕ → List ℕ → ℕ → ℕ
row_sum T columns z w row = parity_below (columns * z) (λ place. spread T columns z row place * bit_at w place)

-- of all rows, in their order
unfoldable pub row_sums : List ℕ → ℕ → ℕ → ℕ → List ℕ → List ℕ
row_sums T rows columns z w = list_below (rows * z) (row_sum T columns z w)
