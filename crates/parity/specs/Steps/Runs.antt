-- What the loops of the quick way promise each other, place by place.
use Rattle.std.specs.Prelude.{◌≡◌, Bool, not, cond, List, ℕ, suc, ◌+◌, ◌*◌, ◌%◌, ◌≤◌, ◌<◌, eqb, ltb, length, get_or, take, drop}
use Rattle.bits.specs.Bits.{AreBits, some_over}
use Rattle.bits.specs.Ranges.{sum_below}
use Rattle.profile.specs.Record.{empty}
use Rattle.parity.specs.Steps.Grouped.{low_bit, row_part, Shape}

-- the sums of a row stand in a run of so many lanes, of which the first z are its own
abbrev pub lanes : ℕ
lanes = 96

-- how many of them are added at once: all, or the row's own where they are few
unfoldable pub span : ℕ → ℕ
span z = cond (ltb 16 z) lanes z

-- b is a, but that the n places from `at` on hold f 0 .. f (n − 1)
pub record Run (n : ℕ) (f : ℕ → ℕ) (a : List ℕ) (at : ℕ) (b : List ℕ) : Type 0 where
  pub len : length b ≡ length a
  pub inside : (k : ℕ) → k < n → get_or b (at + k) 0 ≡ f k
  pub below : (p : ℕ) → p < at → get_or b p 0 ≡ get_or a p 0
  pub above : (p : ℕ) → at + n ≤ p → get_or b p 0 ≡ get_or a p 0

-- the bits of g from `from` on; a's places from `at` on with the bits of g added
unfoldable pub copied : List ℕ → ℕ → ℕ → ℕ
copied g from k = low_bit g (from + k)

unfoldable pub added : List ℕ → ℕ → List ℕ → ℕ → ℕ → ℕ
added a at g from k = (get_or a (at + k) 0 + get_or g (from + k) 0) % 2

-- a's places from `at` on with what the entry s adds of a doubled group g: nothing where it is empty, else the bits from s on
unfoldable pub entered : List ℕ → ℕ → ℕ → List ℕ → ℕ → ℕ
entered a at s g k = (get_or a (at + k) 0 + cond (eqb s empty) 0 (get_or g (s + k) 0)) % 2

-- g holds the group of z bits from `base` on twice, one after the other
pub record Doubled (w : List ℕ) (base z : ℕ) (g : List ℕ) : Type 0 where
  pub bits : AreBits g
  pub at : (k : ℕ) → k < z + z → get_or g k 0 ≡ low_bit w (base + k % z)

-- s holds the sums of all rows, each in its lanes: the rows before r over the first n + 1 columns of the word, the others over the first n
pub record Sums (T : List ℕ) (rows columns z : ℕ) (w : List ℕ) (n r : ℕ) (s : List ℕ) : Type 0 where
  pub size : length s ≡ rows * lanes
  pub bits : AreBits s
  pub done : (i u : ℕ) → i < r → u < z → get_or s (i * lanes + u) 0 ≡ row_part T columns z w (suc n) i u % 2
  pub left : (i u : ℕ) → r ≤ i → i < rows → u < z → get_or s (i * lanes + u) 0 ≡ row_part T columns z w n i u % 2

-- s holds the sums of a table's rows over the first n columns of a word that is as long as the table is wide
pub record Adding (T : List ℕ) (rows columns z : ℕ) (w : List ℕ) (n : ℕ) (s : List ℕ) : Type 0 where
  pub shape : Shape T rows columns z
  pub long : length w ≡ columns * z
  pub sums : Sums T rows columns z w n 0 s

-- the z sums of row i of s are 0
unfoldable pub even_row : List ℕ → ℕ → ℕ → Bool
even_row s z i = not (some_over 0 (take z (drop (i * lanes) s)))

-- lane u of the rows 0 .. r − 1 of s together
unfoldable pub down : List ℕ → ℕ → ℕ → ℕ
down s r u = sum_below r (λ i. get_or s (i * lanes + u) 0)

-- as bits: all m rows of the staircase, whatever the column; the rows down to that of step j
unfoldable pub all_rows : List ℕ → ℕ → ℕ → ℕ → ℕ
all_rows s m j u = down s m u % 2

unfoldable pub rows_above : List ℕ → ℕ → ℕ → ℕ
rows_above s j u = down s (suc j) u % 2

-- b is a, but that n groups of z places from `at` on hold f
pub record Groups (z n : ℕ) (f : ℕ → ℕ → ℕ) (a : List ℕ) (at : ℕ) (b : List ℕ) : Type 0 where
  pub len : length b ≡ length a
  pub inside : (j u : ℕ) → j < n → u < z → get_or b (at + j * z + u) 0 ≡ f j u
  pub below : (p : ℕ) → p < at → get_or b p 0 ≡ get_or a p 0

-- s holds the bits of m rows, few enough, of z sums each
pub record Stacked (s : List ℕ) (m z : ℕ) : Type 0 where
  pub size : m * lanes ≤ length s
  pub bits : AreBits s
  pub m_some : 0 < m
  pub m_most : m ≤ 40
  pub z_most : z ≤ 81

-- g holds the sums of the rows 0 .. r − 1 of s, lane by lane
pub record Together (s : List ℕ) (r : ℕ) (g : List ℕ) : Type 0 where
  pub bits : AreBits g
  pub at : (u : ℕ) → u < lanes → get_or g u 0 ≡ down s r u % 2
