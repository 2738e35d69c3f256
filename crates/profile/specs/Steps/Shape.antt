-- What the tests of a record promise each other.
use Rattle.std.specs.Prelude.{◌≡◌, Bool, ◌&&◌, ◌||◌, List, ℕ, ◌+◌, ◌*◌, ◌≤◌, eqb, leb, length}
use Rattle.bits.specs.Ranges.{all_below, within}
use Rattle.profile.specs.Record.{kb, m, x, t, z, offset, columns, table, header_right, rises, offset_due, ends_right}

-- ---- well formed in the code's order, from the front, so that what is read is there

-- the header's numbers: kb, m and t; and m, x and the type, where m is known to be right
unfoldable pub ranges_right : ℕ → ℕ → ℕ → Bool
ranges_right kb' m' t' = within 1 20 kb' && within 3 12 m' && within 1 3 t'

unfoldable pub kind_fits : ℕ → ℕ → ℕ → Bool
kind_fits m' x' kind' = leb (m' + x') 40 && within 1 2 kind' && (eqb kind' 2 || eqb x' 0)

unfoldable pub front_right : List ℕ → Bool
front_right R = leb 10 (length R) && header_right R

-- a size and its offset
unfoldable pub size_right : List ℕ → ℕ → Bool
size_right R i = within 1 81 (z R i) && rises R i && eqb (offset R i) (offset_due R i)

-- all but the entries
unfoldable pub shape_right : List ℕ → Bool
shape_right R = front_right R && ends_right R && all_below (t R) (size_right R)

-- a table that is large enough for the staircase, with few enough columns
pub record Sized (T : List ℕ) (kb' m' columns' : ℕ) : Type 0 where
  pub size : m' * columns' ≤ length T
  pub wide : kb' + m' ≤ columns'
  pub columns_high : columns' ≤ 60
  pub m_low : 3 ≤ m'
  pub m_high : m' ≤ 12

-- a whole table: m rows of the staircase and x of the extension
pub record Whole (T : List ℕ) (kb' m' x' columns' : ℕ) : Type 0 where
  pub size : length T ≡ (m' + x') * columns'
  pub columns_are : columns' ≡ kb' + (m' + x')
  pub kb_high : kb' ≤ 20
  pub m_low : 3 ≤ m'
  pub m_high : m' ≤ 12
  pub rows_high : m' + x' ≤ 40

-- T is table i of the record, and so a whole one
pub record TableAt (R : List ℕ) (i : ℕ) (T : List ℕ) : Type 0 where
  pub same : T ≡ table R i
  pub whole : Whole T (kb R) (m R) (x R) (columns R)
