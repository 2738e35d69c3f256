-- What the plain checker asks of a table, so that what it reads is there.
use Rattle.std.specs.Prelude.{◌≡◌, List, ℕ, suc, ◌*◌, ◌/◌, ◌≤◌, ◌<◌, length, get_or}
use Rattle.profile.specs.Record.{empty}

-- the table T of so many columns goes with z, and holds the entries that a row of its spread-out matrix is made of
pub record HasRow (T : List ℕ) (columns z row : ℕ) : Type 0 where
  pub z_some : 0 < z
  pub z_most : z ≤ 81
  pub columns_most : columns ≤ 60
  pub shifts : (k : ℕ) → (get_or T k 0 ≡ empty → ⊥) → get_or T k 0 < z
  pub entries : suc (row / z) * columns ≤ length T
