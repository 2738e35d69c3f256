-- What a profile that is judged with 0 gives: tables of the right shape, which are staircases with their extensions; and what coding by them comes to.
use mathlib.Core.Path.{◌≡◌, ap, ◌∙◌}
use mathlib.Core.Bool.{true}
use mathlib.Core.List.{List}
use Prim.Native.Nat.{ℕ, ◌*◌, ◌≤◌, ◌<◌}
use native.Mathlib.Nat.{mul-le-mul}
use native.Mathlib.Omega.{arith}
use lib.Dec.{eqb}
use lib.ListN.{length}
use borrow.Author.Tests.{eqb-true}
use Rattle.bits.specs.Ranges.{first_below}
use Rattle.bits.proofs.Ranges.{first_some}
use Rattle.profile.specs.Record.{kb, m, x, t, z, rows, columns, table}
use Rattle.profile.specs.Promises.{judged}
use Rattle.profile.proofs.Accepted.{accepted}
use Rattle.profile.proofs.Extension.{extended-is}
use Rattle.profile.proofs.Stairs.{staircase-is}
use Rattle.parity.specs.Coded.{coded}
use Rattle.parity.specs.Promises.{has_size, table_for}
use Rattle.parity.specs.Steps.Gate.{Taken}
use Rattle.parity.specs.Steps.Grouped.{Shape, Codable, Solution}
use Rattle.parity.proofs.Rows.{Solvable}
use Rattle.parity.proofs.Coded.{solved-coded}

-- ---- each table of the profile

module _ (R : List ℕ) (e : judged R ≡ 0) (i : ℕ) (below : i < t R) where
  pub table-shape : Shape (table R i) (rows R) (columns R) (z R i)
  table-shape =
      let a = accepted R e in
      record {
        size = a.long i below ∙ a.area;
        shifts = a.shifts i below;
        z_some = a.z_low i below;
        z_most = a.z_high i below;
        rows_some = omega (arith, a.rows_low);
        rows_most = a.rows_high;
        columns_most = a.columns_high;
      }

  pub table-stairs : Solvable (table R i) (kb R) (m R) (rows R) (columns R)
  table-stairs =
      let a = accepted R e in
      record {
        tall = omega (arith, a.rows_are);
        wide = a.columns_are;
        stairs = staircase-is (table R i) (kb R) (m R) (columns R) (a.stairs i below);
        extension = rw a.rows_are (extended-is (table R i) (kb R) (m R) (x R) (columns R) (a.extended i below));
      }

  -- and what coding asks of it, for a word that is long enough
  pub table-codable : (w : List ℕ) → length w ≡ columns R * z R i → Codable (table R i) (kb R) (m R) (rows R) (columns R) (z R i) w
  table-codable w long =
      record { shape = table-shape; some = omega (arith, (accepted R e).m_low); tall = table-stairs.tall; wide = table-stairs.wide; long = long }

-- ---- the table of a size z'

pub record Ready (R : List ℕ) (z' : ℕ) : Type 0 where
  pub below : first_below (t R) (λ i. eqb (z R i) z') < t R
  pub shape : Shape (table_for R z') (rows R) (columns R) z'
  pub stairs : Solvable (table_for R z') (kb R) (m R) (rows R) (columns R)
  pub codable : (w : List ℕ) → length w ≡ columns R * z' → Codable (table_for R z') (kb R) (m R) (rows R) (columns R) z' w

pub ready : (R : List ℕ) (z' : ℕ) → judged R ≡ 0 → has_size R z' ≡ true → Ready R z'
unfolding has_size table_for
ready R z' e h =
    let i : ℕ = first_below (t R) (λ j. eqb (z R j) z') in
    let found = first_some (t R) (λ j. eqb (z R j) z') h in
    let size = eqb-true (z R i) z' found.holds in
    record {
      below = found.below;
      shape = rw size at (table-shape R e i found.below);
      stairs = table-stairs R e i found.below;
      codable = rw size at (table-codable R e i found.below);
    }

-- ---- what is read from the profile: the table T, and k, n, r and c for its kb, its m, its rows and its columns

-- the coded block is at most 60 groups of 81 places
pub places-most : (R : List ℕ) (z' : ℕ) → judged R ≡ 0 → has_size R z' ≡ true → (c : ℕ) → c ≡ columns R → c * z' ≤ 4860
places-most R z' e h c c-is =
    let shape = (ready R z' e h).shape in
    rw c-is (mul-le-mul shape.columns_most shape.z_most)

pub table_read : (R : List ℕ) (z' i : ℕ) (T : List ℕ) → T ≡ table R i → i ≡ first_below (t R) (λ j. eqb (z R j) z') → T ≡ table_for R z'
unfolding table_for
table_read R z' i T e q = e ∙ ap (table R) q

module _ (R : List ℕ) (z' : ℕ) (T : List ℕ) (k n r c : ℕ) (table_is : T ≡ table_for R z') (k-is : k ≡ kb R) (n-is : n ≡ m R) (r-is : r ≡ rows R)
    (c-is : c ≡ columns R) where
  pub codable_read : judged R ≡ 0 → has_size R z' ≡ true → (w : List ℕ) → length w ≡ columns R * z' → Codable T k n r c z' w
  codable_read e h w long = rw (table_is, k-is, n-is, r-is, c-is) ((ready R z' e h).codable w long)

  -- a word that was solved behind the places is their coded block
  pub coded_read : (places : List ℕ) → Taken R z' places → (w : List ℕ) → Solution T k n r c z' places w
      → w ≡ coded (table_for R z') (rows R) (columns R) z' places
  coded_read places taken w h =
      solved-coded (table_for R z') (rows R) (columns R) z' places (kb R) taken.long (ready R z' taken.judged taken.size).stairs w
      (rw (table_is, k-is, n-is, r-is, c-is) at h)
