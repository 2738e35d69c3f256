-- The definition of an extension says that a table has one; and where the entries that the code reads stand.
use mathlib.Core.Path.{◌≡◌, sym, ap, ap₂, ◌∙◌}
use mathlib.Core.Bool.{Bool, true, ◌&&◌, ◌||◌}
use mathlib.Core.List.{List}
use Prim.Native.Nat.{ℕ, suc, ◌+◌, ◌-◌, ◌*◌, ◌≤◌, ◌<◌}
use native.Mathlib.Nat.{suc-mul, mul-le-mul, mul-le-mul_right}
use native.Mathlib.Omega.{arith}
use lib.Dec.{eqb, leb}
use lib.ListN.{length, get_or}
use borrow.Author.Tests.{eqb-true, le-leb, lt-leb}
use Rattle.bits.specs.Ranges.{all_below}
use Rattle.bits.proofs.Ranges.{below_or, both, all-at, all_of, all_same, either_way}
use Rattle.profile.specs.Record.{entry, empty}
use Rattle.profile.specs.Staircase.{row_ends, extension_row, extended}
use Rattle.profile.specs.Steps.Shape.{Sized, Whole}
use Rattle.profile.specs.Steps.Walk.{empty_from}

-- past the staircase each row's own column is kb + n for row n: it holds 0 there, and the column is empty in all rows before
pub record Extended (T : List ℕ) (kb m rows columns : ℕ) : Type 0 where
  pub own : (n : ℕ) → m ≤ n → n < rows → entry T columns n (kb + n) ≡ 0
  pub before : (i n : ℕ) → i < n → m ≤ n → n < rows → entry T columns i (kb + n) ≡ empty

module _ (T : List ℕ) (kb m x columns : ℕ) where
  -- extension column j is empty in a row; in extension row i, where it lies behind that row's own column
  abbrev empty_in : ℕ → ℕ → Bool
  empty_in row j = eqb (entry T columns row (kb + (m + j))) empty

  abbrev later_empty : ℕ → ℕ → Bool
  later_empty i j = leb j i || empty_in (m + i) j

  -- an extension row or column by its number among all
  past : {A : Type 0} (n : ℕ) → m ≤ n → n < m + x → ((i : ℕ) → i < x → m + i ≡ n → A) → A
  past n h l f = f (n - m) (omega arith) (omega arith)

  module _ (e : extended T kb m x columns ≡ true) where
    parts : (all_below m (row_ends T kb m x columns) ≡ true) × (all_below x (extension_row T kb m x columns) ≡ true)
    unfolding extended
    parts = both (all_below m (row_ends T kb m x columns)) (all_below x (extension_row T kb m x columns)) e

    ends : (i j : ℕ) → i < m → j < x → entry T columns i (kb + (m + j)) ≡ empty
    unfolding row_ends
    ends i j l h = eqb-true _ _ (all-at x (empty_in i) (all-at m (row_ends T kb m x columns) parts.0 i l) j h)

    right : (i : ℕ) → i < x → (eqb (entry T columns (m + i) (kb + (m + i))) 0 ≡ true) × (all_below x (later_empty i) ≡ true)
    unfolding extension_row
    right i l =
        both (eqb (entry T columns (m + i) (kb + (m + i))) 0) (all_below x (later_empty i)) (all-at x (extension_row T kb m x columns) parts.1 i l)

    later : (i j : ℕ) → i < j → j < x → entry T columns (m + i) (kb + (m + j)) ≡ empty
    later i j l h = eqb-true _ _ (rw (lt-leb j i l) at (all-at x (later_empty i) (right i (omega arith)).1 j h))

    pub extended-is : Extended T kb m (m + x) columns
    extended-is =
        record {
          own = λ n h l. past n h l (λ i o q. ap (λ (y : ℕ). entry T columns y (kb + y)) (sym q) ∙ eqb-true _ _ (right i o).0);
          before = λ i n o h l.
              past n h l
              (λ j b q.
              below_or i m (λ a. ap (λ (y : ℕ). entry T columns i (kb + y)) (sym q) ∙ ends i j a b)
              (λ a. past i a (omega arith) (λ k c p. ap₂ (λ (y v : ℕ). entry T columns y (kb + v)) (sym p) (sym q) ∙ later k j (omega arith) b)));
        }

-- ---- the tests as the code makes them: by places of the table

pub ends_at : (T : List ℕ) (kb m x columns row : ℕ) {r : Bool} {from n : ℕ}
    → r ≡ all_below n (empty_from T from) → from ≡ row * columns + (kb + m) → n ≡ x → r ≡ row_ends T kb m x columns row
unfolding row_ends empty_from entry
ends_at T kb m x columns row q f e =
    q ∙ ap₂ (λ (u v : ℕ). all_below u (empty_from T v)) e f
    ∙ all_same x _ _
    (λ j l.
    let place : row * columns + (kb + m) + j ≡ row * columns + (kb + (m + j)) = omega arith in
    ap (λ (y : ℕ). eqb (get_or T y 0) empty) place)

module _ (T : List ℕ) (kb m x columns i : ℕ) (below : i < x) where
  abbrev own : ℕ
  own = (m + i) * columns + (kb + (m + i))

  -- the columns behind the own one, counted from it
  later-place : (j : ℕ) → i < j → later_empty T kb m x columns i j ≡ empty_from T (own + 1) (j - (i + 1))
  unfolding empty_from entry
  later-place j l =
      let place : (m + i) * columns + (kb + (m + j)) ≡ own + 1 + (j - (i + 1)) = omega arith in
      rw (lt-leb j i l) (ap (λ (y : ℕ). eqb (get_or T y 0) empty) place)

  later-free : (j : ℕ) → j ≤ i → later_empty T kb m x columns i j ≡ true
  later-free j l = rw (le-leb j i l)

  later-all : all_below x (later_empty T kb m x columns i) ≡ all_below (x - (i + 1)) (empty_from T (own + 1))
  later-all =
      either_way _ _
      (λ e. all_of (x - (i + 1)) (empty_from T (own + 1))
      (λ k l.
      let back : i + 1 + k - (i + 1) ≡ k = omega arith in
      ap (empty_from T (own + 1)) (sym back) ∙ sym (later-place (i + 1 + k) (omega arith))
      ∙ all-at x (later_empty T kb m x columns i) e (i + 1 + k) (omega arith)))
      (λ e. all_of x (later_empty T kb m x columns i)
      (λ j l. below_or i j (λ o. later-place j o ∙ all-at (x - (i + 1)) (empty_from T (own + 1)) e (j - (i + 1)) (omega arith)) (later-free j)))

  pub extension_at : extension_row T kb m x columns i ≡ eqb (get_or T own 0) 0 && all_below (x - (i + 1)) (empty_from T (own + 1))
  unfolding extension_row entry
  extension_at = ap (λ (b : Bool). eqb (get_or T own 0) 0 && b) later-all

-- ---- a whole table

module _ {T : List ℕ} {kb m x columns : ℕ} (s : Whole T kb m x columns) where
  -- its first m rows are large enough for the staircase
  pub stepped : Sized T kb m columns
  stepped =
      record {
        size = omega (arith, s.size, mul-le-mul_right {m = m} {n = m + x} columns (omega arith));
        wide = omega (arith, s.columns_are);
        columns_high = omega (arith, s.columns_are, s.kb_high, s.rows_high);
        m_low = s.m_low;
        m_high = s.m_high;
      }

  -- each row lies inside it
  pub row-whole : (r : ℕ) → r < m + x → (r * columns + columns ≤ length T) × (length T ≤ 2400)
  row-whole r l =
      let columns_high : columns ≤ 60 = omega (arith, s.columns_are, s.kb_high, s.rows_high) in
      let all : (m + x) * columns ≤ 40 * 60 = mul-le-mul s.rows_high columns_high in (
        omega (arith, s.size, suc-mul r columns, mul-le-mul_right {m = suc r} {n = m + x} columns l),
        omega (arith, s.size),
      )
