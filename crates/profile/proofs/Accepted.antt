-- What is known of a record that is judged with 0.
use mathlib.Core.Path.{◌≡◌, sym, ◌∙◌}
use mathlib.Core.Bool.{true, not, ◌&&◌}
use mathlib.Core.List.{List, [], ◌∷◌}
use Prim.Native.Nat.{ℕ, ◌+◌, ◌*◌, ◌≤◌, ◌<◌}
use lib.Dec.{lit<}
use lib.ListN.{length, get_or}
use borrow.Author.Tests.{not-false}
use Rattle.bits.specs.Ranges.{all_below}
use Rattle.bits.proofs.Ranges.{both, all-at}
use Rattle.bits.proofs.Answers.{passed}
use Rattle.profile.specs.Record.{kb, m, x, kind, t, z, offset, rows, columns, table_size, table, empty, offset_due, table_right, well_formed}
use Rattle.profile.specs.Staircase.{staircase, extended, staircases}
use Rattle.profile.specs.Promises.{judged}
use Rattle.profile.specs.Steps.Shape.{shape_right}
use Rattle.profile.proofs.Shape.{rows_is, columns_is, area-is, Shape, shape_is, table-long, rise, formed-is, entries_below}

pub record Accepted (R : List ℕ) : Type 0 where
  pub kb_low : 1 ≤ kb R
  pub kb_high : kb R ≤ 20
  pub m_low : 3 ≤ m R
  pub m_high : m R ≤ 12
  pub x_high : x R ≤ 37
  pub kind_low : 1 ≤ kind R
  pub kind_high : kind R ≤ 2
  pub plain : kind R ≡ 1 → x R ≡ 0
  pub t_low : 1 ≤ t R
  pub t_high : t R ≤ 3
  pub rows_low : 3 ≤ rows R
  pub rows_high : rows R ≤ 40
  pub rows_are : rows R ≡ m R + x R
  pub columns_low : 4 ≤ columns R
  pub columns_high : columns R ≤ 60
  pub columns_are : columns R ≡ kb R + rows R
  pub z_low : (i : ℕ) → i < t R → 1 ≤ z R i
  pub z_high : (i : ℕ) → i < t R → z R i ≤ 81
  pub rise : (i j : ℕ) → i < j → j < t R → z R i < z R j
  pub chained : (i : ℕ) → i < t R → offset R i ≡ offset_due R i
  pub inside : (i : ℕ) → i < t R → offset R i + table_size R ≤ length R
  pub area : table_size R ≡ rows R * columns R
  pub long : (i : ℕ) → i < t R → length (table R i) ≡ table_size R
  pub shifts : (i : ℕ) → i < t R → (k : ℕ) → (get_or (table R i) k 0 ≡ empty → ⊥) → get_or (table R i) k 0 < z R i
  pub stairs : (i : ℕ) → i < t R → staircase (table R i) (kb R) (m R) (columns R) ≡ true
  pub extended : (i : ℕ) → i < t R → extended (table R i) (kb R) (m R) (x R) (columns R) ≡ true

module _ (R : List ℕ) where
  -- the tests that a record with number 0 has passed
  pub tests_passed : judged R ≡ 0 → (shape_right R ≡ true) × (all_below (t R) (table_right R) ≡ true) × (staircases R ≡ true)
  unfolding judged
  tests_passed e =
      let five = passed 5 ((6, not (staircases R)) ∷ []) (not (well_formed R)) (lit< tt) e in
      let six = passed 6 [] (not (staircases R)) (lit< tt) five.1 in
      let formed = both (shape_right R) (all_below (t R) (table_right R)) (sym (formed-is R) ∙ not-false (well_formed R) five.0) in
      (formed.0, formed.1, not-false (staircases R) six.0)

  pub accepted-shape : judged R ≡ 0 → Shape R
  accepted-shape e = shape_is R (tests_passed e).0

  each_right : staircases R ≡ true → (i : ℕ) → i < t R
      → (staircase (table R i) (kb R) (m R) (columns R) ≡ true) × (extended (table R i) (kb R) (m R) (x R) (columns R) ≡ true)
  unfolding staircases
  each_right e i l =
      both (staircase (table R i) (kb R) (m R) (columns R)) (extended (table R i) (kb R) (m R) (x R) (columns R))
      (all-at (t R) (λ j. staircase (table R j) (kb R) (m R) (columns R) && extended (table R j) (kb R) (m R) (x R) (columns R)) e i l)

  pub accepted : judged R ≡ 0 → Accepted R
  accepted e =
      let tests = tests_passed e in
      let s = accepted-shape e in
      let low : (i : ℕ) → i < t R → 1 ≤ z R i = λ i l. (s.size i l).z_low in
      record {
        kb_low = s.header.kb_low;
        kb_high = s.header.kb_high;
        m_low = s.header.m_low;
        m_high = s.header.m_high;
        x_high = s.header.x_high;
        kind_low = s.header.kind_low;
        kind_high = s.header.kind_high;
        plain = s.header.plain;
        t_low = s.header.t_low;
        t_high = s.header.t_high;
        rows_low = s.header.rows_low;
        rows_high = s.header.rows_high;
        rows_are = rows_is R;
        columns_low = s.header.columns_low;
        columns_high = s.header.columns_high;
        columns_are = columns_is R;
        z_low = low;
        z_high = λ i l. (s.size i l).z_high;
        rise = rise R s;
        chained = λ i l. (s.size i l).chained;
        inside = s.inside;
        area = area-is R;
        long = table-long R s;
        shifts = λ i l. entries_below R i (low i l) (table-long R s i l) (all-at (t R) (table_right R) tests.1 i l);
        stairs = λ i l. (each_right tests.2 i l).0;
        extended = λ i l. (each_right tests.2 i l).1;
      }
