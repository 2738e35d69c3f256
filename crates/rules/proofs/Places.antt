-- Laws of the places where rules are broken: of the rules of a header, of those of a table, and of the answers as a whole.
use mathlib.Core.Path.{◌≡◌, sym, ap, ◌∙◌, fun_ext}
use mathlib.Core.Bool.{Bool, true}
use mathlib.Core.List.{List}
use Prim.Native.Nat.{ℕ, suc, ◌+◌, ◌-◌, ◌*◌, ◌/◌, ◌%◌, ◌≤◌, ◌<◌}
use native.Mathlib.Omega.{arith}
use lib.Dec.{eqb}
use lib.ListN.{length, get_or}
use borrow.Author.Tests.{lt-leb, ne_eqb}
use Rattle.bits.specs.Ranges.{first_below}
use Rattle.bits.proofs.Ranges.{below_or, any_none, first-none, first-is}
use Rattle.profile.specs.Record.{kb, m, x, t, columns, table, entry, empty, offset, table_right}
use Rattle.profile.specs.Staircase.{filled}
use Rattle.profile.specs.Steps.Walk.{column, NextFilled, empty_from}
use Rattle.profile.specs.Steps.Shape.{shape_right}
use Rattle.profile.proofs.Stairs.{is-filled, is_unfilled}
use Rattle.rules.specs.declared.Broken.{Broken}
use Rattle.rules.specs.declared.Wrong.{Wrong}
use Rattle.rules.specs.declared.pairs.Sizes.{Sizes}
use Rattle.rules.specs.Rules.{first_not, stairs, shelf_rule, record_rule, number_of}
use Rattle.rules.specs.Places.{place_of, filled_from, middle_row, second_row, filled_column, table_row, table_column, shelf_entry, shelf_at, shelf_broken, record_table, entry_over, record_row, record_column, record_at, record_wrong}
use Rattle.rules.specs.Promises.{ShelfRule, RecordRule}
use Rattle.rules.specs.Steps.Sizes.{SizesOf, Told, ToldOf}
use Rattle.rules.proofs.Columns.{between_zero, between-some}
use Rattle.rules.proofs.Shelves.{formed-of}
use Rattle.rules.proofs.Records.{table-start, table-inside, record_number, record_most}

-- ---- the whole answer of a shelf

broken_of : ℕ → ℕ → ℕ → Broken
broken_of n k a = record { rule = n; entry = k; at = a }

broken_same : {n n' k k' a a' : ℕ} → n ≡ n' → k ≡ k' → a ≡ a' → broken_of n k a ≡ broken_of n' k' a'
broken_same p q r = cc

pub shelf-told : (private : Bool) (S : List ℕ) (r : Broken) → r.rule ≡ shelf_rule private S → r.entry ≡ shelf_entry private S r.rule
    → r.at ≡ shelf_at private S r.rule → r.at ≤ length S → ShelfRule private S r
unfolding broken_of shelf_broken
shelf-told private S r first entry_is at_is inside =
    record {
      whole = broken_same first (entry_is ∙ ap (shelf_entry private S) first) (at_is ∙ ap (shelf_at private S) first);
      first = first;
      formed = formed-of S private r.rule first;
      inside = inside;
    }

-- ---- and of a record

wrong_of : ℕ → ℕ → ℕ → ℕ → ℕ → Wrong
wrong_of n i row col a = record { rule = n; table = i; row = row; column = col; at = a }

wrong_same : {n n' i i' row row' col col' a a' : ℕ} → n ≡ n' → i ≡ i' → row ≡ row' → col ≡ col' → a ≡ a'
    → wrong_of n i row col a ≡ wrong_of n' i' row' col' a'
wrong_same p q r s t = cc

pub record_told : (R : List ℕ) (r : Wrong) → Told R (record_rule R) r → RecordRule R r
unfolding wrong_of record_wrong
record_told R r told =
    let first = told.first in
    record {
      whole = wrong_same first (told.table_is ∙ ap (record_table R) first) (told.row_is ∙ ap (record_row R) first)
          (told.column_is ∙ ap (record_column R) first) (told.at_is ∙ ap (record_at R) first);
      first = first;
      number = record_number R ∙ ap number_of (sym first);
      known = omega (arith, first, record_most R);
      inside = told.inside;
    }

module _ (R : List ℕ) where
  -- ---- the rules of a table

  module _ (n : ℕ) (l : 16 ≤ n) (i : ℕ) (is : i ≡ first_not (t R) (stairs R)) where
    pub stair-table : i ≡ record_table R n
    unfolding record_table
    stair-table = rw (lt-leb n 15 (omega (arith, l))) is

    pub stair-row : record_row R n ≡ table_row (table R i) (kb R) (m R) (x R) (columns R) n
    unfolding record_row
    stair-row = rw (← stair-table, ne_eqb n 15 (λ e. omega (arith, l, e)))

    pub stair-column : record_column R n ≡ table_column (table R i) (kb R) (m R) (x R) (columns R) n
    unfolding record_column
    stair-column = rw (← stair-table, ne_eqb n 15 (λ e. omega (arith, l, e)))

  -- ---- rule 15

  module _ (i : ℕ) (is : i ≡ first_not (t R) (table_right R)) where
    pub over-table : i ≡ record_table R 15
    unfolding place_of record_table
    over-table = is

    pub over-row : record_row R 15 ≡ entry_over R i / columns R
    unfolding record_row
    over-row = rw over-table

    pub over-column : record_column R 15 ≡ entry_over R i % columns R
    unfolding record_column
    over-column = rw over-table

  -- ---- what is told of an entry

  at_entry : (n : ℕ) → 15 ≤ n → record_at R n ≡ offset R (record_table R n) + (record_row R n * columns R + record_column R n)
  unfolding record_at
  at_entry n l = rw (lt-leb n 14 l)

  module _ {s : Sizes} (o : SizesOf R s) (shape : shape_right R ≡ true) (n i row col : ℕ) (r : Wrong) where
    -- where its table, row and column are the rule's
    pub told-entry : ToldOf s n i row col r → 15 ≤ n → i < s.t → row * s.columns + col ≤ s.size → i ≡ record_table R n → row ≡ record_row R n
        → col ≡ record_column R n → Told R n r
    told-entry told l below room p q c =
        let rule = told.rule_is in
        let start = table-start R o shape i below in
        let place : row * s.columns + col ≡ record_row R n * columns R + record_column R n = cc (q, c, o.columns_is) in
        let from : offset R i ≡ offset R (record_table R n) = ap (offset R) p in
        let octet : r.at ≡ record_at R n = omega (arith, told.at_is, start, place, from, at_entry n l) in
        record {
          first = rule;
          table_is = told.table_is ∙ p ∙ sym (ap (record_table R) rule);
          row_is = told.row_is ∙ q ∙ sym (ap (record_row R) rule);
          column_is = told.column_is ∙ c ∙ sym (ap (record_column R) rule);
          at_is = octet ∙ sym (ap (record_at R) rule);
          inside = omega (arith, told.at_is, table-inside R o shape i below, room);
        }

-- ---- column kb

module _ (m : ℕ) (C : ℕ → ℕ) where
  module _ (from r : ℕ) (s : NextFilled C m from r) where
    abbrev test : ℕ → Bool
    test k = filled (C (from + k))

    abbrev room : ℕ
    room = m - 1 - from

    found : suc r < m → r ≡ from + first_below room test
    found l =
        let e : from + (r - from) ≡ r = omega (arith, s.after) in
        let is : first_below room test ≡ r - from =
        first-is room test (r - from)
        (record {
          below = omega (arith, s.after);
          holds = ap (λ (k : ℕ). filled (C k)) e ∙ is-filled (C r) (s.some l);
          none = λ j o. is_unfilled (C (from + j)) (s.none (from + j) (omega arith) (omega (arith, s.after)));
        }) in
        omega (arith, is, s.after)

    not_found : m ≤ suc r → r ≡ from + first_below room test
    not_found l =
        let is : first_below room test ≡ room =
        first-none room test (any_none room test (λ k h. is_unfilled (C (from + k)) (s.none (from + k) (omega arith) (omega (arith, s.below))))) in
        omega (arith, is, s.after, s.below)

    pub filled-from : r ≡ filled_from m C from
    unfolding filled_from
    filled-from = below_or (suc r) m found not_found

  pub middle-is : (r : ℕ) → NextFilled C m 1 r → r ≡ middle_row m C
  unfolding middle_row
  middle-is r s = filled-from 1 r s

  pub second_is : (r n : ℕ) → NextFilled C m 1 r → NextFilled C m (r + 1) n → n ≡ second_row m C
  unfolding second_row
  second_is r n s t = filled-from (r + 1) n t ∙ ap (λ (k : ℕ). filled_from m C (k + 1)) (middle-is r s)

module _ (T : List ℕ) (kb m x columns : ℕ) where
  -- what column kb holds in each row
  abbrev C : ℕ → ℕ
  C = column T columns kb

  pub row-none : (r : ℕ) → NextFilled C m 1 r → suc r ≡ m → 1 ≡ table_row T kb m x columns 18
  unfolding place_of table_row
  row-none r s e = rw (between_zero m C r s e)

  pub row-second : (r n : ℕ) → NextFilled C m 1 r → suc r < m → NextFilled C m (r + 1) n → n ≡ table_row T kb m x columns 18
  unfolding place_of table_row
  row-second r n s l t = rw (between-some m C r s l) (second_is m C r n s t)

  pub row-middle : (r : ℕ) → NextFilled C m 1 r → r ≡ table_row T kb m x columns 20
  unfolding place_of table_row
  row-middle r s = middle-is m C r s

  -- the first filled column of a row, as the code finds its entry
  pub filled-column : (row from start n k : ℕ) → start ≡ row * columns + from → k ≡ first_not n (empty_from T start)
      → from + k ≡ filled_column T columns row from n
  unfolding filled_column empty_from entry
  filled-column row from start n k e is =
      let same : empty_from T start ≡ (λ (j : ℕ). eqb (entry T columns row (from + j)) empty) =
      fun_ext (λ j. ap (λ (p : ℕ). eqb (get_or T p 0) empty) (omega (arith, e))) in
      ap (λ (j : ℕ). from + j) (is ∙ ap (first_not n) same)
