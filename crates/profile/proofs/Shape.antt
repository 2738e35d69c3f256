-- What the tests of a record's header, sizes, offsets, end and entries say, and that the code's order of them is the definition's.
use mathlib.Core.Path.{◌≡◌, refl, sym, ap, ◌∙◌}
use mathlib.Core.Bool.{Bool, true, false, ◌&&◌, ◌||◌}
use mathlib.Core.List.{List}
use Prim.Native.Nat.{ℕ, zero, suc, ◌+◌, ◌-◌, ◌*◌, ◌≤◌, ◌<◌}
use native.Mathlib.Nat.{suc-mul, mul-le-mul_right}
use native.Mathlib.Numerals.{add-one, sub-one}
use native.Mathlib.Omega.{arith}
use lib.Dec.{eqb, leb, ltb}
use lib.ListN.{length, get_or, get_or-eq_default}
use borrow.Author.Tests.{ltb-true, leb-true, eqb-true, lt-ltb, le-ltb, le-leb, ne_eqb}
use Rattle.bits.specs.Ranges.{all_below, within}
use Rattle.bits.proofs.Ranges.{last_or, below_or, both, all-at, all_of, within-is, either_way}
use Rattle.bits.proofs.Lists.{length_part}
use Rattle.profile.specs.Record.{kb, m, x, kind, t, z, offset, rows, columns, table_size, table, empty, kind_right, header_right, rises, sizes_right, offset_due, offsets_right, ends_right, shift_right, table_right, well_formed}
use Rattle.profile.specs.Steps.Shape.{ranges_right, kind_fits, front_right, size_right, shape_right, Whole}

-- ---- a test is the one that is asked for, however it is written

pub less-test : (r : Bool) (x y : ℕ) → (r ≡ true → x < y) → (r ≡ false → y ≤ x) → r ≡ ltb x y
less-test true x y f g = sym (lt-ltb x y (f refl))
less-test false x y f g = sym (le-ltb x y (g refl))

-- ---- a test of each number below n that a straight loop makes: nothing, then one more at a time

module _ (p : ℕ → Bool) where
  pub all_none : true ≡ all_below 0 p
  unfolding all_below
  all_none = refl

  pub all_more : (n : ℕ) {a b : Bool} → a ≡ all_below n p → b ≡ p n → a && b ≡ all_below (n + 1) p
  unfolding all_below
  all_more n e q = rw (add-one n, e, q)

-- ---- a table's rows and columns

module _ (R : List ℕ) where
  pub rows_is : rows R ≡ m R + x R
  unfolding rows
  rows_is = refl

  pub columns_is : columns R ≡ kb R + rows R
  unfolding columns
  columns_is = refl

  pub area-is : table_size R ≡ rows R * columns R
  unfolding table_size
  area-is = refl

-- ---- the header

pub record Header (R : List ℕ) : Type 0 where
  pub long : 10 ≤ length R
  pub kb_low : 1 ≤ kb R
  pub kb_high : kb R ≤ 20
  pub m_low : 3 ≤ m R
  pub m_high : m R ≤ 12
  pub x_high : x R ≤ 37
  pub kind_low : 1 ≤ kind R
  pub kind_high : kind R ≤ 2
  pub plain : kind R ≡ 1 → x R ≡ 0
  pub t_low : 1 ≤ t R
  pub t_high : t R ≤ 3
  pub rows_low : 3 ≤ rows R
  pub rows_high : rows R ≤ 40
  pub columns_low : 4 ≤ columns R
  pub columns_high : columns R ≤ 60

-- tests may change places, and one that follows from another may be left out
in_turn : (a b c : Bool) → a && b && c ≡ a && c && b
in_turn true true true = refl
in_turn true true false = refl
in_turn true false true = refl
in_turn true false false = refl
in_turn false b c = refl

left_out : (a b : Bool) → (b ≡ true → a ≡ true) → a && b ≡ b
left_out a true f = rw (f refl)
left_out true false f = refl
left_out false false f = refl

pub record Ranges (k n s : ℕ) : Type 0 where
  pub kb_low : 1 ≤ k
  pub kb_high : k ≤ 20
  pub m_low : 3 ≤ n
  pub m_high : n ≤ 12
  pub t_low : 1 ≤ s
  pub t_high : s ≤ 3

pub ranges_are : (k n s : ℕ) → ranges_right k n s ≡ true → Ranges k n s
unfolding ranges_right
ranges_are k n s e =
    let two = both (within 1 20 k && within 3 12 n) (within 1 3 s) e in
    let one = both (within 1 20 k) (within 3 12 n) two.0 in
    let a = within-is 1 20 k one.0 in
    let b = within-is 3 12 n one.1 in
    let c = within-is 1 3 s two.1 in
    record { kb_low = a.0; kb_high = a.1; m_low = b.0; m_high = b.1; t_low = c.0; t_high = c.1 }

module _ (R : List ℕ) where
  kind-is : kind_right R ≡ true → (x R ≤ 37) × (rows R ≤ 40) × (1 ≤ kind R) × (kind R ≤ 2) × (kind R ≡ 1 → x R ≡ 0)
  unfolding kind_right
  kind-is e =
      let three = both (leb (x R) 37 && leb (rows R) 40 && within 1 2 (kind R)) (eqb (kind R) 2 || eqb (x R) 0) e in
      let two = both (leb (x R) 37 && leb (rows R) 40) (within 1 2 (kind R)) three.0 in
      let one = both (leb (x R) 37) (leb (rows R) 40) two.0 in
      let range = within-is 1 2 (kind R) two.1 in (
        leb-true (x R) 37 one.0,
        leb-true (rows R) 40 one.1,
        range.0,
        range.1,
        λ q. eqb-true (x R) 0 (rw (ne_eqb (kind R) 2 (λ d. omega arith)) at three.1),
      )

  -- from 3 rows of the staircase on, 40 rows leave 37 for the extension
  kind-is_right : 3 ≤ m R → kind_right R ≡ kind_fits (m R) (x R) (kind R)
  unfolding kind_right kind_fits rows
  kind-is_right low =
      let few : leb (m R + x R) 40 ≡ true → leb (x R) 37 ≡ true = λ e. le-leb (x R) 37 (omega (arith, leb-true (m R + x R) 40 e)) in
      ap (λ (b : Bool). b && within 1 2 (kind R) && (eqb (kind R) 2 || eqb (x R) 0)) (left_out (leb (x R) 37) (leb (m R + x R) 40) few)

  header-in-turn : header_right R ≡ ranges_right (kb R) (m R) (t R) && kind_right R
  unfolding header_right ranges_right
  header-in-turn = in_turn (within 1 20 (kb R) && within 3 12 (m R)) (kind_right R) (within 1 3 (t R))

  -- the code's three tests of the header, in their order

  pub front-second : 10 ≤ length R → ranges_right (kb R) (m R) (t R) ≡ false → false ≡ front_right R
  unfolding front_right
  front-second l a = rw (le-leb 10 (length R) l, header-in-turn, a)

  pub front-third : 10 ≤ length R → ranges_right (kb R) (m R) (t R) ≡ true
      → (r : Bool) → r ≡ kind_fits (m R) (x R) (kind R) → r ≡ front_right R
  unfolding front_right
  front-third l a r e =
      rw (le-leb 10 (length R) l, header-in-turn, a, kind-is_right (ranges_are (kb R) (m R) (t R) a).m_low) e

  pub header_is : front_right R ≡ true → Header R
  unfolding front_right
  header_is e =
      let there = both (leb 10 (length R)) (header_right R) e in
      let two = both (ranges_right (kb R) (m R) (t R)) (kind_right R) (sym header-in-turn ∙ there.1) in
      let n = ranges_are (kb R) (m R) (t R) two.0 in
      let k = kind-is two.1 in
      record {
        long = leb-true 10 (length R) there.0;
        kb_low = n.kb_low;
        kb_high = n.kb_high;
        m_low = n.m_low;
        m_high = n.m_high;
        x_high = k.0;
        kind_low = k.2;
        kind_high = k.3;
        plain = k.4;
        t_low = n.t_low;
        t_high = n.t_high;
        rows_low = omega (arith, n.m_low, rows_is R);
        rows_high = k.1;
        columns_low = omega (arith, n.kb_low, n.m_low, rows_is R, columns_is R);
        columns_high = omega (arith, n.kb_high, k.1, columns_is R);
      }

  -- ---- the length and the sizes

  pub rises-later : (i : ℕ) → (i ≡ 0 → ⊥) → rises R i ≡ ltb (z R (i - 1)) (z R i)
  unfolding rises
  rises-later zero n = absurd (n refl)
  rises-later (suc i) n = rw sub-one

  -- the record ends with the last table, so every pair is there
  pub ends : ends_right R ≡ true → length R ≡ 10 + 4 * t R + t R * table_size R
  unfolding ends_right offset_due
  ends e = eqb-true (length R) (offset_due R (t R)) e

  pub pair-there : ends_right R ≡ true → (i : ℕ) → i < t R → 14 + 4 * i ≤ length R
  pair-there e i l = omega (arith, ends e)

  -- the code's three tests of a size, and its three of the shape, in their order
  module _ (i : ℕ) where
    pub size-third : within 1 81 (z R i) ≡ true → rises R i ≡ true → (r : Bool) → r ≡ eqb (offset R i) (offset_due R i) → r ≡ size_right R i
    unfolding size_right
    size-third a b r e = rw (a, b) e

  pub shape-third : front_right R ≡ true → ends_right R ≡ true → (r : Bool) → r ≡ all_below (t R) (size_right R) → r ≡ shape_right R
  unfolding shape_right
  shape-third a b r e = rw (a, b) e

  pub record Size (i : ℕ) : Type 0 where
    pub z_low : 1 ≤ z R i
    pub z_high : z R i ≤ 81
    pub rising : rises R i ≡ true
    pub chained : offset R i ≡ offset_due R i

  pub size_is : (i : ℕ) → size_right R i ≡ true → Size i
  unfolding size_right
  size_is i e =
      let two = both (within 1 81 (z R i) && rises R i) (eqb (offset R i) (offset_due R i)) e in
      let one = both (within 1 81 (z R i)) (rises R i) two.0 in
      let range = within-is 1 81 (z R i) one.0 in
      record { z_low = range.0; z_high = range.1; rising = one.1; chained = eqb-true (offset R i) (offset_due R i) two.1 }

-- ---- all but the entries

pub record Shape (R : List ℕ) : Type 0 where
  pub right : front_right R ≡ true
  pub header : Header R
  pub pair : (i : ℕ) → i < t R → 14 + 4 * i ≤ length R
  pub size : (i : ℕ) → i < t R → Size R i
  pub inside : (i : ℕ) → i < t R → offset R i + table_size R ≤ length R

module _ (R : List ℕ) where
  pub shape_is : shape_right R ≡ true → Shape R
  unfolding shape_right offset_due
  shape_is e =
      let two = both (front_right R && ends_right R) (all_below (t R) (size_right R)) e in
      let one = both (front_right R) (ends_right R) two.0 in
      let size : (i : ℕ) → i < t R → Size R i = λ i l. size_is R i (all-at (t R) (size_right R) two.1 i l) in
      record {
        right = one.0;
        header = header_is R one.0;
        pair = pair-there R one.1;
        size = size;
        inside = λ i l. omega (
          arith,
          (size i l).chained,
          ends R one.1,
          suc-mul i (table_size R),
          mul-le-mul_right {m = suc i} {n = t R} (table_size R) l,
        );
      }

  module _ (s : Shape R) where
    pub table-long : (i : ℕ) → i < t R → length (table R i) ≡ table_size R
    unfolding table
    table-long i l = length_part (table_size R) (offset R i) R (s.inside i l)

    pub table-whole : (i : ℕ) → i < t R → Whole (table R i) (kb R) (m R) (x R) (columns R)
    table-whole i l =
        record {
          size = table-long i l ∙ area-is R ∙ ap (λ (n : ℕ). n * columns R) (rows_is R);
          columns_are = columns_is R ∙ ap (λ (n : ℕ). kb R + n) (rows_is R);
          kb_high = s.header.kb_high;
          m_low = s.header.m_low;
          m_high = s.header.m_high;
          rows_high = omega (arith, s.header.rows_high, rows_is R);
        }

    -- strictly rising, from one to the next and so from each to every later one
    rise_one : (i : ℕ) → suc i < t R → z R i < z R (suc i)
    unfolding rises
    rise_one i l = ltb-true (z R i) (z R (suc i)) (s.size (suc i) l).rising

    pub rise : (i j : ℕ) → i < j → j < t R → z R i < z R j
    rise i zero l h = absurd (omega arith)
    rise i (suc j) l h =
        last_or i j l (λ o. omega (arith, rise i j o (omega arith), rise_one j h)) (λ e. rw e (rise_one j h))

-- ---- the code's order is the definition's: that the first ten octets are there follows from where the record ends

module _ (R : List ℕ) where
  abbrev sized : ℕ → Bool
  sized i = within 1 81 (z R i) && rises R i

  abbrev placed : ℕ → Bool
  placed i = eqb (offset R i) (offset_due R i)

  shaped : header_right R && sizes_right R && offsets_right R && ends_right R ≡ true → shape_right R ≡ true
  unfolding sizes_right offsets_right size_right front_right shape_right
  shaped e =
      let three = both (header_right R && sizes_right R && offsets_right R) (ends_right R) e in
      let two = both (header_right R && sizes_right R) (offsets_right R) three.0 in
      let one = both (header_right R) (sizes_right R) two.0 in
      let long = le-leb 10 (length R) (omega (arith, ends R three.1)) in
      let each : (i : ℕ) → i < t R → size_right R i ≡ true =
      λ i l. rw (all-at (t R) sized one.1 i l) (all-at (t R) placed two.1 i l) in
      rw (long, one.0, three.1) (all_of (t R) (size_right R) each)

  unshaped : shape_right R ≡ true → header_right R && sizes_right R && offsets_right R && ends_right R ≡ true
  unfolding sizes_right offsets_right size_right front_right shape_right
  unshaped e =
      let two = both (front_right R && ends_right R) (all_below (t R) (size_right R)) e in
      let one = both (front_right R) (ends_right R) two.0 in
      let header = both (leb 10 (length R)) (header_right R) one.0 in
      let parts : (i : ℕ) → i < t R → (sized i ≡ true) × (placed i ≡ true) =
      λ i l. both (sized i) (placed i) (all-at (t R) (size_right R) two.1 i l) in
      let sizes : sizes_right R ≡ true = all_of (t R) sized (λ i l. (parts i l).0) in
      let offsets : offsets_right R ≡ true = all_of (t R) placed (λ i l. (parts i l).1) in
      rw (header.1, sizes, offsets, one.1)

  pub formed-is : well_formed R ≡ shape_right R && all_below (t R) (table_right R)
  unfolding well_formed
  formed-is =
      let shape = header_right R && sizes_right R && offsets_right R && ends_right R in
      ap (λ (b : Bool). b && all_below (t R) (table_right R)) (either_way shape (shape_right R) shaped unshaped)

-- ---- the entries

pub entries_below : (R : List ℕ) (i : ℕ) → 1 ≤ z R i → length (table R i) ≡ table_size R → table_right R i ≡ true
    → (k : ℕ) → (get_or (table R i) k 0 ≡ empty → ⊥) → get_or (table R i) k 0 < z R i
unfolding table_right shift_right
entries_below R i low long e k n =
    below_or k (table_size R)
    (λ l. ltb-true (get_or (table R i) k 0) (z R i)
    (simp (ne_eqb (get_or (table R i) k 0) empty n) at (all-at (table_size R) (λ j. shift_right (z R i) (get_or (table R i) j 0)) e k l)))
    (λ l. omega (arith, get_or-eq_default (table R i) 0 {n = k} (omega arith)))

-- the test as the code makes it, of a part T of the record
pub table-test : (R : List ℕ) (i n : ℕ) (T : List ℕ) → T ≡ table R i → n ≡ z R i → length (table R i) ≡ table_size R
    → all_below (length T) (λ k. shift_right n (get_or T k 0)) ≡ table_right R i
unfolding table_right
table-test R i n T e f long = rw (e, f, long)
