-- The code's walk of a table finds a staircase exactly where the definition says that it is one; and where the rows that it reads stand.
use mathlib.Core.Path.{◌≡◌, refl, sym, ap, ap₂, ◌∙◌}
use mathlib.Core.Bool.{Bool, true, false, and-true, and_assoc, ◌&&◌, ◌||◌}
use mathlib.Core.List.{List}
use Prim.Native.Nat.{ℕ, zero, suc, ◌+◌, ◌-◌, ◌*◌, ◌≤◌, ◌<◌}
use native.Mathlib.Nat.{add-suc, suc-mul, mul-le-mul_right}
use native.Mathlib.Numerals.{add-one, sub-one}
use native.Mathlib.Omega.{arith}
use lib.Dec.{eqb}
use lib.ListN.{length, get_or, take, drop}
use Rattle.std.proofs.lemmas.List.{get_or-take, get_or-drop}
use borrow.Author.Tests.{eqb-true, eq-eqb, ne_eqb}
use Rattle.bits.specs.Ranges.{all_below}
use Rattle.bits.proofs.Ranges.{below_or, equal_or, all-at, all_of, all_same, either_way}
use Rattle.bits.proofs.Lists.{length_part}
use Rattle.profile.specs.Record.{entry, empty}
use Rattle.profile.specs.Staircase.{filled, first_column, next_due, next_column, staircase}
use Rattle.profile.specs.Steps.Shape.{Sized}
use Rattle.profile.specs.Steps.Walk.{column, NextFilled, next_right, row_right, empty_from, before_right, behind_right}
use Rattle.profile.proofs.Stairs.{Only, only_at, filled_is, is-filled, is_unfilled, first-is, is-first, due-upper, due-lower, due-rest}

-- ---- column kb: C is what it holds in each row

refuted : (b : Bool) → (b ≡ true → ⊥) → false ≡ b
refuted true n = absurd (n refl)
refuted false n = refl

-- the code's tests of it, in their order: row 0, the first filled row after it and the next
module _ (m : ℕ) (C : ℕ → ℕ) where
  abbrev between : ℕ → Bool
  between i = filled (C (suc i))

  pub first-empty : C 0 ≡ empty → false ≡ first_column m C
  first-empty e = refuted (first_column m C) (λ q. (first-is m C q).full e)

  pub first-none : (r : ℕ) → NextFilled C m 1 r → suc r ≡ m → false ≡ first_column m C
  first-none r s e =
      refuted (first_column m C)
      (λ q.
      let o = (first-is m C q).only in
      filled_is (C (suc o.at)) o.holds (s.none (suc o.at) (omega arith) (omega (arith, o.below))))

  pub first-middle : (r : ℕ) → NextFilled C m 1 r → suc r < m → (C r ≡ 0 → ⊥) → false ≡ first_column m C
  first-middle zero s l n = absurd (omega (arith, s.after))
  first-middle (suc i) s l n = refuted (first_column m C) (λ q. n ((first-is m C q).inner i (omega arith) (is-filled (C (suc i)) (s.some l))))

  pub first_more : (r n : ℕ) → NextFilled C m 1 r → suc r < m → NextFilled C m (r + 1) n → suc n < m → false ≡ first_column m C
  first_more zero n s l t h = absurd (omega (arith, s.after))
  first_more (suc i) zero s l t h = absurd (omega (arith, t.after))
  first_more (suc i) (suc j) s l t h =
      refuted (first_column m C)
      (λ q.
      let o = (first-is m C q).only in
      let here = only_at between (m - 2) o i (omega arith) (is-filled (C (suc i)) (s.some l)) in
      let there = only_at between (m - 2) o j (omega arith) (is-filled (C (suc j)) (t.some h)) in
      omega (arith, t.after))

  pub first-last : (r n : ℕ) → (C 0 ≡ empty → ⊥) → NextFilled C m 1 r → suc r < m → C r ≡ 0 → NextFilled C m (r + 1) n → suc n ≡ m
      → eqb (C n) (C 0) ≡ first_column m C
  first-last zero n full s l e t q = absurd (omega (arith, s.after))
  first-last (suc i) n full s l e t q =
      either_way (eqb (C n) (C 0)) (first_column m C)
      (λ o. is-first m C (record { only = one; full = full; outer = sym (eqb-true (C n) (C 0) o) ∙ ap C last; inner = inner }))
      (λ o. eq-eqb (C n) (C 0) (ap C last ∙ sym (first-is m C o).outer))
    where
      last : n ≡ m - 1
      last = omega arith

      others : (k : ℕ) → k < m - 2 → (k ≡ i → ⊥) → C (suc k) ≡ empty
      others k h d = below_or k i (λ o. s.none (suc k) (omega arith) (omega arith)) (λ o. t.none (suc k) (omega arith) (omega arith))

      one : Only (m - 2) between
      one =
          record {
            at = i;
            below = omega arith;
            holds = is-filled (C (suc i)) (λ o. omega arith);
            others = λ k h d. is_unfilled (C (suc k)) (others k h d);
          }

      inner : (k : ℕ) → k < m - 2 → between k ≡ true → C (suc k) ≡ 0
      inner k h o = equal_or k i (λ d. rw d e) (λ d. absurd (filled_is (C (suc k)) o (others k h d)))

-- ---- where a row stands

-- the entries of a row from column kb on stand in the table
pub row-stands : {T : List ℕ} {kb m columns : ℕ} → Sized T kb m columns → (row : ℕ) → row < m → row * columns + (kb + m) ≤ length T
row-stands {T} {kb} {m} {columns} s row l =
    omega (arith, s.size, s.wide, suc-mul row columns, mul-le-mul_right {m = suc row} {n = m} columns l)

-- ---- the columns after column kb, in a row

-- a test of a + 1 + n numbers: of the first a, of the next and of the n behind it
all_parts : (p : ℕ → Bool) (a n : ℕ) → all_below (a + suc n) p ≡ all_below a p && (p a && all_below n (λ k. p (a + suc k)))
unfolding all_below
all_parts p a zero = rw (add-one a, and-true (p a))
all_parts p a (suc n) =
    let rest = all_below n (λ k. p (a + suc k)) in
    rw (add-suc a (suc n), all_parts p a n, and_assoc (all_below a p) (p a && rest) (p (a + suc n)), and_assoc (p a) rest (p (a + suc n)))

-- the entries up to a row's own column, where it has some before it
module _ (T : List ℕ) (first : ℕ) where
  pub before_later : (n : ℕ) → (n ≡ 0 → ⊥) → before_right T first n ≡ all_below (n - 1) (empty_from T first) && eqb (get_or T (first + (n - 1)) 0) 0
  unfolding before_right
  before_later zero d = absurd (d refl)
  before_later (suc n) d = rw sub-one

module _ (T : List ℕ) (kb columns : ℕ) where
  abbrev first : ℕ → ℕ
  first row = row * columns + kb + 1

  next-at : (row j : ℕ) {due : ℕ} → next_due (suc j) row ≡ due → next_right T kb columns row j ≡ eqb (get_or T (first row + j) 0) due
  unfolding next_right entry
  next-at row j e =
      let place : row * columns + (kb + suc j) ≡ first row + j = omega arith in
      rw (place, e)

  before-is : (row : ℕ) → all_below row (next_right T kb columns row) ≡ before_right T (first row) row
  unfolding all_below before_right empty_from
  before-is zero = refl
  before-is (suc n) =
      ap₂ (λ (a b : Bool). a && b)
      (all_same n _ _ (λ j l. next-at (suc n) j (due-rest j (suc n) (λ q. omega arith) (λ q. omega arith))))
      (next-at (suc n) n (due-lower n))

  behind-is : (row n : ℕ)
      → next_right T kb columns row row && all_below n (λ k. next_right T kb columns row (row + suc k)) ≡ behind_right T (first row + row) n
  unfolding behind_right empty_from
  behind-is row n =
      ap₂ (λ (a b : Bool). a && b) (next-at row row (due-upper row))
      (all_same n _ _
      (λ k l.
      let place : first row + (row + suc k) ≡ first row + row + 1 + k = omega arith in
      next-at row (row + suc k) (due-rest (row + suc k) row (λ q. omega arith) (λ q. omega arith))
      ∙ ap (λ (y : ℕ). eqb (get_or T y 0) empty) place))

  -- the code's tests of a row, in their order; the last row is done after the first
  module _ (m row : ℕ) where
    row-end : suc row ≡ m → row_right T kb m columns row ≡ before_right T (first row) row
    unfolding row_right
    row-end e =
        let n : m - 1 ≡ row = omega arith in
        rw n (before-is row)

    row-parts : suc row < m → row_right T kb m columns row ≡ before_right T (first row) row && behind_right T (first row + row) (m - (row + 2))
    unfolding row_right
    row-parts l =
        let n : m - 1 ≡ row + suc (m - (row + 2)) = omega arith in
        rw n (all_parts (next_right T kb columns row) row (m - (row + 2)) ∙ ap₂ (λ (a b : Bool). a && b) (before-is row) (behind-is row (m - (row + 2))))

    pub row_in_turn : row < m → row_right T kb m columns row
        ≡ before_right T (first row) row && (eqb (row + 1) m || behind_right T (first row + row) (m - (row + 2)))
    row_in_turn l =
        below_or (suc row) m
        (λ h. let more : eqb (row + 1) m ≡ false = ne_eqb (row + 1) m (λ e. omega arith) in rw more (row-parts h))
        (λ h. let last : eqb (row + 1) m ≡ true = eq-eqb (row + 1) m (omega arith) in rw (last, and-true (before_right T (first row) row)) (row-end (omega arith)))

-- ---- the table

-- for all rows and all columns, in either order
all_swap : (m n : ℕ) (p : ℕ → ℕ → Bool) → all_below m (λ i. all_below n (p i)) ≡ all_below n (λ j. all_below m (λ i. p i j))
all_swap m n p =
    either_way _ _ (λ e. all_of n (λ j. all_below m (λ i. p i j)) (λ j h. all_of m (λ i. p i j) (λ i l. all-at n (p i) (all-at m (λ k. all_below n (p k)) e i l) j h)))
    (λ e. all_of m (λ i. all_below n (p i)) (λ i l. all_of n (p i) (λ j h. all-at m (λ k. p k j) (all-at n (λ k. all_below m (λ o. p o k)) e j h) i l)))

-- the code's two tests of the staircase, in their order
pub stairs_are : (T : List ℕ) (kb m columns : ℕ) → staircase T kb m columns ≡ first_column m (column T columns kb) && all_below m (row_right T kb m columns)
unfolding staircase row_right next_right next_column
stairs_are T kb m columns = ap (λ (b : Bool). first_column m (column T columns kb) && b) (sym (all_swap m (m - 1) (next_right T kb columns)))

-- ---- a stretch of a row

-- its entries are those of the table from there on
pub empty_stretch : (T : List ℕ) (from n d : ℕ) → d ≡ n → from + n ≤ length T
    → all_below (length (take d (drop from T))) (λ k. eqb (get_or (take d (drop from T)) k 0) empty) ≡ all_below n (empty_from T from)
unfolding empty_from
empty_stretch T from n d e inside =
    rw (e, length_part n from T inside)
    (all_same n _ _ (λ k l. ap (λ (y : ℕ). eqb y empty) (get_or-take n (drop from T) k 0 l ∙ get_or-drop from T k 0)))
