-- Column kb as the code finds its filled rows: C is what it holds in each row.
use mathlib.Core.Path.{◌≡◌, refl, ap, ◌∙◌}
use mathlib.Core.Bool.{Bool, true, false, cond, not, ◌||◌}
use mathlib.Core.List.{List}
use Prim.Native.Nat.{ℕ, zero, suc, ◌+◌, ◌-◌, ◌*◌, ◌≤◌, ◌<◌}
use native.Mathlib.Omega.{arith}
use lib.Dec.{eqb}
use lib.ListN.{get_or}
use borrow.Author.Tests.{eq-eqb, ne_eqb}
use Rattle.bits.specs.Ranges.{sum_below, all_below}
use Rattle.bits.proofs.Ranges.{last_or, below_or, equal_or, all_of, all_fails}
use Rattle.bits.proofs.Sums.{sum_zero, sum_one}
use Rattle.profile.specs.Record.{entry, empty}
use Rattle.profile.specs.Staircase.{filled, filled_between}
use Rattle.profile.specs.Steps.Walk.{column, NextFilled}
use Rattle.profile.proofs.Stairs.{is-filled, is_unfilled}

-- ---- a sum has each of its terms in it, and any two

sum-has : (f : ℕ → ℕ) (n a : ℕ) → a < n → f a ≤ sum_below n f
unfolding sum_below
sum-has f zero a l = absurd (omega arith)
sum-has f (suc n) a l = last_or a n l (λ h. omega (arith, sum-has f n a h)) (λ e. omega (arith, ap f e))

sum_both : (f : ℕ → ℕ) (n a b : ℕ) → a < b → b < n → f a + f b ≤ sum_below n f
unfolding sum_below
sum_both f zero a b h l = absurd (omega arith)
sum_both f (suc n) a b h l =
    last_or b n l (λ o. omega (arith, sum_both f n a b h o)) (λ e. omega (arith, sum-has f n a (omega arith), ap f e))

module _ (m : ℕ) (C : ℕ → ℕ) where
  abbrev mark : ℕ → ℕ
  mark i = cond (filled (C (suc i))) 1 0

  abbrev held : ℕ → Bool
  held i = not (filled (C (suc i))) || eqb (C (suc i)) 0

  marked : (i : ℕ) → (C (suc i) ≡ empty → ⊥) → mark i ≡ 1
  marked i n = rw (is-filled (C (suc i)) n)

  unmarked : (i : ℕ) → C (suc i) ≡ empty → mark i ≡ 0
  unmarked i e = rw (is_unfilled (C (suc i)) e)

  -- no row between is filled; two are
  pub between_none : (r : ℕ) → NextFilled C m 1 r → suc r ≡ m → eqb (filled_between m C) 1 ≡ false
  unfolding filled_between
  between_none r s e =
      let none : sum_below (m - 2) mark ≡ 0 = sum_zero (m - 2) mark (λ k l. unmarked k (s.none (suc k) (omega arith) (omega arith))) in
      ne_eqb (filled_between m C) 1 (λ q. omega (arith, none, q))

  pub between_zero : (r : ℕ) → NextFilled C m 1 r → suc r ≡ m → eqb (filled_between m C) 0 ≡ true
  unfolding filled_between
  between_zero r s e = eq-eqb (filled_between m C) 0 (sum_zero (m - 2) mark (λ k l. unmarked k (s.none (suc k) (omega arith) (omega arith))))

  pub between-some : (r : ℕ) → NextFilled C m 1 r → suc r < m → eqb (filled_between m C) 0 ≡ false
  unfolding filled_between
  between-some zero s l = absurd (omega (arith, s.after))
  between-some (suc i) s l =
      let one : mark i ≤ sum_below (m - 2) mark = sum-has mark (m - 2) i (omega arith) in
      ne_eqb (filled_between m C) 0 (λ q. omega (arith, one, q, marked i (s.some l)))

  pub between-two : (r n : ℕ) → NextFilled C m 1 r → suc r < m → NextFilled C m (r + 1) n → suc n < m → eqb (filled_between m C) 1 ≡ false
  unfolding filled_between
  between-two zero n s l t h = absurd (omega (arith, s.after))
  between-two (suc i) zero s l t h = absurd (omega (arith, t.after))
  between-two (suc i) (suc j) s l t h =
      let two : mark i + mark j ≤ sum_below (m - 2) mark = sum_both mark (m - 2) i j (omega (arith, t.after)) (omega arith) in
      ne_eqb (filled_between m C) 1 (λ q. omega (arith, two, q, marked i (s.some l), marked j (t.some h)))

  -- one is
  module _ (i n : ℕ) (s : NextFilled C m 1 (suc i)) (l : suc (suc i) < m) (t : NextFilled C m (suc i + 1) n) (e : suc n ≡ m) where
    others : (k : ℕ) → k < m - 2 → (k ≡ i → ⊥) → C (suc k) ≡ empty
    others k h d = below_or k i (λ o. s.none (suc k) (omega arith) (omega arith)) (λ o. t.none (suc k) (omega arith) (omega arith))

    one : sum_below (m - 2) mark ≡ 1
    one = sum_one (m - 2) mark i (omega arith) (λ k h d. unmarked k (others k h d)) ∙ marked i (s.some l)

    all_held : C (suc i) ≡ 0 → (k : ℕ) → k < m - 2 → held k ≡ true
    all_held z k h = equal_or k i (λ d. rw d (by-fill (filled (C (suc i))))) (λ d. rw (is_unfilled (C (suc k)) (others k h d)))
      where
        by-fill : (b : Bool) → not b || eqb (C (suc i)) 0 ≡ true
        by-fill true = rw (eq-eqb (C (suc i)) 0 z)
        by-fill false = refl

  pub between-one : (r n : ℕ) → NextFilled C m 1 r → suc r < m → NextFilled C m (r + 1) n → suc n ≡ m → eqb (filled_between m C) 1 ≡ true
  unfolding filled_between
  between-one zero n s l t e = absurd (omega (arith, s.after))
  between-one (suc i) n s l t e = eq-eqb (filled_between m C) 1 (one i n s l t e)

  pub middle-right : (r n : ℕ) → NextFilled C m 1 r → suc r < m → NextFilled C m (r + 1) n → suc n ≡ m → C r ≡ 0 → all_below (m - 2) held ≡ true
  middle-right zero n s l t e z = absurd (omega (arith, s.after))
  middle-right (suc i) n s l t e z = all_of (m - 2) held (all_held i n s l t e z)

  pub middle_wrong : (r : ℕ) → NextFilled C m 1 r → suc r < m → (C r ≡ 0 → ⊥) → all_below (m - 2) held ≡ false
  middle_wrong zero s l n = absurd (omega (arith, s.after))
  middle_wrong (suc i) s l n = all_fails (m - 2) held i (omega arith) (rw (is-filled (C (suc i)) (s.some l)) (ne_eqb (C (suc i)) 0 n))

-- ---- where the entries of row 0 and of the last row stand

module _ (T : List ℕ) (kb columns : ℕ) where
  pub top_at : column T columns kb 0 ≡ get_or T kb 0
  unfolding entry
  top_at = ap (λ (k : ℕ). get_or T k 0) (omega arith)

  pub row_at : (row : ℕ) → column T columns kb row ≡ get_or T (row * columns + kb) 0
  unfolding entry
  row_at row = refl
