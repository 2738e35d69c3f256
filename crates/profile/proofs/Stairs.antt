-- The definition of a staircase says that the table is one.
use mathlib.Core.Path.{◌≡◌, refl, sym, ap, ◌∙◌}
use mathlib.Core.Bool.{Bool, true, false, cond, not, ◌&&◌, ◌||◌}
use mathlib.Core.List.{List}
use Prim.Native.Nat.{ℕ, zero, suc, ◌+◌, ◌-◌, ◌<◌}
use native.Mathlib.Numerals.{sub-one}
use native.Mathlib.Omega.{arith}
use lib.Dec.{eqb}
use borrow.Author.Tests.{eqb-true, eqb-false, not-true, not-false, eq-eqb, ne_eqb}
use Rattle.bits.specs.Ranges.{sum_below, all_below}
use Rattle.bits.proofs.Ranges.{last_or, equal_or, both, all-at, all_of}
use Rattle.bits.proofs.Sums.{sum_one}
use Rattle.profile.specs.Record.{entry, empty}
use Rattle.profile.specs.Staircase.{filled, filled_between, first_column, next_due, next_column, staircase}
use Rattle.profile.specs.Steps.Walk.{column}

-- column kb is filled in row 0, in the last row and in row `middle` between, and there with 0; column kb + j holds 0 in rows j - 1 and j
pub record Staircase (T : List ℕ) (kb m columns : ℕ) : Type 0 where
  pub middle : ℕ
  pub after : 0 < middle
  pub before : suc middle < m
  pub filled : entry T columns 0 kb ≡ empty → ⊥
  pub outer : (i : ℕ) → suc i ≡ m → entry T columns i kb ≡ entry T columns 0 kb
  pub inner : entry T columns middle kb ≡ 0
  pub others : (i : ℕ) → 0 < i → suc i < m → (i ≡ middle → ⊥) → entry T columns i kb ≡ empty
  pub upper : (j : ℕ) → suc j < m → entry T columns j (kb + suc j) ≡ 0
  pub lower : (j : ℕ) → suc j < m → entry T columns (suc j) (kb + suc j) ≡ 0
  pub rest : (i j : ℕ) → i < m → suc j < m → (i ≡ j → ⊥) → (i ≡ suc j → ⊥) → entry T columns i (kb + suc j) ≡ empty

-- ---- exactly one of the numbers below n

pub record Only (n : ℕ) (p : ℕ → Bool) : Type 0 where
  pub at : ℕ
  pub below : at < n
  pub holds : p at ≡ true
  pub others : (k : ℕ) → k < n → (k ≡ at → ⊥) → p k ≡ false

module _ (p : ℕ → Bool) where
  abbrev marked : ℕ → ℕ
  marked k = cond (p k) 1 0

  unmarked : (k : ℕ) → marked k ≡ 0 → p k ≡ false
  unmarked k e = by-mark (p k) refl
    where
      by-mark : (b : Bool) → p k ≡ b → p k ≡ false
      by-mark true q = absurd (omega (arith, rw q at e))
      by-mark false q = q

  none : (n : ℕ) → sum_below n marked ≡ 0 → (k : ℕ) → k < n → p k ≡ false
  unfolding sum_below
  none zero e k l = absurd (omega arith)
  none (suc n) e k l = last_or k n l (λ o. none n (omega arith) k o) (λ q. rw q (unmarked n (omega arith)))

  -- the last is the one, or one before it
  by_last : (n : ℕ) (b : Bool) → p n ≡ b → sum_below n marked + marked n ≡ 1 → (sum_below n marked ≡ 1 → Only n p) → Only (suc n) p
  by_last n true q e before =
      let rest : sum_below n marked ≡ 0 = omega (arith, rw q at e) in
      record { at = n; below = omega arith; holds = q; others = λ k l d. none n rest k (omega arith) }
  by_last n false q e before =
      let o = before (omega (arith, rw q at e)) in
      record {
        at = o.at;
        below = omega (arith, o.below);
        holds = o.holds;
        others = λ k l d. last_or k n l (λ h. o.others k h d) (λ r. rw r q);
      }

  only : (n : ℕ) → sum_below n marked ≡ 1 → Only n p
  unfolding sum_below
  only zero e = absurd (omega arith)
  only (suc n) e = by_last n (p n) refl e (only n)

  pub only_at : (n : ℕ) (o : Only n p) (k : ℕ) → k < n → p k ≡ true → k ≡ o.at
  only_at n o k l e =
      equal_or k o.at (λ q. q)
      (λ d.
      let z : ◌≡◌ {A = Bool} true false = sym e ∙ o.others k l d in
      let y : ◌≡◌ {A = ℕ} 0 1 = cc in
      absurd (omega arith))

  only_one : (n : ℕ) → Only n p → sum_below n marked ≡ 1
  only_one n o = sum_one n marked o.at o.below (λ k l d. rw (o.others k l d)) ∙ rw o.holds

-- ---- filled, and empty

pub filled_is : (e : ℕ) → filled e ≡ true → e ≡ empty → ⊥
unfolding filled
filled_is e f = eqb-false e empty (not-true (eqb e empty) f)

unfilled_is : (e : ℕ) → filled e ≡ false → e ≡ empty
unfolding filled
unfilled_is e f = eqb-true e empty (not-false (eqb e empty) f)

pub is-filled : (e : ℕ) → (e ≡ empty → ⊥) → filled e ≡ true
unfolding filled
is-filled e n = rw (ne_eqb e empty n)

pub is_unfilled : (e : ℕ) → e ≡ empty → filled e ≡ false
unfolding filled
is_unfilled e q = rw (eq-eqb e empty q)

-- ---- column kb

pub record FirstColumn (m : ℕ) (C : ℕ → ℕ) : Type 0 where
  pub only : Only (m - 2) (λ i. filled (C (suc i)))
  pub full : C 0 ≡ empty → ⊥
  pub outer : C 0 ≡ C (m - 1)
  pub inner : (i : ℕ) → i < m - 2 → filled (C (suc i)) ≡ true → C (suc i) ≡ 0

module _ (m : ℕ) (C : ℕ → ℕ) where
  abbrev held : ℕ → Bool
  held i = not (filled (C (suc i))) || eqb (C (suc i)) 0

  pub first-is : first_column m C ≡ true → FirstColumn m C
  unfolding first_column filled_between
  first-is e =
      let four = both (filled (C 0) && filled (C (m - 1)) && eqb (filled_between m C) 1 && eqb (C 0) (C (m - 1))) (all_below (m - 2) held) e in
      let three = both (filled (C 0) && filled (C (m - 1)) && eqb (filled_between m C) 1) (eqb (C 0) (C (m - 1))) four.0 in
      let two = both (filled (C 0) && filled (C (m - 1))) (eqb (filled_between m C) 1) three.0 in
      let one = both (filled (C 0)) (filled (C (m - 1))) two.0 in
      record {
        only = only (λ i. filled (C (suc i))) (m - 2) (eqb-true (filled_between m C) 1 two.1);
        full = filled_is (C 0) one.0;
        outer = eqb-true (C 0) (C (m - 1)) three.1;
        inner = λ i l f. eqb-true (C (suc i)) 0 (rw f at (all-at (m - 2) held four.1 i l));
      }

  pub is-first : FirstColumn m C → first_column m C ≡ true
  unfolding first_column filled_between
  is-first f =
      let top = is-filled (C 0) f.full in
      let last = is-filled (C (m - 1)) (λ q. f.full (f.outer ∙ q)) in
      let count = eq-eqb (filled_between m C) 1 (only_one (λ i. filled (C (suc i))) (m - 2) f.only) in
      let outer = eq-eqb (C 0) (C (m - 1)) f.outer in
      let each : (i : ℕ) → i < m - 2 → held i ≡ true = λ i l. by-fill i l (filled (C (suc i))) refl in
      rw (top, last, count, outer) (all_of (m - 2) held each)
    where
      by-fill : (i : ℕ) → i < m - 2 → (b : Bool) → filled (C (suc i)) ≡ b → held i ≡ true
      by-fill i l true q = rw (q, eq-eqb (C (suc i)) 0 (f.inner i l q))
      by-fill i l false q = rw q

-- ---- column kb + j + 1

module _ (j : ℕ) where
  pub due-upper : next_due (suc j) j ≡ 0
  unfolding next_due
  due-upper = simp (sub-one, eq-eqb j j refl)

  pub due-lower : next_due (suc j) (suc j) ≡ 0
  unfolding next_due
  due-lower = simp (sub-one, ne_eqb (suc j) j (λ d. omega arith), eq-eqb (suc j) (suc j) refl)

  pub due-rest : (i : ℕ) → (i ≡ j → ⊥) → (i ≡ suc j → ⊥) → next_due (suc j) i ≡ empty
  unfolding next_due
  due-rest i n o = simp (sub-one, ne_eqb i j n, ne_eqb i (suc j) o)

module _ (m j : ℕ) (C : ℕ → ℕ) where
  next-is : next_column m j C ≡ true → (i : ℕ) → i < m → C i ≡ next_due j i
  unfolding next_column
  next-is e i l = eqb-true (C i) (next_due j i) (all-at m (λ row. eqb (C row) (next_due j row)) e i l)

-- ---- the table

module _ (T : List ℕ) (kb m columns : ℕ) where
  others : (middle : ℕ) → ((k : ℕ) → k < m - 2 → (suc k ≡ middle → ⊥) → filled (column T columns kb (suc k)) ≡ false)
      → (i : ℕ) → 0 < i → suc i < m → (i ≡ middle → ⊥) → column T columns kb i ≡ empty
  others middle h zero l o n = absurd (omega arith)
  others middle h (suc k) l o n = unfilled_is (column T columns kb (suc k)) (h k (omega arith) n)

  pub staircase-is : staircase T kb m columns ≡ true → Staircase T kb m columns
  unfolding staircase
  staircase-is e =
      let right : ℕ → Bool = λ i. next_column m (suc i) (column T columns (kb + suc i)) in
      let parts = both (first_column m (column T columns kb)) (all_below (m - 1) right) e in
      let f = first-is m (column T columns kb) parts.0 in
      let o = f.only in
      let next : (i j : ℕ) → i < m → suc j < m → column T columns (kb + suc j) i ≡ next_due (suc j) i =
      λ i j l h. next-is m (suc j) (column T columns (kb + suc j)) (all-at (m - 1) right parts.1 j (omega arith)) i l in
      record {
        middle = suc o.at;
        after = omega arith;
        before = omega (arith, o.below);
        filled = f.full;
        outer = λ i h. ap (column T columns kb) (omega arith) ∙ sym f.outer;
        inner = f.inner o.at o.below o.holds;
        others = others (suc o.at) (λ k l n. o.others k l (λ q. n (ap suc q)));
        upper = λ j h. next j j (omega arith) h ∙ due-upper j;
        lower = λ j h. next (suc j) j h h ∙ due-lower j;
        rest = λ i j l h n p. next i j l h ∙ due-rest j i n p;
      }
