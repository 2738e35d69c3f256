-- What a row of a staircase table sums to: a staircase row to its first kb + 1 columns and two places of the stairs, a row past the staircase to the columns
-- before its own and its own bit.
use mathlib.Core.Path.{◌≡◌, refl, sym, ap, ap₂, ◌∙◌}
use mathlib.Core.Bool.{cond}
use mathlib.Core.List.{List}
use Prim.Native.Nat.{ℕ, zero, suc, ◌+◌, ◌-◌, ◌*◌, ◌%◌, ◌≤◌, ◌<◌}
use native.Mathlib.Nat.{add-zero, zero-add, mod-eq_of_lt, mod-lt}
use native.Mathlib.Omega.{arith}
use lib.Arith.{digits_lt}
use lib.Dec.{eqb, ltb}
use lib.ListN.{get_or}
use borrow.Author.Tests.{lt-ltb, le-ltb}
use Rattle.bits.specs.Ranges.{sum_below}
use Rattle.bits.proofs.Ranges.{last_or}
use Rattle.bits.proofs.Sums.{sum_more, sum_join, sum_same, sum_add, sum_zero, sum_one, sum-two}
use Rattle.profile.specs.Record.{entry}
use Rattle.profile.proofs.Stairs.{Staircase}
use Rattle.profile.proofs.Extension.{Extended}
use Rattle.parity.specs.Steps.Grouped.{low_bit, entry_bit, term, row_part, stack}
use Rattle.parity.proofs.Spread.{entry_bit_empty}

pub bit_lt : (w : List ℕ) (p : ℕ) → low_bit w p < 2
unfolding low_bit
bit_lt w p = omega arith

pub same_bit : (v w : List ℕ) (p : ℕ) → get_or v p 0 ≡ get_or w p 0 → low_bit v p ≡ low_bit w p
unfolding low_bit
same_bit v w p e = ap (λ (x : ℕ). x % 2) e

-- the entry 0
entry_bit_zero : (z : ℕ) (w : List ℕ) (s base u : ℕ) → s ≡ 0 → u < z → entry_bit z w s base u ≡ low_bit w (base + u)
unfolding entry_bit
entry_bit_zero z w s base u e l = rw (e, add-zero, mod-eq_of_lt l)

-- ---- two words that agree in the first n groups have the same sums there

module _ (T : List ℕ) (columns z : ℕ) (v w : List ℕ) (n : ℕ) (some : 0 < z) (same : (p : ℕ) → p < n * z → low_bit v p ≡ low_bit w p) where
  pub part_same : (i u : ℕ) → row_part T columns z v n i u ≡ row_part T columns z w n i u
  unfolding row_part term entry_bit
  part_same i u =
      sum_same n _ _ (λ j l. ap (cond (eqb (entry T columns i j) 255) 0) (same _ (digits_lt l (mod-lt (u + entry T columns i j) some))))

  pub stack_same : (r u : ℕ) → stack T columns z v n r u ≡ stack T columns z w n r u
  unfolding stack
  stack_same r u = sum_same r _ _ (λ i l. part_same i u)

-- one row more, and one column more over all rows
pub stack_more : (T : List ℕ) (columns z : ℕ) (w : List ℕ) (n r u : ℕ)
    → stack T columns z w n (suc r) u ≡ stack T columns z w n r u + row_part T columns z w n r u
unfolding stack sum_below
stack_more T columns z w n r u = refl

pub stack-column : (T : List ℕ) (columns z : ℕ) (w : List ℕ) (n r u : ℕ)
    → stack T columns z w (suc n) r u ≡ stack T columns z w n r u + sum_below r (λ i. term T columns z w i u n)
unfolding stack row_part sum_below
stack-column T columns z w n r u = sum_add r (λ i. row_part T columns z w n i u) (λ i. term T columns z w i u n)

-- ---- the stairs: the bit of column kb + n where 0 < n < m, and else nothing

unfoldable pub edge : List ℕ → ℕ → ℕ → ℕ → ℕ → ℕ → ℕ
edge w kb m z u zero = 0
edge w kb m z u (suc n) = cond (ltb (suc n) m) (low_bit w ((kb + suc n) * z + u)) 0

module _ (w : List ℕ) (kb m z u : ℕ) where
  pub edge_in : (n : ℕ) → suc n < m → edge w kb m z u (suc n) ≡ low_bit w ((kb + suc n) * z + u)
  unfolding edge
  edge_in n h = rw (lt-ltb (suc n) m h)

  pub edge_out : (n : ℕ) → m ≤ n → edge w kb m z u n ≡ 0
  unfolding edge
  edge_out zero h = refl
  edge_out (suc n) h = rw (le-ltb (suc n) m h)

module _ (T : List ℕ) (kb m columns z : ℕ) (w : List ℕ) (S : Staircase T kb m columns) (u : ℕ) (low : u < z) where
  abbrev at : ℕ → ℕ → ℕ
  at i j = term T columns z w i u j

  abbrev stair : ℕ → ℕ → ℕ
  stair i j = at i (kb + suc j)

  on : (i j : ℕ) → entry T columns i (kb + suc j) ≡ 0 → suc j < m → stair i j ≡ edge w kb m z u (suc j)
  unfolding term
  on i j e h = entry_bit_zero z w _ ((kb + suc j) * z) u e low ∙ sym (edge_in w kb m z u j h)

  off : (i j : ℕ) → entry T columns i (kb + suc j) ≡ 255 → stair i j ≡ 0
  unfolding term
  off i j e = entry_bit_empty z w _ ((kb + suc j) * z) u e

  -- the columns past kb, of which there are n
  tail : (n i : ℕ) → suc n ≡ m → i < m → sum_below n (stair i) ≡ edge w kb m z u i + edge w kb m z u (suc i)
  unfolding edge
  tail n zero e h =
      let l : 1 < m = omega (arith, S.before) in
      sum_one n (stair 0) 0 (omega arith) (λ k o d. off 0 k (S.rest 0 k h (omega arith) (λ q. d (sym q)) (λ q. omega arith)))
      ∙ on 0 0 (S.upper 0 l) l ∙ sym (zero-add _)
  tail n (suc i) e h =
      last_or (suc i) n (omega arith)
      (λ o. sum-two n (stair (suc i)) i (suc i) (omega arith) o
      (λ k p d g. off (suc i) k (S.rest (suc i) k h (omega arith) (λ r. g (sym r)) (λ r. d (omega arith))))
      ∙ ap₂ (λ (x y : ℕ). x + y) (on (suc i) i (S.lower i h) h) (on (suc i) (suc i) (S.upper (suc i) (omega arith)) (omega arith)))
      (λ q. sum_one n (stair (suc i)) i (omega arith)
      (λ k o d. off (suc i) k (S.rest (suc i) k h (omega arith) (λ r. omega arith) (λ r. d (omega arith))))
      ∙ on (suc i) i (S.lower i h) h ∙ sym (add-zero _)
      ∙ ap (λ (x : ℕ). edge w kb m z u (suc i) + x) (sym (edge_out w kb m z u (suc (suc i)) (omega arith))))

  stairs-shape : (i : ℕ) → i < m
      → row_part T columns z w (kb + m) i u ≡ row_part T columns z w (suc kb) i u + (edge w kb m z u i + edge w kb m z u (suc i))
  unfolding row_part
  stairs-shape = by_rows m refl
    where
      by_rows : (n : ℕ) → n ≡ m → (i : ℕ) → i < m
          → sum_below (kb + m) (at i) ≡ sum_below (suc kb) (at i) + (edge w kb m z u i + edge w kb m z u (suc i))
      by_rows zero e i h = absurd (omega arith)
      by_rows (suc n) e i h =
          let s : sum_below (kb + m) (at i) ≡ sum_below (suc kb + n) (at i) = ap (λ (x : ℕ). sum_below x (at i)) (omega arith) in
          s ∙ sum_join (suc kb) n (at i)
          ∙ ap (λ (x : ℕ). sum_below (suc kb) (at i) + x) (sum_same n _ (stair i) (λ k l. ap (at i) (omega arith)) ∙ tail n i e h)

  -- column kb over the staircase's rows: the two outer entries are equal
  pub column-sum : (n : ℕ) → suc n ≡ m → sum_below m (λ i. at i kb) ≡ at 0 kb + low_bit w (kb * z + u) + at 0 kb
  unfolding term
  column-sum n e =
      let p : suc S.middle < m = S.before in
      ap (λ (x : ℕ). sum_below x (λ i. at i kb)) (sym e)
      ∙ sum_more n (λ i. at i kb)
      ∙ ap₂ (λ (x y : ℕ). x + y)
      (sum-two n (λ i. at i kb) 0 S.middle S.after (omega arith)
      (λ k l d g. entry_bit_empty z w _ (kb * z) u (S.others k (omega arith) (omega arith) g))
      ∙ ap (λ (x : ℕ). at 0 kb + x) (entry_bit_zero z w _ (kb * z) u S.inner low))
      (ap (λ (s : ℕ). entry_bit z w s (kb * z) u) (S.outer n e))

-- ---- over all columns: what lies past the staircase

-- terms that are 0 from n on
sum-ends : (n d : ℕ) (f : ℕ → ℕ) → ((k : ℕ) → k < d → f (n + k) ≡ 0) → sum_below (n + d) f ≡ sum_below n f
sum-ends n d f h = sum_join n d f ∙ omega (arith, sum_zero d (λ k. f (n + k)) h)

-- a table whose first m rows are the staircase's, with a column past kb for each row
pub record Solvable (T : List ℕ) (kb m rows columns : ℕ) : Type 0 where
  pub tall : m ≤ rows
  pub wide : columns ≡ kb + rows
  pub stairs : Staircase T kb m columns
  pub extension : Extended T kb m rows columns

module _ (T : List ℕ) (kb m rows columns z : ℕ) (w : List ℕ) (S : Solvable T kb m rows columns) (u : ℕ) (low : u < z) where
  -- row i over the columns behind kb + n, where n is past the staircase and past row i
  ends : (i n : ℕ) → i < n → m ≤ n → n ≤ rows → row_part T columns z w columns i u ≡ row_part T columns z w (kb + n) i u
  unfolding row_part term
  ends i n h l o =
      let e : columns ≡ kb + n + (rows - n) = omega (arith, S.wide) in
      ap (λ (c : ℕ). sum_below c (term T columns z w i u)) e
      ∙ sum-ends (kb + n) (rows - n) (term T columns z w i u)
      (λ k b.
      let q : kb + (n + k) ≡ kb + n + k = omega arith in
      entry_bit_empty z w _ ((kb + n + k) * z) u
      (ap (entry T columns i) (sym q) ∙ S.extension.before i (n + k) (omega arith) (omega arith) (omega arith)))

  pub row-shape : (i : ℕ) → i < m
      → row_part T columns z w columns i u ≡ row_part T columns z w (suc kb) i u + (edge w kb m z u i + edge w kb m z u (suc i))
  row-shape i h = ends i m h (omega arith) S.tall ∙ stairs-shape T kb m columns z w S.stairs u low i h

  pub row-later : (n : ℕ) → m ≤ n → n < rows
      → row_part T columns z w columns n u ≡ row_part T columns z w (kb + n) n u + low_bit w ((kb + n) * z + u)
  unfolding row_part term sum_below
  row-later n h l =
      let e : kb + suc n ≡ suc (kb + n) = omega arith in
      ends n (suc n) (omega arith) (omega arith) l
      ∙ ap (λ (c : ℕ). sum_below c (term T columns z w n u)) e
      ∙ ap (λ (b : ℕ). sum_below (kb + n) (term T columns z w n u) + b) (entry_bit_zero z w _ ((kb + n) * z) u (S.extension.own n h l) low)
