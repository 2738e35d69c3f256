-- The plain checker: an element of the spread-out matrix, the bit at a place, a row's sum place by place, and all rows.
use mathlib.Core.Path.{◌≡◌, refl, sym, ap, ap₂, ◌∙◌}
use mathlib.Core.Bool.{Bool, true, false}
use mathlib.Core.List.{List, ◌++◌}
use Prim.Native.Nat.{ℕ, ◌+◌, ◌*◌, ◌/◌, ◌%◌, ◌≤◌, ◌<◌}
use native.Mathlib.Nat.{zero-add, mul-le-mul_right, div-lt_iff_lt-mul}
use native.Mathlib.Numerals.{add-one}
use native.Mathlib.Omega.{arith}
use lib.ListN.{length, get_or}
use borrow.Author.Tests.{eq-eqb, ne_eqb}
use Rattle.bits.specs.Ranges.{sum_below, parity_below}
use Rattle.bits.proofs.Listed.{list_of}
use Rattle.bits.proofs.Ranges.{all_of, all_fails}
use Rattle.profile.specs.Record.{entry}
use Rattle.parity.specs.Matrix.{square, spread, bit_at, row_even, checks}
use Rattle.parity.specs.Steps.Grouped.{Shape}
use Rattle.parity.specs.Steps.Runs.{Run}
use Rattle.std.specs.Bool.{MatchBool}
use Rattle.checking.specs.Sums.{row_sum, row_sums}
use Rattle.checking.specs.Steps.Spread.{HasRow}
use Rattle.checking.proofs.Ranged.{Every, One, of_every, of_one}

-- ---- an element: what it is by its shift s

module _ (T : List ℕ) (columns z row place : ℕ) where
  module _ (s : ℕ) (read : s ≡ get_or T (row / z * columns + place / z) 0) where
    pub element-empty : s ≡ 255 → 0 ≡ spread T columns z row place
    unfolding spread square entry
    element-empty e = rw (sym read, e)

    pub element-one : (s ≡ 255 → ⊥) → place % z ≡ (row % z + s) % z → 1 ≡ spread T columns z row place
    unfolding spread square entry
    element-one n e = rw (sym read, ne_eqb s 255 n, eq-eqb (place % z) ((row % z + s) % z) e)

    pub element-zero : (s ≡ 255 → ⊥) → (place % z ≡ (row % z + s) % z → ⊥) → 0 ≡ spread T columns z row place
    unfolding spread square entry
    element-zero n d = rw (sym read, ne_eqb s 255 n, ne_eqb (place % z) ((row % z + s) % z) d)

-- ---- the bit at a place

module _ (w : List ℕ) (place : ℕ) where
  pub mark_is : get_or w place 0 ≡ 2 → 0 ≡ bit_at w place
  unfolding bit_at
  mark_is e = rw (eq-eqb (get_or w place 0) 2 e)

  pub bit_is : (get_or w place 0 ≡ 2 → ⊥) → get_or w place 0 ≡ bit_at w place
  unfolding bit_at
  bit_is n = rw (ne_eqb (get_or w place 0) 2 n)

-- ---- a row

-- the sum over the places before one, modulo two
unfoldable pub summed : List ℕ → ℕ → ℕ → List ℕ → ℕ → ℕ → ℕ
summed T columns z w row place = parity_below place (λ p. spread T columns z row p * bit_at w p)

module _ (T : List ℕ) (columns z : ℕ) (w : List ℕ) (row : ℕ) where
  pub summed-none : 0 ≡ summed T columns z w row 0
  unfolding summed parity_below sum_below
  summed-none = refl

  pub summed_more : (place : ℕ) {sum e b : ℕ} → sum ≡ summed T columns z w row place → e ≡ spread T columns z row place → b ≡ bit_at w place
      → (sum + e * b) % 2 ≡ summed T columns z w row (place + 1)
  unfolding summed parity_below sum_below
  summed_more place {sum} {e} {b} s p q = rw (add-one place) (omega (arith, ap₂ (λ (x y : ℕ). x * y) p q))

  pub summed-all : (place : ℕ) {sum : ℕ} → sum ≡ summed T columns z w row place → place ≤ columns * z → columns * z ≤ place → sum ≡ row_sum T columns z w row
  unfolding summed row_sum
  summed-all place {sum} s l h =
      let e : place ≡ columns * z = omega arith in
      s ∙ ap (λ (n : ℕ). parity_below n (λ p. spread T columns z row p * bit_at w p)) e

  pub row-even : row_sum T columns z w row ≡ 0 → row_even T columns z w row ≡ true
  unfolding row_even row_sum
  row-even e = rw e

  pub row_odd : (row_sum T columns z w row ≡ 0 → ⊥) → row_even T columns z w row ≡ false
  unfolding row_even row_sum
  row_odd n = ne_eqb _ 0 n

-- ---- all rows

module _ (T : List ℕ) (rows columns z : ℕ) (shape : Shape T rows columns z) where
  pub has-row : (row : ℕ) → row < rows * z → HasRow T columns z row
  has-row row l =
      let i : row / z < rows = (div-lt_iff_lt-mul shape.z_some).1 l in
      record {
        z_some = shape.z_some;
        z_most = shape.z_most;
        columns_most = shape.columns_most;
        shifts = shape.shifts;
        entries = omega (arith, mul-le-mul_right columns i, shape.size);
      }

module _ (T : List ℕ) (rows columns z : ℕ) (w : List ℕ) where
  pub odd_fails : (row : ℕ) → row < rows * z → (row_sum T columns z w row ≡ 0 → ⊥) → false ≡ checks T rows columns z w
  unfolding checks
  odd_fails row l n = sym (all_fails (rows * z) (row_even T columns z w) row l (row_odd T columns z w row n))

  pub even_checks : ((row : ℕ) → row < rows * z → row_sum T columns z w row ≡ 0) → true ≡ checks T rows columns z w
  unfolding checks
  even_checks h = sym (all_of (rows * z) (row_even T columns z w) (λ row l. row-even T columns z w row (h row l)))

  -- what `all` answers, where each row is asked whether its sum is 0
  pub all_checks : (b : Bool)
      → MatchBool b (Every (λ row. row_sum T columns z w row ≡ 0) (rows * z)) (One (λ row. row_sum T columns z w row ≡ 0 → ⊥) (rows * z))
      → b ≡ checks T rows columns z w
  all_checks true h = even_checks (of_every (λ row. row_sum T columns z w row ≡ 0) (rows * z) h)
  all_checks false h =
      let odd = of_one (λ row. row_sum T columns z w row ≡ 0 → ⊥) (rows * z) h in
      odd_fails odd.0 odd.1 odd.2

-- ---- the sums of all rows

-- a list of as many places as there are rows, all of them written, in front of what stays
pub sums-made : (T : List ℕ) (rows columns z : ℕ) (w a b rest : List ℕ) (k : ℕ) → length a ≡ rows * z → k ≡ rows * z → Run k (row_sum T columns z w) a 0 b
    → b ++ rest ≡ row_sums T rows columns z w ++ rest
unfolding row_sums
sums-made T rows columns z w a b rest k l e r =
    ap (λ (s : List ℕ). s ++ rest)
    (list_of (rows * z) (row_sum T columns z w) b (r.len ∙ l)
    (λ i m. ap (λ (p : ℕ). get_or b p 0) (sym (zero-add i)) ∙ r.inside i (omega (arith, m, e))))
