-- A word checks over a staircase table with its extension exactly where it solves both: the staircase's rows before n, added together, telescope.
use mathlib.Core.Path.{◌≡◌, refl, ap}
use mathlib.Core.Bool.{true}
use mathlib.Core.List.{List}
use Prim.Native.Nat.{ℕ, zero, suc, ◌+◌, ◌*◌, ◌%◌, ◌≤◌, ◌<◌}
use native.Mathlib.Omega.{arith}
use Rattle.bits.specs.Ranges.{sum_below}
use Rattle.bits.proofs.Ranges.{last_or, below_or}
use Rattle.parity.specs.Matrix.{checks}
use Rattle.parity.specs.Steps.Grouped.{low_bit, row_part, stack, Solved}
use Rattle.parity.proofs.Spread.{checks-row, row-checks}
use Rattle.parity.proofs.Rows.{bit_lt, stack_more, stack-column, edge, edge_in, edge_out, column-sum, Solvable, row-shape, row-later}

module _ (T : List ℕ) (kb m rows columns z : ℕ) (w : List ℕ) (S : Solvable T kb m rows columns) where
  abbrev together : ℕ → ℕ → ℕ
  together r u = stack T columns z w (suc kb) r u

  -- the staircase's rows over column kb too: its own bit comes in once, and the outer entries twice
  whole : (u : ℕ) → u < z → (together m u + low_bit w (kb * z + u)) % 2 ≡ stack T columns z w kb m u % 2
  whole u low = by_rows m refl
    where
      by_rows : (n : ℕ) → n ≡ m → (together m u + low_bit w (kb * z + u)) % 2 ≡ stack T columns z w kb m u % 2
      by_rows zero e = absurd (omega (arith, S.stairs.before))
      by_rows (suc n) e = omega (arith, stack-column T columns z w kb m u, column-sum T kb m columns z w S.stairs u low n e)

  -- the rows before n, together
  telescope : (u : ℕ) → u < z → ((i : ℕ) → i < m → row_part T columns z w columns i u % 2 ≡ 0)
      → (n : ℕ) → n ≤ m → (together n u + edge w kb m z u n) % 2 ≡ 0
  unfolding stack sum_below edge
  telescope u low h zero l = refl
  telescope u low h (suc n) l =
      omega (arith, telescope u low h n (omega arith), h n l, row-shape T kb m rows columns z w S u low n l)

  -- the other way: in a word that solves the staircase each stair is what the rows before it sum to
  stair-sum : Solved T kb m rows columns z w → (u : ℕ) → u < z → (n : ℕ) → n ≤ m → (together n u + edge w kb m z u n) % 2 ≡ 0
  unfolding stack sum_below edge
  stair-sum s u low zero l = refl
  stair-sum s u low (suc n) l =
      last_or (suc n) m (omega arith)
      (λ h. omega (arith, edge_in w kb m z u n h, s.next (suc n) u (omega arith) h low))
      (λ e. omega (arith, whole u low, s.first u low, edge_out w kb m z u (suc n) (omega arith), ap (λ (r : ℕ). together r u) e))

  -- so a row's own sum is even: between two stairs, or with its own column
  pub solved-checked : Solved T kb m rows columns z w → checks T rows columns z w ≡ true
  solved-checked s =
      row-checks T columns z w rows
      (λ i u l low.
      below_or i m
      (λ h. omega (
        arith,
        row-shape T kb m rows columns z w S u low i h,
        stair-sum s u low i (omega arith),
        stair-sum s u low (suc i) h,
        stack_more T columns z w (suc kb) i u,
      ))
      (λ h. omega (arith, row-later T kb m rows columns z w S u low i h l, s.later i u h l low)))

  module _ (e : checks T rows columns z w ≡ true) where
    even : (i u : ℕ) → i < rows → u < z → row_part T columns z w columns i u % 2 ≡ 0
    even i u h low = checks-row T columns z w rows e i u h low

    stairs : (u : ℕ) → u < z → (n : ℕ) → n ≤ m → (together n u + edge w kb m z u n) % 2 ≡ 0
    stairs u low = telescope u low (λ i h. even i u (omega (arith, S.tall)) low)

    next : (n u : ℕ) → 0 < n → n < m → u < z → low_bit w ((kb + n) * z + u) ≡ together n u % 2
    next zero u p l low = absurd (omega arith)
    next (suc n) u p l low = omega (arith, stairs u low (suc n) (omega arith), edge_in w kb m z u n l, bit_lt w ((kb + suc n) * z + u))

    pub checked-solved : Solved T kb m rows columns z w
    checked-solved =
        record {
          first = λ u low.
              omega (arith, whole u low, stairs u low m (omega arith), edge_out w kb m z u m (omega arith), bit_lt w (kb * z + u));
          next = next;
          later = λ n u h l low. omega (arith, even n u l low, row-later T kb m rows columns z w S u low n h l, bit_lt w ((kb + n) * z + u));
        }
