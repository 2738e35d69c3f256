-- A word is determined column by column: what a parity column is due depends on the columns before it only. So two words that solve the staircase and its
-- extension from the same places are equal.
use mathlib.Core.Path.{◌≡◌, refl, sym, ap, ◌∙◌}
use mathlib.Core.List.{List}
use Prim.Native.Nat.{ℕ, zero, suc, ◌+◌, ◌-◌, ◌*◌, ◌/◌, ◌%◌, ◌≤◌, ◌<◌}
use native.Mathlib.Nat.{suc-mul, add-zero, mod-lt, mul-le-mul_right, div-add-mod', div-lt_iff_lt-mul, le-div_iff_mul-le}
use native.Mathlib.Omega.{arith}
use lib.ListN.{length, get_or, get_or-eq_default}
use lib.Seq.{ext_get_or}
use borrow.Author.Tests.{lt-ltb, le-ltb}
use Rattle.bits.proofs.Ranges.{below_or}
use Rattle.parity.specs.Steps.Grouped.{low_bit, row_part, stack, due, Solved, Solution, Begun}
use Rattle.parity.proofs.Rows.{part_same, stack_same}

-- a place past the systematic ones: its column and its place in the column
pub place : {A : Type 0} (kb m z p : ℕ) → kb * z ≤ p → p < (kb + m) * z → ((n u : ℕ) → n < m → u < z → (kb + n) * z + u ≡ p → A) → A
place {A} kb m z p lo hi f = by_size z refl
  where
    by_size : (y : ℕ) → y ≡ z → A
    by_size zero e = absurd (omega (arith, ap (λ (x : ℕ). (kb + m) * x) e))
    by_size (suc y) e =
        let some : 0 < z = omega arith in
        let a : kb ≤ p / z = (le-div_iff_mul-le some).1 lo in
        let b : p / z < kb + m = (div-lt_iff_lt-mul some).1 hi in
        let c : kb + (p / z - kb) ≡ p / z = omega arith in
        f (p / z - kb) (p % z) (omega arith) (mod-lt p some) (ap (λ (x : ℕ). x * z + p % z) c ∙ div-add-mod' p z)

-- ---- what a column is due, by its three kinds

module _ (T : List ℕ) (kb m columns z : ℕ) (w : List ℕ) where
  pub due-first : (u : ℕ) → due T kb m columns z w 0 u ≡ stack T columns z w kb m u
  unfolding due
  due-first u = refl

  pub due-next : (n u : ℕ) → 0 < n → n < m → due T kb m columns z w n u ≡ stack T columns z w (suc kb) n u
  unfolding due
  due-next zero u h l = absurd (omega arith)
  due-next (suc n) u h l = rw (lt-ltb (suc n) m l)

  pub due-later : (n u : ℕ) → 0 < m → m ≤ n → due T kb m columns z w n u ≡ row_part T columns z w (kb + n) n u
  unfolding due
  due-later zero u s h = absurd (omega arith)
  due-later (suc n) u s h = rw (le-ltb (suc n) m h)

  zeroth : (u : ℕ) → kb * z + u ≡ (kb + 0) * z + u
  zeroth u = ap (λ (x : ℕ). x * z + u) (sym (add-zero kb))

  solved-due : {rows : ℕ} → 0 < m → Solved T kb m rows columns z w
      → (n u : ℕ) → n < rows → u < z → low_bit w ((kb + n) * z + u) ≡ due T kb m columns z w n u % 2
  unfolding due
  solved-due some s zero u l low = sym (ap (low_bit w) (zeroth u)) ∙ s.first u low
  solved-due some s (suc n) u l low =
      below_or (suc n) m (λ h. s.next (suc n) u (omega arith) h low ∙ ap (λ (x : ℕ). x % 2) (sym (due-next (suc n) u (omega arith) h)))
      (λ h. s.later (suc n) u h l low ∙ ap (λ (x : ℕ). x % 2) (sym (due-later (suc n) u some h)))

  due-solved : {rows : ℕ} → 0 < m → m ≤ rows → ((n u : ℕ) → n < rows → u < z → low_bit w ((kb + n) * z + u) ≡ due T kb m columns z w n u % 2)
      → Solved T kb m rows columns z w
  due-solved some more h =
      record {
        first = λ u low. ap (low_bit w) (zeroth u) ∙ h 0 u (omega arith) low ∙ ap (λ (x : ℕ). x % 2) (due-first u);
        next = λ n u p l low. h n u (omega arith) low ∙ ap (λ (x : ℕ). x % 2) (due-next n u p l);
        later = λ n u p l low. h n u l low ∙ ap (λ (x : ℕ). x % 2) (due-later n u some p);
      }

-- where the next column starts
pub column-next : (kb n z : ℕ) → (kb + suc n) * z ≡ (kb + n) * z + z
column-next kb n z = ap (λ (x : ℕ). x * z) {x = kb + suc n} {y = suc (kb + n)} (omega arith) ∙ suc-mul (kb + n) z

-- ---- two words that agree before column kb + n are due the same there

module _ (T : List ℕ) (kb m columns z : ℕ) (v w : List ℕ) where
  pub due-same : (n u : ℕ) → u < z → ((p : ℕ) → p < (kb + n) * z → low_bit v p ≡ low_bit w p) → due T kb m columns z v n u ≡ due T kb m columns z w n u
  unfolding due
  due-same zero u low same = stack_same T columns z v w kb (omega arith) (λ p l. same p (omega (arith, ap (λ (x : ℕ). x * z) (add-zero kb)))) m u
  due-same (suc n) u low same =
      let more : suc kb * z ≤ (kb + suc n) * z = mul-le-mul_right z (omega arith) in
      below_or (suc n) m
      (λ h. rw (lt-ltb (suc n) m h) (stack_same T columns z v w (suc kb) (omega arith) (λ p l. same p (omega arith)) (suc n) u))
      (λ h. rw (le-ltb (suc n) m h) (part_same T columns z v w (kb + suc n) (omega arith) same (suc n) u))

  module _ (rows : ℕ) (hv : (n u : ℕ) → n < rows → u < z → low_bit v ((kb + n) * z + u) ≡ due T kb m columns z v n u % 2)
      (hw : (n u : ℕ) → n < rows → u < z → low_bit w ((kb + n) * z + u) ≡ due T kb m columns z w n u % 2)
      (front : (p : ℕ) → p < kb * z → low_bit v p ≡ low_bit w p) where
    columns-same : (n : ℕ) → n ≤ rows → (p : ℕ) → p < (kb + n) * z → low_bit v p ≡ low_bit w p
    columns-same zero h p l = front p (omega (arith, ap (λ (x : ℕ). x * z) (add-zero kb)))
    columns-same (suc n) h p l =
        below_or p ((kb + n) * z) (columns-same n (omega arith) p)
        (λ o.
        let u : ℕ = p - (kb + n) * z in
        let e : (kb + n) * z + u ≡ p = omega arith in
        let low : u < z = omega (arith, column-next kb n z) in
        sym (ap (low_bit v) e) ∙ hv n u (omega arith) low
        ∙ ap (λ (x : ℕ). x % 2) (due-same n u low (columns-same n (omega arith))) ∙ sym (hw n u (omega arith) low) ∙ ap (low_bit w) e)

pub solution_unique : (T : List ℕ) (kb m rows columns z : ℕ) → 0 < m → columns ≡ kb + rows → (sys v w : List ℕ)
    → Solution T kb m rows columns z sys v → Solution T kb m rows columns z sys w → v ≡ w
unfolding low_bit
solution_unique T kb m rows columns z some wide sys v w hv hw =
    ext_get_or 0 v w (hv.size ∙ sym hw.size)
    (λ p l.
    let front : (q : ℕ) → q < kb * z → get_or v q 0 ≡ get_or w q 0 = λ q h. hv.front q h ∙ sym (hw.front q h) in
    let s : length v ≡ (kb + rows) * z = hv.size ∙ ap (λ (n : ℕ). n * z) wide in
    let b = columns-same T kb m columns z v w rows (solved-due T kb m columns z v some hv.solved) (solved-due T kb m columns z w some hw.solved)
    (λ q h. ap (λ (x : ℕ). x % 2) (front q h)) rows (omega arith) p (omega arith) in
    below_or p (kb * z) (front p) (λ h. omega (arith, b, hv.bits p h, hw.bits p h)))

-- ---- all columns laid

pub begun_solution : (T : List ℕ) (kb m rows columns z : ℕ) (sys w : List ℕ) → 0 < m → m ≤ rows → columns ≡ kb + rows
    → Begun T kb m columns z sys rows w → Solution T kb m rows columns z sys w
unfolding low_bit
begun_solution T kb m rows columns z sys w some tall wide b =
    let s : length w ≡ (kb + rows) * z = b.size ∙ ap (λ (n : ℕ). n * z) wide in
    record {
      size = b.size;
      front = b.front;
      bits = λ p h.
          below_or p ((kb + rows) * z)
          (λ l. place kb rows z p h l (λ n u g low q. omega (arith, ap (λ (x : ℕ). get_or w x 0) q, b.laid n u g low)))
          (λ l. omega (arith, get_or-eq_default w 0 {n = p} (omega arith)));
      solved = due-solved T kb m columns z w some tall (λ n u l low. omega (arith, b.laid n u l low));
    }
