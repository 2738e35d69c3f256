-- The sums of the rows, column by column: a group doubled, an entry, a row and a column more, and the test of the sums.
use mathlib.Core.Path.{◌≡◌, refl, sym, ap, ◌∙◌, subst, subst₂}
use mathlib.Core.Bool.{Bool, true, false, not, true≢false}
use mathlib.Core.List.{List}
use Prim.Native.Nat.{ℕ, suc, ◌+◌, ◌-◌, ◌*◌, ◌%◌, ◌≤◌, ◌<◌}
use native.Mathlib.Nat.{le_antisymm, zero-add, add_comm, suc-mul, mul-le-mul_right, mod-eq_of_lt, mod-eq-sub-mod}
use native.Mathlib.Numerals.{add-one}
use native.Mathlib.Omega.{arith}
use lib.ListN.{length, get_or, take, drop, replicate, length-replicate, length-take, get_or-eq_default}
use lib.Seq.{length-take-le, get_or-take, get_or-drop}
use borrow.Author.Tests.{eq-eqb, ne_eqb}
use Rattle.bits.specs.Bits.{AreBits}
use Rattle.bits.specs.Ranges.{sum_below, all_below}
use Rattle.bits.proofs.Over.{none_over, not_over}
use Rattle.bits.proofs.Ranges.{last_or, below_or, equal_or, either_way, all-at, all_of}
use Rattle.profile.specs.Record.{entry}
use Rattle.parity.specs.Matrix.{checks}
use Rattle.parity.specs.Steps.Grouped.{low_bit, entry_bit, term, row_part, Shape}
use Rattle.parity.specs.Steps.Runs.{lanes, span, Run, copied, added, entered, Doubled, Sums, even_row}
use Rattle.parity.proofs.Spread.{entry_bit_empty, entry_bit_filled, checks-row, row-checks}
use Rattle.parity.proofs.Rows.{part_same}
use Rattle.parity.proofs.Runs.{span-wide, span_fits, zeros-take, run_bits, run_same, copied_lt}

-- ---- groups of z places: those before n lie inside, and where the next one starts

pub group_in : (j n z : ℕ) → j < n → j * z + z ≤ n * z
group_in j n z h = omega (arith, suc-mul j z, mul-le-mul_right {m = suc j} {n = n} z h)

-- ---- a group, doubled

-- n places of the word in either run, of which z are the group's
pub doubled : (w : List ℕ) (base z n : ℕ) (a b c : List ℕ) → z ≤ n → AreBits a → Run n (copied w base) a 0 b → Run n (copied w base) b z c → Doubled w base z c
unfolding copied
doubled w base z n a b c wide h p q =
    record {
      bits = run_bits _ b z n c q (λ k l. copied_lt w base k) (run_bits _ a 0 n b p (λ k l. copied_lt w base k) h);
      at = λ k l.
          below_or k z
          (λ o.
          q.below k o ∙ ap (λ (x : ℕ). get_or b x 0) (sym (zero-add k)) ∙ p.inside k (omega arith)
          ∙ ap (λ (x : ℕ). low_bit w (base + x)) (sym (mod-eq_of_lt o)))
          (λ o.
          let e : z + (k - z) ≡ k = omega arith in
          ap (λ (x : ℕ). get_or c x 0) (sym e) ∙ q.inside (k - z) (omega arith)
          ∙ ap (λ (x : ℕ). low_bit w (base + x)) (sym (mod-eq-sub-mod o ∙ mod-eq_of_lt (omega arith))));
    }

-- ---- an entry

module _ (a : List ℕ) (at s : ℕ) (g : List ℕ) (n : ℕ) where
  pub entered-empty : s ≡ 255 → AreBits a → Run n (entered a at s g) a at a
  unfolding entered
  entered-empty e h =
      record {
        len = refl;
        inside = λ k l. rw (eq-eqb s 255 e) (omega (arith, h (at + k)));
        below = λ p l. refl;
        above = λ p l. refl;
      }

  pub entered-filled : (from : ℕ) (b : List ℕ) → (s ≡ 255 → ⊥) → from ≡ s → Run n (added a at g from) a at b → Run n (entered a at s g) a at b
  unfolding added entered
  entered-filled from b d e r = run_same (λ k l. rw (e, ne_eqb s 255 d)) r

  entered-lt : (k : ℕ) → entered a at s g k < 2
  unfolding entered
  entered-lt k = omega arith

-- read from the doubled group, it is what the entry adds to row u
entered_entry_bit : (z : ℕ) (w : List ℕ) (base s u : ℕ) (a : List ℕ) (at : ℕ) (g : List ℕ) → Doubled w base z g → ((s ≡ 255 → ⊥) → s < z) → u < z
    → entered a at s g u ≡ (get_or a (at + u) 0 + entry_bit z w s base u) % 2
unfolding entered
entered_entry_bit z w base s u a at g d h low =
    ap (λ (x : ℕ). (get_or a (at + u) 0 + x) % 2)
    (equal_or s 255 (λ e. rw (eq-eqb s 255 e) (sym (entry_bit_empty z w s base u e)))
    (λ n. rw (ne_eqb s 255 n)
    (d.at (s + u) (omega (arith, h n)) ∙ ap (λ (x : ℕ). low_bit w (base + x % z)) (add_comm s u) ∙ sym (entry_bit_filled z w s base u n))))

-- ---- the sums

even_none : (b : Bool) → not b ≡ true → b ≡ false
even_none false e = refl
even_none true e = absurd (true≢false (sym e))

module _ (T : List ℕ) (rows columns z : ℕ) (w : List ℕ) where
  part-more : (j i u : ℕ) → row_part T columns z w (suc j) i u ≡ row_part T columns z w j i u + entry_bit z w (get_or T (i * columns + j) 0) (j * z) u
  unfolding row_part sum_below term entry
  part-more j i u = refl

  -- over no column
  sums_none : (s : List ℕ) → length s ≡ rows * lanes → ((k : ℕ) → get_or s k 0 ≡ 0) → Sums T rows columns z w 0 0 s
  unfolding row_part sum_below
  sums_none s e h =
      record {
        size = e;
        bits = λ k. omega (arith, h k);
        done = λ i u l. absurd (omega arith);
        left = λ i u l o low. h (i * lanes + u);
      }

  -- the lanes of all rows, in the front of so many cleared ones
  pub sums-room : (n : ℕ) → rows * lanes ≤ n → Sums T rows columns z w 0 0 (take (rows * lanes) (replicate n 0))
  sums-room n h =
      sums_none (take (rows * lanes) (replicate n 0)) (length-take-le (rows * lanes) (replicate n 0) (omega (arith, length-replicate {A = ℕ} n 0))) (zeros-take (rows * lanes) n)

  -- one row more of column j, in n lanes
  row_made : (j i n : ℕ) (g a b : List ℕ) → Shape T rows columns z → z ≤ n → n ≤ lanes → Doubled w (j * z) z g → i < rows → Sums T rows columns z w j i a
      → Run n (entered a (i * lanes) (get_or T (i * columns + j) 0) g) a (i * lanes) b → Sums T rows columns z w j (i + 1) b
  row_made j i n g a b shape wide fits d h sums r =
      record {
        size = r.len ∙ sums.size;
        bits = run_bits _ a (i * lanes) n b r (λ k l. entered-lt a (i * lanes) (get_or T (i * columns + j) 0) g n k) sums.bits;
        done = λ i' u l low.
            last_or i' i (omega arith) (λ o. r.below (i' * lanes + u) (omega arith) ∙ sums.done i' u o low)
            (λ q. here i' u q low);
        left = λ i' u l o low. r.above (i' * lanes + u) (omega arith) ∙ sums.left i' u (omega arith) o low;
      }
    where
      here : (i' u : ℕ) → i' ≡ i → u < z → get_or b (i' * lanes + u) 0 ≡ row_part T columns z w (suc j) i' u % 2
      here i' u q low =
          let e : get_or b (i' * lanes + u) 0 ≡ get_or b (i * lanes + u) 0 = ap (λ (x : ℕ). get_or b (x * lanes + u) 0) q in
          let f : row_part T columns z w (suc j) i' u ≡ row_part T columns z w (suc j) i u = ap (λ (x : ℕ). row_part T columns z w (suc j) x u) q in
          omega (
            arith,
            e,
            f,
            r.inside u (omega arith),
            entered_entry_bit z w (j * z) (get_or T (i * columns + j) 0) u a (i * lanes) g d (shape.shifts (i * columns + j)) low,
            sums.left i u (omega arith) h low,
            part-more j i u,
          )

  pub sums-row : {j i n at e : ℕ} {g a b : List ℕ} → Shape T rows columns z → Doubled w (j * z) z g → i < rows → n ≡ i + 1 → at ≡ i * lanes → e ≡ i * columns + j
      → Sums T rows columns z w j i a → Run (span z) (entered a at (get_or T e 0) g) a at b → Sums T rows columns z w j n b
  sums-row {j} {i} {n} {at} {e} {g} {a} {b} shape d h next p q sums r =
      rw next (row_made j i (span z) g a b shape (span-wide z shape.z_most) (span_fits z shape.z_most) d h sums (subst₂ (λ (x y : ℕ). Run (span z) (entered a x (get_or T y 0) g) a x b) p q r))

  -- a whole column more
  pub sums-column : {j i : ℕ} {s : List ℕ} → rows ≤ i → Sums T rows columns z w j i s → Sums T rows columns z w (j + 1) 0 s
  sums-column {j} {i} {s} h sums =
      record {
        size = sums.size;
        bits = sums.bits;
        done = λ i u l. absurd (omega arith);
        left = λ i' u l o low. rw (add-one j) (sums.done i' u (omega arith) low);
      }

  pub sums-all : {j n : ℕ} {s : List ℕ} → j ≤ n → n ≤ j → Sums T rows columns z w j 0 s → Sums T rows columns z w n 0 s
  sums-all {j} {n} {s} h l sums = subst (λ (x : ℕ). Sums T rows columns z w x 0 s) (le_antisymm h l) sums

  -- a word that is the same in the columns that were added
  pub sums_word : {n : ℕ} {s : List ℕ} (v : List ℕ) → 0 < z → ((p : ℕ) → p < n * z → low_bit w p ≡ low_bit v p)
      → Sums T rows columns z w n 0 s → Sums T rows columns z v n 0 s
  sums_word {n} {s} v some same sums =
      record {
        size = sums.size;
        bits = sums.bits;
        done = λ i u l. absurd (omega arith);
        left = λ i u l o low. sums.left i u l o low ∙ ap (λ (x : ℕ). x % 2) (part_same T columns z w v n some same i u);
      }

  -- over all columns: the sums of every row are 0 exactly where the word checks
  module _ (s : List ℕ) (sums : Sums T rows columns z w columns 0 s) where
    sum-at : (i u : ℕ) → u < z → get_or (take z (drop (i * lanes) s)) u 0 ≡ get_or s (i * lanes + u) 0
    sum-at i u l = get_or-take z (drop (i * lanes) s) u 0 l ∙ get_or-drop (i * lanes) s u 0

    -- past its z sums a row has none
    sum_past : (i u : ℕ) → z ≤ u → get_or (take z (drop (i * lanes) s)) u 0 ≡ 0
    sum_past i u l = get_or-eq_default (take z (drop (i * lanes) s)) 0 {n = u} (omega (arith, length-take z (drop (i * lanes) s)))

    zeros : checks T rows columns z w ≡ true → (i : ℕ) → i < rows → (u : ℕ) → get_or (take z (drop (i * lanes) s)) u 0 ≤ 0
    zeros e i h u =
        below_or u z (λ l. omega (arith, sum-at i u l, sums.left i u (omega arith) h l, checks-row T columns z w rows e i u h l))
        (λ l. omega (arith, sum_past i u l))

    even-rows : checks T rows columns z w ≡ true → all_below rows (even_row s z) ≡ true
    unfolding even_row
    even-rows e = all_of rows (even_row s z) (λ i h. ap not (not_over 0 (take z (drop (i * lanes) s)) (zeros e i h)))

    rows-even : all_below rows (even_row s z) ≡ true → checks T rows columns z w ≡ true
    unfolding even_row
    rows-even e =
        row-checks T columns z w rows
        (λ i u h l.
        omega (
          arith,
          sums.left i u (omega arith) h l,
          sum-at i u l,
          none_over 0 (take z (drop (i * lanes) s)) (even_none _ (all-at rows (even_row s z) e i h)) u,
        ))

    pub sums-checks : all_below rows (even_row s z) ≡ checks T rows columns z w
    sums-checks = either_way (all_below rows (even_row s z)) (checks T rows columns z w) rows-even even-rows
