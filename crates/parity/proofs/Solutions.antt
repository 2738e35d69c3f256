-- For all places there is a word that solves the staircase and its extension behind them: the columns that are due, appended one at a time.
use mathlib.Core.Path.{◌≡◌, sym, ap, ◌∙◌}
use mathlib.Core.List.{List, ◌++◌}
use Prim.Native.Nat.{ℕ, zero, suc, ◌+◌, ◌-◌, ◌*◌, ◌%◌, ◌≤◌, ◌<◌}
use native.Mathlib.Nat.{add-zero, add-suc, mul-le-mul_right}
use native.Mathlib.Omega.{arith}
use lib.ListN.{length, get_or, length-append, get_or-append}
use lib.Seq.{get_or-append-add}
use Rattle.bits.specs.Ranges.{list_below}
use Rattle.bits.proofs.Listed.{length_list, at_list}
use Rattle.parity.specs.Steps.Grouped.{due, Solution, Begun}
use Rattle.parity.proofs.Rows.{same_bit}
use Rattle.parity.proofs.Unique.{column-next, due-same, begun_solution}

-- the places, and n columns behind them, each as it is due from those before it
pub grown : List ℕ → ℕ → ℕ → ℕ → ℕ → List ℕ → ℕ → List ℕ
grown T kb m columns z sys zero = sys
grown T kb m columns z sys (suc n) = grown T kb m columns z sys n ++ list_below z (λ u. due T kb m columns z (grown T kb m columns z sys n) n u % 2)

module _ (T : List ℕ) (kb m rows columns z : ℕ) (sys : List ℕ) (size : length sys ≡ kb * z) where
  abbrev word : ℕ → List ℕ
  word n = grown T kb m columns z sys n

  abbrev rule : ℕ → ℕ → ℕ
  rule n u = due T kb m columns z (word n) n u % 2

  grown-length : (n : ℕ) → length (word n) ≡ (kb + n) * z
  unfolding grown
  grown-length zero = size ∙ ap (λ (x : ℕ). x * z) (sym (add-zero kb))
  grown-length (suc n) = length-append (word n) (list_below z (rule n)) ∙ omega (arith, grown-length n, length_list z (rule n), column-next kb n z)

  -- what is there stays
  grown-stays : (n d p : ℕ) → p < (kb + n) * z → get_or (word (n + d)) p 0 ≡ get_or (word n) p 0
  unfolding grown
  grown-stays n zero p l = ap (λ (x : ℕ). get_or (word x) p 0) (add-zero n)
  grown-stays n (suc d) p l =
      let more : (kb + n) * z ≤ (kb + (n + d)) * z = mul-le-mul_right z (omega arith) in
      ap (λ (x : ℕ). get_or (word x) p 0) (add-suc n d)
      ∙ get_or-append (word (n + d)) (list_below z (rule (n + d))) 0 p (omega (arith, grown-length (n + d)))
      ∙ grown-stays n d p l

  grown-column : (n u : ℕ) → u < z → get_or (word (suc n)) ((kb + n) * z + u) 0 ≡ rule n u
  unfolding grown
  grown-column n u low =
      ap (λ (x : ℕ). get_or (word n ++ list_below z (rule n)) (x + u) 0) (sym (grown-length n))
      ∙ get_or-append-add (word n) (list_below z (rule n)) u 0 ∙ at_list z (rule n) u low

  -- in the whole word
  stays : (n : ℕ) → n ≤ rows → (p : ℕ) → p < (kb + n) * z → get_or (word rows) p 0 ≡ get_or (word n) p 0
  stays n h p l =
      let e : n + (rows - n) ≡ rows = omega arith in
      ap (λ (x : ℕ). get_or (word x) p 0) (sym e) ∙ grown-stays n (rows - n) p l

  grown-begun : columns ≡ kb + rows → Begun T kb m columns z sys rows (word rows)
  unfolding grown
  grown-begun wide =
      record {
        size = grown-length rows ∙ ap (λ (x : ℕ). x * z) (sym wide);
        front = λ p l. stays 0 (omega arith) p (omega (arith, ap (λ (x : ℕ). x * z) (add-zero kb)));
        laid = λ n u l low.
            stays (suc n) l ((kb + n) * z + u) (omega (arith, column-next kb n z)) ∙ grown-column n u low
            ∙ ap (λ (x : ℕ). x % 2)
            (due-same T kb m columns z (word n) (word rows) n u low (λ p o. same_bit (word n) (word rows) p (sym (stays n (omega arith) p o))));
      }

  pub some_solution : 0 < m → m ≤ rows → columns ≡ kb + rows → Solution T kb m rows columns z sys (grown T kb m columns z sys rows)
  some_solution some tall wide = begun_solution T kb m rows columns z sys (word rows) some tall wide (grown-begun wide)
