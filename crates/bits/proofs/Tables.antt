-- A rule at every entry of a table, from one test that is computed entry after entry.
use mathlib.Core.Path.{sym, ◌∙◌, subst}
use mathlib.Core.Bool.{Bool, true, ◌&&◌}
use mathlib.Core.List.{List, [], ◌∷◌}
use Prim.Native.Nat.{ℕ, zero, suc, ◌+◌, ◌<◌}
use native.Mathlib.Nat.{add-zero, zero-add, add-suc, suc-add}
use native.Mathlib.Omega.{arith}
use lib.Dec.{T}
use lib.Ieee.Fits.{and_l, and_r}
use lib.ListN.{length, get_or}

-- f holds of each entry and its place, counted from i
abbrev pub every_entry : (ℕ → ℕ → Bool) → ℕ → List ℕ → Bool
every_entry f i [] = true
every_entry f i (x ∷ xs) = f i x && every_entry f (suc i) xs

entry_from : (f : ℕ → ℕ → Bool) (xs : List ℕ) (i : ℕ) → T (every_entry f i xs) → (k : ℕ) → k < length xs → T (f (i + k) (get_or xs k 0))
entry_from f [] i t k h = absurd (omega arith)
entry_from f (x ∷ xs) i t zero h = subst (λ (m : ℕ). T (f m x)) (sym (add-zero i)) (and_l (f i x) (every_entry f (suc i) xs) t)
entry_from f (x ∷ xs) i t (suc k) h =
    subst (λ (m : ℕ). T (f m (get_or xs k 0))) (suc-add i k ∙ sym (add-suc i k))
    (entry_from f xs (suc i) (and_r (f i x) (every_entry f (suc i) xs) t) k (omega arith))

pub at_entry : (f : ℕ → ℕ → Bool) (xs : List ℕ) → T (every_entry f 0 xs) → (k : ℕ) → k < length xs → T (f k (get_or xs k 0))
at_entry f xs t k h = subst (λ (m : ℕ). T (f m (get_or xs k 0))) (zero-add k) (entry_from f xs 0 t k h)
