-- The kept places of a coded block: of its parts, where none or all are marked, and a search for one.
use mathlib.Core.Path.{◌≡◌, refl, sym, ap}
use mathlib.Core.Bool.{Bool, true, false, cond, ◌&&◌}
use mathlib.Core.List.{List, [], ◌∷◌, ◌++◌}
use Prim.Native.Nat.{ℕ, suc, ◌<◌}
use native.Mathlib.Omega.{arith}
use lib.Dec.{eqb}
use lib.ListN.{length, get_or}
use borrow.Author.Tests.{eq-eqb, ne_eqb}
use Rattle.std.specs.List.{list_all}
use Rattle.matching.specs.Matching.{kept}

pub kept_append : (a b : List ℕ) → kept (a ++ b) ≡ kept a ++ kept b
unfolding kept
kept_append [] b = refl
kept_append (x ∷ a) b = by-mark (eqb x 2) (kept_append a b)
  where
    by-mark : (t : Bool) → kept (a ++ b) ≡ kept a ++ kept b
        → cond t (kept (a ++ b)) (x ∷ kept (a ++ b)) ≡ cond t (kept a) (x ∷ kept a) ++ kept b
    by-mark true e = e
    by-mark false e = ap (λ (l : List ℕ). x ∷ l) e

pub unmarked : (l : List ℕ) → ((k : ℕ) → k < length l → get_or l k 0 ≡ 2 → ⊥) → kept l ≡ l
unfolding kept
unmarked [] h = refl
unmarked (x ∷ l) h = rw (ne_eqb x 2 (h 0 (omega arith))) (ap (λ (r : List ℕ). x ∷ r) (unmarked l (λ k m. h (suc k) (omega arith))))

pub all-marked : (l : List ℕ) → ((k : ℕ) → k < length l → get_or l k 0 ≡ 2) → kept l ≡ []
unfolding kept
all-marked [] h = refl
all-marked (x ∷ l) h = rw (eq-eqb x 2 (h 0 (omega arith))) (all-marked l (λ k m. h (suc k) (omega arith)))

-- ---- a search for a kept place

pub none-kept : (s : List ℕ) → list_all (λ x. eqb x 2) s ≡ eqb (length (kept s)) 0
unfolding kept
none-kept [] = refl
none-kept (x ∷ s) = by-mark (eqb x 2) (none-kept s)
  where
    by-mark : (t : Bool) → list_all (λ x. eqb x 2) s ≡ eqb (length (kept s)) 0
        → (t && list_all (λ x. eqb x 2) s) ≡ eqb (length (cond t (kept s) (x ∷ kept s))) 0
    by-mark true e = e
    by-mark false e = sym (ne_eqb (suc (length (kept s))) 0 (λ z. omega arith))
