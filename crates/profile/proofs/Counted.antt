-- What a chain over the numbers 0 to n − 1 answers that tests each of them, or looks for the first.
use mathlib.Core.Path.{◌≡◌, refl, sym, ap, ap₂, ◌∙◌}
use mathlib.Core.Bool.{Bool, true, false, and-true, and_assoc, ◌&&◌}
use Prim.Native.Nat.{ℕ, zero, suc, ◌+◌, ◌≤◌, ◌<◌}
use native.Mathlib.Omega.{arith}
use Rattle.std.proofs.iter.Yields.{nat_range_steps}
use Rattle.std.proofs.lemmas.Iterator.{YieldsList-from_range, first_from_Range}
use Rattle.std.proofs.lemmas.Iterator.Search.{all_from_yields_List}
use Rattle.std.specs.Fn.{Called, CalledAt}
use Rattle.std.specs.Iterator.{YieldsThen}
use Rattle.std.specs.List.{FoldsTo, list_all, range_with_len}
use Rattle.std.specs.Bool.{⊤}
use Rattle.std.specs.Option.{MatchOption, IfSome, unwrap_or}
use Rattle.std.specs.Prelude.{List, [], ◌∷◌, Option, Some, None}
use denote.Ref.{Bor}
use lib.ListN.{length, get_or}
use Rattle.std.specs.declared.ops.Range.{Range}
use denote.Param.Members.{Mut}
use Rattle.bits.specs.Ranges.{all_below, first_below}
use Rattle.bits.proofs.Ranges.{all_same, any_none, first-none, first-is}

-- the first number may be tested before the others
first_before : (p : ℕ → Bool) (n : ℕ) → all_below (suc n) p ≡ p 0 && all_below n (λ k. p (suc k))
unfolding all_below
first_before p zero = sym (and-true (p 0))
first_before p (suc n) = rw (first_before p n) (and_assoc (p 0) (all_below n (λ k. p (suc k))) (p (suc n)))

from_there : (p : ℕ → Bool) (n a : ℕ) → list_all p (range_with_len a n) ≡ all_below n (λ k. p (a + k))
unfolding all_below
from_there p zero a = refl
from_there p (suc n) a =
    ap₂ (λ (b d : Bool). b && d) (ap p (omega arith)) (from_there p n (a + 1) ∙ all_same n _ _ (λ k l. ap p (omega arith)))
    ∙ sym (first_before (λ k. p (a + k)) n)

-- `all` over a range, by what it ran
pub all_in_range : {F : Type 0} {g : Mut F (ℕ × Unit {0}) Bool} {f : F} {u : Range ℕ} {r : Bool} {m : ℕ} (p : ℕ → Bool) (n : ℕ)
    → (xs : List ℕ) × (o : Option ℕ) × (j : F) × YieldsThen nat_range_steps (record { start = 0; end = m }) xs o u
    × FoldsTo (λ h x q. Called g h (x, tt) true q) f xs j
    × MatchOption o (r ≡ true) (λ x. (r ≡ false) × ((h : F) × Called g j (x, tt) false h))
    → m ≡ n → ((x : ℕ) (b : Bool) (q : F) → Called g f (x, tt) b q → (q ≡ f) × (b ≡ p x)) → r ≡ all_below n p
all_in_range {f = f} {u = u} {r = r} {m = m} p n ran e each =
    all_from_yields_List p u f r ran (YieldsList-from_range 0 m n refl (omega arith)) each ∙ from_there p n 0
    ∙ all_same n _ _ (λ k l. ap p (omega arith))

-- the same over a list
pub all_in_list : (p : ℕ → Bool) (xs : List ℕ) → list_all p xs ≡ all_below (length xs) (λ k. p (get_or xs k 0))
unfolding all_below
all_in_list p [] = refl
all_in_list p (x ∷ xs) = ap (λ (b : Bool). p x && b) (all_in_list p xs) ∙ sym (first_before (λ k. p (get_or (x ∷ xs) k 0)) (length xs))

-- ---- the first number that passes

-- `find` over a range, by what it ran
pub first_in_range : {F : Type 0} {g : Mut F (Bor ℕ × Unit {0}) Bool} {f : F} {m : ℕ} (p : ℕ → Bool) (n : ℕ) (u : Range ℕ) (r : Option ℕ)
    → (xs : List ℕ) × (j : F) × YieldsThen nat_range_steps (record { start = 0; end = m }) xs r u
    × FoldsTo (λ h x q. CalledAt g h x false q) f xs j × MatchOption r ⊤ (λ x. (h : F) × CalledAt g j x true h)
    → m ≡ n → ((x : ℕ) (b : Bool) (q : F) → CalledAt g f x b q → (q ≡ f) × (b ≡ p x))
    → (unwrap_or r n ≡ first_below n p) × IfSome r (λ i. i < n)
first_in_range {f = f} {m = m} p n u r ran e each =
    by_value r
    (first_from_Range (record { start = 0; end = m }) u f r (λ x. p x ≡ true) (λ x. p x ≡ false) ran
    (λ x q k. sym (each x true q k).1) (λ x q k. ((each x false q k).0, sym (each x false q k).1)))
  where
    by_value : (o : Option ℕ)
        → MatchOption o ((k : ℕ) → 0 ≤ k → k < m → p k ≡ false) (λ i. (0 ≤ i) × (i < m) × (p i ≡ true) × ((k : ℕ) → 0 ≤ k → k < i → p k ≡ false))
        → (unwrap_or o n ≡ first_below n p) × IfSome o (λ i. i < n)
    by_value None none = (sym (first-none n p (any_none n p (λ k l. none k (omega arith) (omega arith)))), tt)
    by_value (Some i) found =
        let below : i < n = omega (arith, found.1) in
        (sym (first-is n p i (record { below = below; holds = found.2; none = λ k l. found.3 k (omega arith) l })), below)
