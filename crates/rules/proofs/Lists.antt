-- Laws of the first of a list of rules: its range, and of two lists one behind the other.
use mathlib.Core.Path.{◌≡◌, refl}
use mathlib.Core.Bool.{Bool, true, false, ◌&&◌}
use mathlib.Core.List.{List, [], ◌∷◌}
use Prim.Native.Nat.{ℕ, zero, suc, ◌≤◌}
use native.Mathlib.Omega.{arith}
use Rattle.bits.specs.Numbers.{answered}
use Rattle.bits.specs.Ranges.{within}
use Rattle.bits.proofs.Ranges.{both, within-is}
use Rattle.rules.specs.Rules.{or_else}

-- every rule of the list is one of `least` to `most`
unfoldable pub ranged : ℕ → ℕ → List (ℕ × Bool) → Bool
ranged least most [] = true
ranged least most ((k, b) ∷ xs) = within least most k && ranged least most xs

pub answered-most : (least most : ℕ) (xs : List (ℕ × Bool)) → ranged least most xs ≡ true → answered xs ≤ most
unfolding answered ranged
answered-most least most [] e = omega arith
answered-most least most ((k, true) ∷ xs) e = (within-is least most k (both (within least most k) (ranged least most xs) e).0).1
answered-most least most ((k, false) ∷ xs) e = answered-most least most xs (both (within least most k) (ranged least most xs) e).1

pub answered-least : (least most : ℕ) (xs : List (ℕ × Bool)) → ranged least most xs ≡ true → (answered xs ≡ 0 → ⊥) → least ≤ answered xs
unfolding answered ranged
answered-least least most [] e n = absurd (n refl)
answered-least least most ((k, true) ∷ xs) e n = (within-is least most k (both (within least most k) (ranged least most xs) e).0).0
answered-least least most ((k, false) ∷ xs) e n = answered-least least most xs (both (within least most k) (ranged least most xs) e).1 n

-- ---- the first of two

pub or_first : (n later : ℕ) → (n ≡ 0 → ⊥) → or_else n later ≡ n
unfolding or_else
or_first zero later h = absurd (h refl)
or_first (suc n) later h = refl

pub or_later : (n later : ℕ) → n ≡ 0 → or_else n later ≡ later
unfolding or_else
or_later n later e = rw e
