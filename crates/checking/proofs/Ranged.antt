-- What `all` and `any` answer over the numbers below n.
use mathlib.Core.Path.{◌≡◌, sym, subst, ◌∙◌}
use mathlib.Core.Bool.{Bool, true, false}
use Prim.Native.Nat.{ℕ, ◌<◌}
use native.Mathlib.Nat.{zero-add}
use native.Mathlib.Omega.{arith}
use lib.ListN.{length, get_or}
use Rattle.std.specs.Bool.{MatchBool}
use Rattle.std.specs.List.{range_with_len, AllWithin, HoldsAt}
use Rattle.std.proofs.lemmas.List.FromFn.{length-range_with_len, get_or-range_with_len}
use Rattle.bits.specs.Ranges.{any_below}
use Rattle.bits.proofs.Ranges.{any_of, any_none}

abbrev pub Every : (ℕ → Type 0) → ℕ → Type 0
Every P n = AllWithin P (range_with_len 0 n) 0 (length (range_with_len 0 n))

abbrev pub One : (ℕ → Type 0) → ℕ → Type 0
One P n = (k : ℕ) × (k < length (range_with_len 0 n)) × HoldsAt P (range_with_len 0 n) k

module _ (P : ℕ → Type 0) (n : ℕ) where
  at : (k : ℕ) → k < n → P (get_or (range_with_len 0 n) k 0) → P k
  at k l h = subst P (get_or-range_with_len 0 n k 0 l ∙ zero-add k) h

  pub of_every : Every P n → (k : ℕ) → k < n → P k
  of_every h k l = at k l (h k 0 (omega arith) (omega (arith, length-range_with_len 0 n)))

  pub of_one : One P n → (k : ℕ) × (k < n) × P k
  of_one h = let l : h.0 < n = omega (arith, h.1, length-range_with_len 0 n) in (h.0, l, at h.0 l (h.2 0))

module _ (n : ℕ) (p : ℕ → Bool) (Yes No : ℕ → Type 0) (yes : (k : ℕ) → Yes k → p k ≡ true) (no : (k : ℕ) → No k → p k ≡ false) where
  pub any_ranged : (b : Bool) → MatchBool b (One Yes n) (Every No n) → b ≡ any_below n p
  any_ranged true h = let one = of_one Yes n h in sym (any_of n p one.0 one.1 (yes one.0 one.2))
  any_ranged false h = sym (any_none n p (λ k l. no k (of_every No n h k l)))
