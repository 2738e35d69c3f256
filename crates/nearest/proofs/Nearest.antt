-- What is asked of the nearest word holds of its definition.
use mathlib.Core.Path.{◌≡◌, refl, sym, ap₂, ◌∙◌}
use mathlib.Core.Bool.{true, true≢false}
use mathlib.Core.List.{List, [], ◌∷◌}
use Prim.Native.Nat.{ℕ, zero, suc, ◌^◌, ◌≤◌, ◌<◌}
use native.Mathlib.Nat.{le_refl}
use native.Mathlib.Omega.{arith}
use borrow.Author.Tests.{ltb-true, leb-true, le-leb, lt-leb, eq-eqb, ne_eqb}
use lib.Dec.{ltb, leb}
use lib.ListN.{length}
use lib.Pow.{pow_pos}
use Rattle.bits.specs.Ranges.{all_below, first_below}
use Rattle.bits.proofs.Ranges.{last_or, below_or, equal_or, all-at, all_of, all_fails, any_of, First, first_some, first-is}
use Rattle.nearest.specs.Nearest.{unlike, differences, away, is_nearest, nearest}

-- ---- differences

unlike_self : (x : ℕ) → unlike x x ≡ 0
unfolding unlike
unlike_self x = rw (eq-eqb x x refl)

alike : (x y : ℕ) → unlike x y ≡ 0 → x ≡ y
unfolding unlike
alike x y e = equal_or x y (λ q. q) (λ n. let one : unlike x y ≡ 1 = rw (ne_eqb x y n) in absurd (omega arith))

-- a list differs from itself nowhere
pub differences-none : (s : List ℕ) → differences s s ≡ 0
unfolding differences
differences-none [] = refl
differences-none (x ∷ s) = omega (arith, unlike_self x, differences-none s)

-- and from no other of its length
pub differences-same : (s t : List ℕ) → length s ≡ length t → differences s t ≡ 0 → s ≡ t
unfolding differences
differences-same [] [] l e = refl
differences-same [] (y ∷ t) l e = absurd (omega arith)
differences-same (x ∷ s) [] l e = absurd (omega arith)
differences-same (x ∷ s) (y ∷ t) l e =
    ap₂ (λ (a : ℕ) (b : List ℕ). a ∷ b) (alike x y (omega arith)) (differences-same s t (omega arith) (omega arith))

-- ---- the nearest

-- among the numbers below n some place is lowest
record Lowest (n : ℕ) (g : ℕ → ℕ) : Type 0 where
  place : ℕ
  below : place < n
  low : (k : ℕ) → k < n → g place ≤ g k

lowest : (n : ℕ) (g : ℕ → ℕ) → Lowest (suc n) g
lowest zero g =
    record {
      place = 0;
      below = omega arith;
      low = λ k l. let e : k ≡ 0 = omega arith in rw e (le_refl (g 0));
    }
lowest (suc n) g =
    let before = lowest n g in
    below_or (g (suc n)) (g before.place)
    (λ l.
    record {
      place = suc n;
      below = omega arith;
      low = λ k m. last_or k (suc n) m (λ o. omega (arith, before.low k o)) (λ e. rw e (le_refl (g (suc n))));
    })
    (λ h.
    record {
      place = before.place;
      below = omega (arith, before.below);
      low = λ k m. last_or k (suc n) m (λ o. before.low k o) (λ e. rw e h);
    })

module _ (D : ℕ) (heard : List ℕ) where
  found : First (2 ^ D) (is_nearest D heard) (nearest D heard)
  unfolding nearest is_nearest
  found = some (2 ^ D) (pow_pos D)
    where
      some : (n : ℕ) → 0 < n → First n (λ j. all_below n (λ k. leb (away D heard j) (away D heard k))) (first_below n (λ j. all_below n (λ k. leb (away D heard j) (away D heard k))))
      some zero h = absurd (omega arith)
      some (suc n) h =
          let l = lowest n (away D heard) in
          first_some (suc n) (λ j. all_below (suc n) (λ k. leb (away D heard j) (away D heard k)))
          (any_of (suc n) (λ j. all_below (suc n) (λ k. leb (away D heard j) (away D heard k))) l.place l.below
          (all_of (suc n) (λ k. leb (away D heard l.place) (away D heard k)) (λ k m. le-leb _ _ (l.low k m))))

  -- it is a word of D bits
  pub nearest_lt : nearest D heard < 2 ^ D
  nearest_lt = found.below

  -- "No word may exist with fewer differences than reported"
  pub none_fewer : (k : ℕ) → k < 2 ^ D → away D heard (nearest D heard) ≤ away D heard k
  unfolding is_nearest
  none_fewer k l = leb-true _ _ (all-at (2 ^ D) (λ k. leb (away D heard (nearest D heard)) (away D heard k)) found.holds k l)

  -- "Among equals take the smallest"
  pub smallest_of_equals : (k : ℕ) → k < 2 ^ D → away D heard k ≡ away D heard (nearest D heard) → nearest D heard ≤ k
  unfolding is_nearest
  smallest_of_equals k l e =
      below_or k (nearest D heard)
      (λ m. absurd (true≢false (sym (all_of (2 ^ D) (λ j. leb (away D heard k) (away D heard j)) (λ j o. le-leb _ _ (as-low j o))) ∙ found.none k m)))
      (λ h. h)
    where
      as-low : (j : ℕ) → j < 2 ^ D → away D heard k ≤ away D heard j
      as-low j o = omega (arith, none_fewer j o)

  -- a word that no word is nearer than, and every word before it is further away than
  pub nearest-is : (n : ℕ) → n < 2 ^ D → all_below (2 ^ D) (λ k. leb (away D heard n) (away D heard k)) ≡ true
      → all_below n (λ j. ltb (away D heard n) (away D heard j)) ≡ true → nearest D heard ≡ n
  unfolding nearest is_nearest
  nearest-is n l fewest before =
      first-is (2 ^ D) (is_nearest D heard) n
      (record {
        below = l;
        holds = fewest;
        none = λ j m.
            all_fails (2 ^ D) (λ k. leb (away D heard j) (away D heard k)) n l
            (lt-leb (away D heard j) (away D heard n) (ltb-true (away D heard n) (away D heard j) (all-at n (λ j. ltb (away D heard n) (away D heard j)) before j m)));
      })
