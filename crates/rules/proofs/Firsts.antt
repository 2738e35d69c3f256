-- Laws of the first number below n at which a test fails.
use mathlib.Core.Path.{◌≡◌, refl, sym, subst, ◌∙◌}
use Rattle.std.specs.Prelude.{Option, Some, None, List, cond, nat_lt}
use Rattle.std.specs.List.{position, position_or_len}
use Rattle.std.proofs.lemmas.List.Sums.{prefix_len_passes, prefix_len_stops}
use mathlib.Core.Bool.{Bool, true, false, not, ◌&&◌}
use Prim.Native.Nat.{ℕ, ◌≤◌, ◌<◌}
use native.Mathlib.Omega.{arith}
use lib.Dec.{ltb}
use lib.ListN.{length, get_or}
use borrow.Author.Tests.{not-true, not-false, ltb-true, ltb-false, lt-ltb, le-ltb}
use Rattle.bits.specs.Ranges.{all_below, any_below}
use Rattle.bits.proofs.Ranges.{below_or, all-at, all_of, all_fails, none_any, first_some, first-none, first-is}
use Rattle.rules.specs.Rules.{first_not}
use Rattle.rules.specs.Steps.Walks.{FirstNot, TestWith, FirstWith, FoundFirst}

module _ (n : ℕ) (p : ℕ → Bool) where
  abbrev fails : ℕ → Bool
  fails k = not (p k)

  pub first-at : (k : ℕ) → k < n → ((j : ℕ) → j < k → p j ≡ true) → p k ≡ false → k ≡ first_not n p
  unfolding first_not
  first-at k l h e = sym (first-is n fails k (record { below = l; holds = rw e; none = λ j o. rw (h j o) }))

  module _ {r : ℕ} (is : r ≡ first_not n p) where
    pub first-fails : r < n → p r ≡ false
    unfolding first_not
    first-fails l = by_value (any_below n fails) refl
      where
        by_value : (b : Bool) → any_below n fails ≡ b → p r ≡ false
        by_value true e = rw is (not-true _ (first_some n fails e).holds)
        by_value false e = absurd (omega (arith, first-none n fails e))

    pub first-all : n ≤ r → all_below n p ≡ true
    unfolding first_not
    first-all l = by_value (any_below n fails) refl
      where
        by_value : (b : Bool) → any_below n fails ≡ b → all_below n p ≡ true
        by_value true e = absurd (omega (arith, (first_some n fails e).below))
        by_value false e = all_of n p (λ k h. not-false (p k) (none_any n fails e k h))

    pub first-before : (j : ℕ) → j < r → j < n → p j ≡ true
    unfolding first_not
    first-before j l h = by_value (any_below n fails) refl
      where
        by_value : (b : Bool) → any_below n fails ≡ b → p j ≡ true
        by_value true e = not-false (p j) ((first_some n fails e).none j (omega arith))
        by_value false e = not-false (p j) (none_any n fails e j h)

    pub first-some-not : r < n → all_below n p ≡ false
    first-some-not l = all_fails n p r l (first-fails l)

    -- where the test does not hold of all, it is one of them
    pub first_below : all_below n p ≡ false → r < n
    first_below e = below_or r n (λ l. l) (λ l. absurd (let z : ◌≡◌ {A = Bool} true false = sym (first-all l) ∙ e in let y : ◌≡◌ {A = ℕ} 0 1 = cc in omega arith))

  -- the first of them, where there is one
  pub all_first : all_below n p ≡ true → ltb 0 n && not (p 0) ≡ false
  all_first e = below_or 0 n (λ l. rw (lt-ltb 0 n l, all-at n p e 0 l)) (λ l. rw (le-ltb 0 n l))

-- ---- what is found at the first

pub test-with : {X : Type 0} (b c : Bool) (Q : X → Type 0) (r : Option X) → b ≡ c → TestWith b Q r → TestWith c Q r
test-with b c Q (Some x) e h = (sym e ∙ h.0, h.1)
test-with b c Q None e h = sym e ∙ h

pub first-with : {X : Type 0} (answers : ℕ → Option X → Type 0) (n : ℕ) (p : ℕ → Bool) (Q : ℕ → X → Type 0) (r : Option (ℕ × X))
    → FoundFirst answers n r → ((k : ℕ) (a : Option X) → k < n → answers k a → TestWith (p k) (Q k) a) → FirstWith n p Q r
first-with answers n p Q (Some r) h same =
    let f = h.some r.0 r.1 refl in
    let here = same r.0 (Some r.1) f.0 f.1 in
    (f.0, first-at n p r.0 f.0 (λ j l. same j None (omega (arith, f.0, l)) (f.2 j l)) here.0, here.1)
first-with answers n p Q None h same = all_of n p (λ j l. same j None l (h.none refl j l))

pub not-with : (n : ℕ) (p : ℕ → Bool) (r : Option ℕ) → FirstNot n p r → TestWith (all_below n p) (λ k. (k < n) × (k ≡ first_not n p)) r
not-with n p (Some k) h = (first-some-not n p h.1 h.0, (h.0, h.1))
not-with n p None h = h

-- ---- the place of the first element that passes

pub first-position : (n : ℕ) (p q : ℕ → Bool) (xs : List ℕ) → length xs ≡ n → ((k : ℕ) → k < n → not (q (get_or xs k 0)) ≡ p k)
    → (r : Option ℕ) → r ≡ position q xs → FirstNot n p r
first-position n p q xs e same r is = subst (FirstNot n p) (sym is) (by_value (nat_lt (position_or_len q xs) (length xs)) refl)
  where
    by_value : (b : Bool) → nat_lt (position_or_len q xs) (length xs) ≡ b → FirstNot n p (cond b (Some (position_or_len q xs)) None)
    by_value true l =
        let here : position_or_len q xs < n = omega (arith, ltb-true (position_or_len q xs) (length xs) l) in (
          here,
          first-at n p (position_or_len q xs) here
              (λ j m. sym (same j (omega arith)) ∙ prefix_len_passes (λ x. not (q x)) xs j 0 m)
              (sym (same (position_or_len q xs) here) ∙ prefix_len_stops (λ x. not (q x)) xs 0 (omega (arith, here))),
        )
    by_value false l =
        let all : length xs ≤ position_or_len q xs = ltb-false (position_or_len q xs) (length xs) l in
        all_of n p (λ j m. sym (same j m) ∙ prefix_len_passes (λ x. not (q x)) xs j 0 (omega arith))

pub not_not : (b : Bool) → not (not b) ≡ b
not_not true = refl
not_not false = refl
