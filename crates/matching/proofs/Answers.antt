-- What the call answers, by its tests.
use mathlib.Core.Path.{◌≡◌, sym, ◌∙◌}
use mathlib.Core.Bool.{Bool, false, not}
use mathlib.Core.List.{List, [], ◌∷◌, ◌++◌}
use Prim.Native.Nat.{ℕ, ◌≤◌}
use borrow.Author.Tests.{ltb-false}
use lib.Dec.{ltb, lit<}
use lib.ListN.{length, drop}
use Rattle.bits.specs.Bits.{some_over}
use Rattle.bits.specs.Ranges.{within}
use Rattle.bits.proofs.Answers.{passed, when-done, when_refused}
use Rattle.matching.specs.Matching.{matched_from, misversioned}
use Rattle.matching.specs.Promises.{unmatchable, match_number, RateMatched}

module _ (coded : List ℕ) (kind rv e : ℕ) (out : List ℕ) where
  pub match_passed : match_number coded kind rv e (length out) ≡ 0
      → (misversioned kind rv ≡ false) × (unmatchable coded e ≡ false) × (e ≤ length out)
  unfolding match_number
  match_passed z =
      let last : List (ℕ × Bool) = (12, some_over 2 coded) ∷ [] in
      let room : List (ℕ × Bool) = (11, ltb (length out) e) ∷ last in
      let asked : List (ℕ × Bool) = (8, unmatchable coded e) ∷ room in
      let first = passed 5 ((16, misversioned kind rv) ∷ asked) (not (within 1 2 kind)) (lit< tt) z in
      let second = passed 16 asked (misversioned kind rv) (lit< tt) first.1 in
      let third = passed 8 room (unmatchable coded e) (lit< tt) second.1 in
      let fourth = passed 11 last (ltb (length out) e) (lit< tt) third.1 in
      (second.0, third.0, ltb-false (length out) e fourth.0)

  module _ (n : ℕ) (found : n ≡ match_number coded kind rv e (length out)) where
    pub match-refused : (n ≡ 0 → ⊥) → RateMatched coded kind rv e out (record { number = n; count = 0 }) out
    match-refused h =
        let refused : match_number coded kind rv e (length out) ≡ 0 → ⊥ = λ z. h (found ∙ z) in
        record { number = found; count = sym (when_refused _ e 0 refused); output = sym (when_refused _ (matched_from kind rv coded e ++ drop e out) out refused) }

    pub match-done : n ≡ 0 → (out' : List ℕ) → out' ≡ matched_from kind rv coded e ++ drop e out → RateMatched coded kind rv e out (record { number = n; count = e }) out'
    match-done h out' w =
        let done : match_number coded kind rv e (length out) ≡ 0 = sym found ∙ h in
        record { number = found; count = sym (when-done _ e 0 done); output = w ∙ sym (when-done _ (matched_from kind rv coded e ++ drop e out) out done) }
