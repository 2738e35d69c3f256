-- What the public call answers, by its tests.
use mathlib.Core.Path.{◌≡◌, refl, sym, ◌∙◌}
use mathlib.Core.Bool.{Bool, true, false, not, cond, ◌||◌}
use mathlib.Core.List.{List, [], ◌∷◌, ◌++◌}
use Prim.Native.Nat.{ℕ, ◌*◌, ◌≤◌}
use native.Mathlib.Omega.{arith}
use lib.Dec.{eqb, ltb, lit<}
use lib.ListN.{length, drop}
use borrow.Author.Tests.{eqb-true, ltb-false, not-false}
use Rattle.bits.specs.declared.number.Refusal.{Refusal}
use Rattle.bits.specs.Bits.{some_over}
use Rattle.bits.specs.Numbers.{answered}
use Rattle.bits.specs.Ranges.{any_below, first_below}
use Rattle.bits.proofs.Answers.{passed, when-done, when_refused, refusal-numbered}
use Rattle.bits.specs.Refusals.{refusal_number}
use Rattle.bits.proofs.Ranges.{equal_or, first_some, first-none}
use Rattle.profile.specs.Record.{kb, t, z, rows, columns}
use Rattle.profile.specs.Promises.{judge_conditions, judged}
use Rattle.profile.proofs.Answers.{judged-first, judged-passed}
use Rattle.parity.specs.Coded.{coded}
use Rattle.parity.specs.Promises.{has_size, table_for, unfit, code_number, BlockCoded}
use Rattle.parity.specs.Steps.Gate.{Taken}

-- ---- the sizes of a record

module _ (R : List ℕ) (z' : ℕ) where
  abbrev at : ℕ
  at = first_below (t R) (λ i. eqb (z R i) z')

  -- the search for z' ends at t where the record has no such size, and before it where it has
  pub size_none : at ≡ t R → has_size R z' ≡ false
  unfolding has_size
  size_none e = by_value (any_below (t R) (λ i. eqb (z R i) z')) refl
    where
      by_value : (b : Bool) → any_below (t R) (λ i. eqb (z R i) z') ≡ b → b ≡ false
      by_value false q = refl
      by_value true q = absurd (let f = first_some (t R) (λ i. eqb (z R i) z') q in omega (arith, f.below))

  pub size-some : (at ≡ t R → ⊥) → has_size R z' ≡ true
  unfolding has_size
  size-some n = by_value (any_below (t R) (λ i. eqb (z R i) z')) refl
    where
      by_value : (b : Bool) → any_below (t R) (λ i. eqb (z R i) z') ≡ b → b ≡ true
      by_value true q = refl
      by_value false q = absurd (n (first-none (t R) (λ i. eqb (z R i) z') q))

  pub unfit-size : (n : ℕ) (w : List ℕ) → has_size R z' ≡ false → unfit R z' n w ≡ true
  unfolding unfit
  unfit-size n w e = rw e

  pub unfit-length : (n : ℕ) (w : List ℕ) → has_size R z' ≡ true → not (eqb (length w) (n * z')) ≡ unfit R z' n w
  unfolding unfit
  unfit-length n w e = rw e

  pub fits : (n : ℕ) (w : List ℕ) → unfit R z' n w ≡ false → (has_size R z' ≡ true) × (length w ≡ n * z')
  unfolding unfit
  fits n w e = by_value (has_size R z') refl e
    where
      by_value : (b : Bool) → has_size R z' ≡ b → not b || not (eqb (length w) (n * z')) ≡ false → (has_size R z' ≡ true) × (length w ≡ n * z')
      by_value true q e = (q, eqb-true (length w) (n * z') (not-false _ e))
      by_value false q e = absurd (let y : ◌≡◌ {A = ℕ} 0 1 = cc in omega arith)

-- no number is 8 where the places fit
pub fit_is : (u : Bool) → ◌≡◌ {A = ℕ} 0 (cond u 8 0) → u ≡ false
fit_is true q = absurd (omega (arith, q))
fit_is false q = refl

-- ---- 5 and 6 as the profile is judged, then the others

pub done_first : (R : List ℕ) (rest : List (ℕ × Bool)) → answered (judge_conditions R ++ rest) ≡ 0 → (judged R ≡ 0) × (answered rest ≡ 0)
done_first R rest e =
    equal_or (judged R) 0 (λ q. (q, sym (judged-passed R rest q) ∙ e)) (λ n. absurd (n (sym (judged-first R rest n) ∙ e)))

-- ---- coding a block

module _ (R : List ℕ) (z' : ℕ) (places : List ℕ) (room : ℕ) where
  abbrev others : List (ℕ × Bool)
  others = (8, unfit R z' (kb R) places) ∷ (11, ltb room (columns R * z')) ∷ (12, some_over 2 places) ∷ []

  pub code_unjudged : (e : Refusal) → refusal_number e ≡ judged R → refusal_number e ≡ code_number R z' places room
  unfolding code_number
  code_unjudged e q = q ∙ sym (judged-first R others (λ n. refusal-numbered e (q ∙ n)))

  -- the code's tests of an accepted profile, in their order
  pub code_in_turn : judged R ≡ 0
      → code_number R z' places room ≡ cond (unfit R z' (kb R) places) 8 (cond (ltb room (columns R * z')) 11 (cond (some_over 2 places) 12 0))
  unfolding code_number answered
  code_in_turn e = judged-passed R others e

  pub code_unfit : (e : Refusal) → judged R ≡ 0 → refusal_number e ≡ cond (unfit R z' (kb R) places) 8 0 → refusal_number e ≡ code_number R z' places room
  code_unfit e accepted q = by_value (unfit R z' (kb R) places) refl q
    where
      by_value : (u : Bool) → unfit R z' (kb R) places ≡ u → refusal_number e ≡ cond u 8 0 → refusal_number e ≡ code_number R z' places room
      by_value true p n = n ∙ sym (code_in_turn accepted ∙ rw p)
      by_value false p n = absurd (refusal-numbered e n)

  pub block-taken : code_number R z' places room ≡ 0 → Taken R z' places × (columns R * z' ≤ room)
  unfolding code_number
  block-taken e =
      let first = done_first R others e in
      let eight = passed 8 _ (unfit R z' (kb R) places) (lit< tt) first.1 in
      let eleven = passed 11 _ (ltb room (columns R * z')) (lit< tt) eight.1 in
      let fit = fits R z' (kb R) places eight.0 in
      (record { judged = first.0; size = fit.0; long = fit.1 }, ltb-false room (columns R * z') eleven.0)

module _ (R : List ℕ) (z' : ℕ) (places out : List ℕ) where
  pub coded-refused : (n : ℕ) → n ≡ code_number R z' places (length out) → (n ≡ 0 → ⊥) → BlockCoded R z' places out (record { number = n; count = 0 }) out
  coded-refused n e h =
      let refused : code_number R z' places (length out) ≡ 0 → ⊥ = λ q. h (e ∙ q) in
      record { number = e; count = sym (when_refused _ (columns R * z') 0 refused); output = sym (when_refused _ _ out refused) }

  pub coded-done : (n : ℕ) → n ≡ code_number R z' places (length out) → n ≡ 0 → (count : ℕ) → count ≡ columns R * z' → (out' : List ℕ)
      → out' ≡ coded (table_for R z') (rows R) (columns R) z' places ++ drop (columns R * z') out
      → BlockCoded R z' places out (record { number = n; count = count }) out'
  coded-done n e h count p out' q =
      let done : code_number R z' places (length out) ≡ 0 = sym e ∙ h in
      record { number = e; count = p ∙ sym (when-done _ (columns R * z') 0 done); output = q ∙ sym (when-done _ _ out done) }
