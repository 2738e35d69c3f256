-- What the public calls answer, by their tests.
use mathlib.Core.Path.{◌≡◌, refl}
use mathlib.Core.Bool.{Bool, true, false, not, cond, ◌&&◌}
use mathlib.Core.List.{List, ◌++◌}
use Prim.Native.Nat.{ℕ}
use Rattle.bits.specs.Numbers.{answered}
use Rattle.bits.specs.Ranges.{all_below}
use Rattle.bits.proofs.Answers.{first_part, Refusals, last_part}
use Rattle.profile.specs.Record.{t, table_right}
use Rattle.profile.specs.Staircase.{staircases}
use Rattle.profile.specs.Promises.{judge_conditions, judged}
use Rattle.profile.specs.Steps.Shape.{shape_right}
use Rattle.profile.proofs.Shape.{formed-is}

module _ (R : List ℕ) where
  -- the code's tests of a record, in their order
  pub judged_in_turn : judged R ≡ cond (shape_right R) (cond (all_below (t R) (table_right R)) (cond (staircases R) 0 6) 5) 5
  unfolding judged answered
  judged_in_turn = rw (formed-is R) (by_tests (shape_right R) (all_below (t R) (table_right R)) (staircases R))
    where
      by_tests : (a b c : Bool) → ◌≡◌ {A = ℕ} (cond (not (a && b)) 5 (cond (not c) 6 0)) (cond a (cond b (cond c 0 6) 5) 5)
      by_tests true true true = refl
      by_tests true true false = refl
      by_tests true false c = refl
      by_tests false b c = refl

  -- a profile is judged before everything else: 5 and 6 come first, and where they are passed the rest is left
  module _ (rest : List (ℕ × Bool)) where
    pub judged-first : (judged R ≡ 0 → ⊥) → answered (judge_conditions R ++ rest) ≡ judged R
    unfolding judged
    judged-first n = first_part (judge_conditions R) rest n

    pub judged-passed : judged R ≡ 0 → answered (judge_conditions R ++ rest) ≡ answered rest
    unfolding judged Refusals
    judged-passed e = last_part (judge_conditions R) rest tt e
