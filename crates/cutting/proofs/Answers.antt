-- What the public call answers, by its tests.
use mathlib.Core.Path.{◌≡◌, sym, ◌∙◌}
use mathlib.Core.Bool.{true, false, not}
use mathlib.Core.List.{List, [], ◌∷◌}
use Prim.Native.Nat.{ℕ}
use Rattle.bits.specs.Numbers.{answered}
use Rattle.bits.specs.Ranges.{within}
use Rattle.bits.proofs.Answers.{when-done, when_refused, refusal-numbered}
use Rattle.bits.specs.Refusals.{refusal_number}
use Rattle.bits.specs.declared.number.Refusal.{Refusal}
use Rattle.profile.specs.Promises.{judged}
use Rattle.profile.proofs.Answers.{judged-first, judged-passed}
use Rattle.cutting.specs.Plan.{block_bits, other_edition, too_many_blocks}
use Rattle.cutting.specs.Promises.{plan_number, cutting, refusal, planned}

module _ (R : List ℕ) (ed : ℕ) where
  pub plan_unjudged : (octets : ℕ) → (judged R ≡ 0 → ⊥) → plan_number R ed octets ≡ judged R
  unfolding plan_number
  plan_unjudged octets n = judged-first R _ n

  pub plan-judged : (octets : ℕ) → judged R ≡ 0
      → plan_number R ed octets
      ≡ answered ((19, other_edition ed) ∷ (7, not (within 1 2048 octets)) ∷ (9, too_many_blocks R ed (block_bits octets)) ∷ [])
  unfolding plan_number
  plan-judged octets e = judged-passed R _ e

  module _ (octets : ℕ) (accepted : judged R ≡ 0) where
    pub plan_nineteen : other_edition ed ≡ true → 19 ≡ plan_number R ed octets
    unfolding answered
    plan_nineteen o = rw (plan-judged octets accepted, o)

    module _ (known : other_edition ed ≡ false) where
      pub plan-seven : within 1 2048 octets ≡ false → 7 ≡ plan_number R ed octets
      unfolding answered
      plan-seven e = rw (plan-judged octets accepted, known, e)

      pub plan-nine : within 1 2048 octets ≡ true → too_many_blocks R ed (block_bits octets) ≡ true → 9 ≡ plan_number R ed octets
      unfolding answered
      plan-nine e h = rw (plan-judged octets accepted, known, e, h)

      pub plan-zero : within 1 2048 octets ≡ true → too_many_blocks R ed (block_bits octets) ≡ false → plan_number R ed octets ≡ 0
      unfolding answered
      plan-zero e h = rw (plan-judged octets accepted, known, e, h)

  -- the two kinds of plan
  module _ (octets : ℕ) where
    pub refused-planned : (n : ℕ) → n ≡ plan_number R ed octets → (n ≡ 0 → ⊥) → refusal n ≡ planned R ed octets
    unfolding planned
    refused-planned n e some =
        rw (when_refused (plan_number R ed octets) (cutting R ed (block_bits octets)) (refusal (plan_number R ed octets)) (λ q. some (e ∙ q)), e)

    -- a record that is not judged with 0 is refused as it is judged
    pub unjudged-planned : (e : Refusal) → refusal_number e ≡ judged R → refusal (refusal_number e) ≡ planned R ed octets
    unjudged-planned e q =
        refused-planned (refusal_number e) (q ∙ sym (plan_unjudged octets (λ z. refusal-numbered e (q ∙ z)))) (refusal-numbered e)

    pub cutting-planned : plan_number R ed octets ≡ 0 → cutting R ed (block_bits octets) ≡ planned R ed octets
    unfolding planned
    cutting-planned e = sym (when-done (plan_number R ed octets) (cutting R ed (block_bits octets)) (refusal (plan_number R ed octets)) e)
