use mathlib.Core.Path.{◌≡◌, refl, ap, ◌∙◌}
use mathlib.Core.Bool.{true, false}
use Prim.Native.Nat.{ℕ}
use native.Mathlib.Omega.{arith}
use borrow.Author.Tests.{tests}
use borrow.Author.Rules.{rules}
use Rattle.std.proofs.lemmas.Iterator.{cases_from_any, YieldsList-from_range}
use Rattle.bits.specs.Ranges.{any_below}
use Rattle.cutting.proofs.PlanFields.{of_fields}
use Rattle.checking.proofs.Ranged.{any_ranged}
use Rattle.coding.specs.Steps.Shares.{short}
use Rattle.coding.proofs.inner.lacks_room.Goals as goal

pub returns : goal.returns
returns c =
    let a = c.args in
    let n = a.plan.blocks in
    let lacks = short a.profile.now a.plan.bits a.terms a.g.0 in
    any_ranged n lacks (λ r. lacks r ≡ true) (λ r. lacks r ≡ false) (λ r h. h) (λ r h. h) _
    (cases_from_any _ _ _ (λ r. lacks r ≡ true) (λ r. lacks r ≡ false) c.any.ensures.ran (YieldsList-from_range 0 n n refl (omega arith))
    (λ x q k. search (rules, tests)) (λ x q k. search (rules, tests)))
    ∙ ap (λ (c : ℕ). any_below c lacks) (of_fields a.profile.now a.terms.edition a.plan c.requires.0).blocks_is
