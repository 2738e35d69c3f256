use mathlib.Core.Path.{◌≡◌, refl, ap, ap₂, ◌∙◌}
use mathlib.Core.List.{List}
use Prim.Native.Nat.{ℕ, ◌+◌, ◌≤◌, ◌<◌}
use native.Mathlib.Nat.{le-mul_of_pos_right}
use native.Mathlib.Numerals.{add-one}
use native.Mathlib.Omega.{arith}
use borrow.Author.Rules.{rules}
use Rattle.bits.specs.Counts.{ceil, symbol_places_for, place_bits}
use Rattle.bits.specs.Ranges.{sum_below}
use Rattle.bits.specs.declared.count.CodedBits.{CodedBits}
use Rattle.bits.specs.declared.count.SymbolPlaces.{SymbolPlaces}
use Rattle.bits.specs.declared.count.Terms.{Terms}
use Rattle.bits.proofs.Rounding.{ceil-least}
use Rattle.cutting.specs.Plan.{blocks}
use Rattle.cutting.proofs.PlanFields.{of_fields}
use Rattle.coding.specs.Blocks.{sendable}
use Rattle.advice.specs.Steps.Counting.{places_for, places_for_all}
use Rattle.advice.proofs.places_for_all.Goals as goal

-- what one block takes, as the code counts it, and that it is no more than its bits
module _ (R : List ℕ) (b : ℕ) (terms : Terms) (r : ℕ) (n : CodedBits) (mine : SymbolPlaces) (is : n.0 ≡ sendable R terms.edition b r) (made : mine ≡ symbol_places_for terms n) where
  mine-is : mine.0 ≡ places_for R b terms r
  unfolding symbol_places_for places_for
  mine-is = ap (λ (x : SymbolPlaces). x.0) made ∙ ap (λ (k : ℕ). ceil k (place_bits terms)) is

  mine-most : 0 < place_bits terms → mine.0 ≤ n.0
  unfolding symbol_places_for
  mine-most some =
      omega (arith, ap (λ (x : SymbolPlaces). x.0) made, ceil-least n.0 (place_bits terms) some n.0 (le-mul_of_pos_right n.0 some))

pub loop-r-init : goal.loop-r-init
unfolding sum_below
loop-r-init c = (refl, search rules)

pub overflow_add-all : goal.overflow_add-all
overflow_add-all c =
    let few : c.loop-r.r < c.args.plan.blocks = omega (arith, c) in
    let small : c.symbol_places_for-mine.result.0 ≤ 4860 = omega (
      arith,
      mine-most c.args.profile.now c.args.plan.bits c.args.terms c.loop-r.r c.sendable-n.result _
          (c.sendable-n.ensures.0 c.args.terms.edition c.requires.0) c.symbol_places_for-mine.ensures c.requires.1.some,
      c.sendable-n.ensures.1,
    ) in
    let blocks-few : c.args.plan.blocks ≤ 64 = let k = of_fields c.args.profile.now c.args.terms.edition c.args.plan c.requires.0 in omega (arith, k.blocks_is, k.cut.most) in
    omega (arith, small, few, blocks-few, c.loop-r.invariant.1)

pub loop-r-preserved : goal.loop-r-preserved
unfolding sum_below
loop-r-preserved c =
    let few : c.loop-r.r < c.args.plan.blocks = omega (arith, c) in
    let counted : c.symbol_places_for-mine.result.0 ≡ places_for c.args.profile.now c.args.plan.bits c.args.terms c.loop-r.r = mine-is c.args.profile.now c.args.plan.bits c.args.terms _ c.sendable-n.result _
    (c.sendable-n.ensures.0 c.args.terms.edition c.requires.0) c.symbol_places_for-mine.ensures in
    let small : c.symbol_places_for-mine.result.0 ≤ 4860 = omega (
      arith,
      mine-most c.args.profile.now c.args.plan.bits c.args.terms c.loop-r.r c.sendable-n.result _
          (c.sendable-n.ensures.0 c.args.terms.edition c.requires.0) c.symbol_places_for-mine.ensures c.requires.1.some,
      c.sendable-n.ensures.1,
    ) in
    let l = c.loop-r in
    (rw (add-one l.r) (ap₂ (λ (x y : ℕ). x + y) l.invariant.0 counted), omega (arith, small, l.invariant.1))

pub returns : goal.returns
unfolding places_for_all
returns c =
    let l = c.loop-r in
    let k = of_fields c.args.profile.now c.args.terms.edition c.args.plan c.requires.0 in
    let end : l.r ≡ blocks c.args.profile.now c.args.terms.edition c.args.plan.bits = omega (arith, k.blocks_is, c) in
    l.invariant.0 ∙ ap (λ (n : ℕ). sum_below n (places_for c.args.profile.now c.args.plan.bits c.args.terms)) end
