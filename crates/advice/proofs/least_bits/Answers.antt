use mathlib.Core.Path.{◌≡◌, refl, sym, ap, ap₂, ◌∙◌}
use mathlib.Core.List.{List}
use Prim.Native.Nat.{ℕ, ◌*◌, ◌/◌, ◌%◌, ◌≤◌}
use native.Mathlib.Nat.{mul_comm, mul-mod_right, div-le_self, le-div_iff_mul-le}
use native.Mathlib.Omega.{arith}
use Rattle.std.proofs.lemmas.Result.{err_from_is_err_and}
use Rattle.bits.specs.Counts.{symbol_places_of, coded_bits_of, place_bits}
use Rattle.bits.specs.declared.count.CodedBits.{CodedBits}
use Rattle.bits.specs.declared.count.SymbolPlaces.{SymbolPlaces}
use Rattle.bits.specs.declared.count.Terms.{Terms}
use Rattle.bits.proofs.Answers.{refusal-numbered}
use Rattle.cutting.specs.Plan.{block_bits, blocks}
use Rattle.cutting.specs.Promises.{plan_number, done_plan, planned}
use Rattle.cutting.specs.declared.Plan.{Plan}
use Rattle.cutting.proofs.PlanFields.{bits_is, blocks-are}
use Rattle.coding.specs.Steps.Numbers.{cut_number}
use Rattle.coding.specs.Steps.Shares.{Allocated}
use Rattle.coding.proofs.RequestNumber.{cut-passed}
use Rattle.advice.specs.Steps.Counting.{places_for_all}
use Rattle.advice.proofs.Numbers.{right, first-refused, last-refused, last_done}
use Rattle.advice.proofs.least_bits.Goals as goal

-- the counts as the code answers them
most_is : (terms : Terms) (r : SymbolPlaces) → r ≡ symbol_places_of terms (record { 0 = 65536 }) → r.0 ≡ 65536 / place_bits terms
unfolding symbol_places_of
most_is terms r e = ap (λ (x : SymbolPlaces). x.0) e

made_is : (terms : Terms) (n : SymbolPlaces) (r : CodedBits) → r ≡ coded_bits_of terms n → r.0 ≡ place_bits terms * n.0
unfolding coded_bits_of
made_is terms n r e = ap (λ (x : CodedBits). x.0) e

-- what a plan says where no number before 13 refuses its block
module _ (R : List ℕ) (octets : ℕ) (terms : Terms) (zero : cut_number R octets terms 0 ≡ 0) (p : Plan) (plan : done_plan p ≡ planned R terms.edition octets) where
  taken : plan_number R terms.edition octets ≡ 0
  taken = (cut-passed R octets terms 0 zero).0

  counted : p.blocks ≡ blocks R terms.edition (block_bits octets)
  counted = blocks-are R terms.edition octets p plan taken

  total : (n : ℕ) → n ≡ places_for_all R p.bits terms → n ≡ places_for_all R (block_bits octets) terms
  total n e = e ∙ ap (λ (b : ℕ). places_for_all R b terms) (bits_is R terms.edition octets p plan taken)

  -- so many symbol places are an allocation
  allocation : (n g : ℕ) → g ≡ place_bits terms * n → n ≤ 65536 / place_bits terms → Allocated terms g p.blocks
  allocation n g e fits =
      let given = right R octets terms zero in
      let k = place_bits terms in
      let few : n * k ≤ 65536 = (le-div_iff_mul-le given.usable.some).0 fits in
      record {
        usable = given.usable;
        most = omega (arith, e, mul_comm n k, few);
        whole = ap (λ (x : ℕ). x % k) e ∙ mul-mod_right k n;
        blocks = omega (arith, counted, given.blocks);
      }

pub returns-in_err-plan : goal.returns-in_err-plan
returns-in_err-plan c =
    let a = c.args in
    let p = err_from_is_err_and c.from_residual.result c.from_residual.ensures.1 in
    rw (p.1, p.2) (first-refused a.profile.now a.octets a.terms _ c.in_err-plan.ensures.number (refusal-numbered _) _ refl)

pub places_for_all-all-requires : goal.places_for_all-all-requires
places_for_all-all-requires c =
    let a = c.args in
    let zero = sym c.in_ok-plan.ensures.number in
    (record { octets = a.octets; taken = (cut-passed a.profile.now a.octets a.terms 0 zero).0; plan = c.in_ok-plan.ensures.plan }, (right a.profile.now a.octets a.terms zero).usable)

pub symbol_places-most-requires : goal.symbol_places-most-requires
symbol_places-most-requires c = let a = c.args in (right a.profile.now a.octets a.terms (sym c.in_ok-plan.ensures.number)).usable

pub returns-then-most-all : goal.returns-then-most-all
returns-then-most-all c =
    let a = c.args in
    let zero = sym c.in_ok-plan.ensures.number in
    let all = total a.profile.now a.octets a.terms zero c.in_ok-plan.plan c.in_ok-plan.ensures.plan c.places_for_all-all.result.0 c.places_for_all-all.ensures in
    let most = most_is a.terms _ c.symbol_places-most.ensures in
    last-refused a.profile.now a.octets a.terms zero (omega (arith, all, most, c.if-most-all.true)) _ refl

pub coded_bits-bits-requires : goal.coded_bits-bits-requires
coded_bits-bits-requires c =
    let a = c.args in
    let most = most_is a.terms _ c.symbol_places-most.ensures in
    ((right a.profile.now a.octets a.terms (sym c.in_ok-plan.ensures.number)).usable, omega (arith, most, c.if-most-all.false, div-le_self 65536 (place_bits a.terms)))

pub share_of-first-requires : goal.share_of-first-requires
share_of-first-requires c =
    let a = c.args in
    let fits : c.places_for_all-all.result.0 ≤ 65536 / place_bits a.terms = omega (arith, most_is a.terms _ c.symbol_places-most.ensures, c.if-most-all.false) in
    allocation a.profile.now a.octets a.terms (sym c.in_ok-plan.ensures.number) c.in_ok-plan.plan c.in_ok-plan.ensures.plan c.places_for_all-all.result.0 _ (made_is a.terms _ _ c.coded_bits-bits.ensures) fits

pub overflow_sub-c : goal.overflow_sub-c
overflow_sub-c c =
    let a = c.args in
    let zero = sym c.in_ok-plan.ensures.number in
    omega (arith, counted a.profile.now a.octets a.terms zero c.in_ok-plan.plan c.in_ok-plan.ensures.plan, (right a.profile.now a.octets a.terms zero).blocks)

pub share_of-last-requires : goal.share_of-last-requires
share_of-last-requires c =
    let a = c.args in
    let fits : c.places_for_all-all.result.0 ≤ 65536 / place_bits a.terms = omega (arith, most_is a.terms _ c.symbol_places-most.ensures, c.if-most-all.false) in
    allocation a.profile.now a.octets a.terms (sym c.in_ok-plan.ensures.number) c.in_ok-plan.plan c.in_ok-plan.ensures.plan c.places_for_all-all.result.0 _ (made_is a.terms _ _ c.coded_bits-bits.ensures) fits

pub nonzero_rem-result : goal.nonzero_rem-result
nonzero_rem-result c =
    let a = c.args in
    let zero = sym c.in_ok-plan.ensures.number in
    omega (arith, counted a.profile.now a.octets a.terms zero c.in_ok-plan.plan c.in_ok-plan.ensures.plan, (right a.profile.now a.octets a.terms zero).blocks)

pub returns : goal.returns
returns c =
    let a = c.args in
    let zero = sym c.in_ok-plan.ensures.number in
    let blocks_are = counted a.profile.now a.octets a.terms zero c.in_ok-plan.plan c.in_ok-plan.ensures.plan in
    let all = total a.profile.now a.octets a.terms zero c.in_ok-plan.plan c.in_ok-plan.ensures.plan c.places_for_all-all.result.0 c.places_for_all-all.ensures in
    let fits : c.places_for_all-all.result.0 ≤ 65536 / place_bits a.terms = omega (arith, most_is a.terms _ c.symbol_places-most.ensures, c.if-most-all.false) in
    last_done a.profile.now a.octets a.terms zero (omega (arith, all, fits)) _ refl
    (made_is a.terms _ _ c.coded_bits-bits.ensures ∙ ap (λ (n : ℕ). place_bits a.terms * n) all)
    blocks_are
    (ap₂ (λ (x y : ℕ). x % y) all blocks_are)
    c.share_of-first.ensures
    c.share_of-last.ensures
