use mathlib.Core.Path.{◌≡◌, sym, ap, ◌∙◌}
use mathlib.Core.Bool.{true, false}
use native.Mathlib.Omega.{arith}
use borrow.Author.Tests.{lt-ltb, le-ltb}
use Rattle.std.proofs.lemmas.Result.{err_from_is_err_and}
use Rattle.bits.specs.declared.count.SymbolPlaces.{SymbolPlaces}
use Rattle.bits.proofs.Answers.{refusal-numbered}
use Rattle.cutting.proofs.PlanFields.{blocks-are}
use Rattle.coding.specs.Allocation.{symbol_places}
use Rattle.coding.specs.Promises.{too_few_places}
use Rattle.coding.proofs.Shares.{allocated}
use Rattle.coding.proofs.RequestNumber.{cut-passed, request_first, request-ten, request-eleven, request-done}
use Rattle.coding.proofs.inner.admit_request.Goals as goal

pub returns-in_err-plan-clause-number : goal.returns-in_err-plan-clause-number
returns-in_err-plan-clause-number c =
    let a = c.args in
    let p = err_from_is_err_and c.from_residual.result c.from_residual.ensures.1 in
    let told = c.in_err-plan.ensures.number in
    rw (p.1, p.2) (told ∙ request_first a.profile.now a.octets a.terms a.g.0 a.need a.room (λ z. refusal-numbered _ (told ∙ z)))

pub symbol_places-places-requires : goal.symbol_places-places-requires
symbol_places-places-requires c =
    let a = c.args in
    (allocated a.terms a.g.0 1 (cut-passed a.profile.now a.octets a.terms a.g.0 (sym c.in_ok-plan.ensures.number)).1 (omega arith)).usable

pub returns-then-places-plan-clause-number : goal.returns-then-places-plan-clause-number
unfolding too_few_places symbol_places
returns-then-places-plan-clause-number c =
    let a = c.args in
    let R = a.profile.now in
    let plan = c.in_ok-plan in
    let zero = sym plan.ensures.number in
    let blocks_is = blocks-are R a.terms.edition a.octets plan.plan plan.ensures.plan (cut-passed R a.octets a.terms a.g.0 zero).0 in
    let places_is = ap (λ (x : SymbolPlaces). x.0) c.symbol_places-places.ensures in
    let few : too_few_places R a.octets a.terms a.g.0 ≡ true = rw (sym places_is, sym blocks_is) (lt-ltb _ _ c.if-places-plan.true) in
    request-ten R a.octets a.terms a.g.0 a.need a.room zero few

pub returns-then-room-need-clause-number : goal.returns-then-room-need-clause-number
unfolding too_few_places symbol_places
returns-then-room-need-clause-number c =
    let a = c.args in
    let R = a.profile.now in
    let plan = c.in_ok-plan in
    let zero = sym plan.ensures.number in
    let blocks_is = blocks-are R a.terms.edition a.octets plan.plan plan.ensures.plan (cut-passed R a.octets a.terms a.g.0 zero).0 in
    let places_is = ap (λ (x : SymbolPlaces). x.0) c.symbol_places-places.ensures in
    let few : too_few_places R a.octets a.terms a.g.0 ≡ false = rw (sym places_is, sym blocks_is) (le-ltb _ _ c.if-places-plan.false) in
    request-eleven R a.octets a.terms a.g.0 a.need a.room zero few (lt-ltb _ _ c.if-room-need.true)

pub returns-clause-number : goal.returns-clause-number
unfolding too_few_places symbol_places
returns-clause-number c =
    let a = c.args in
    let R = a.profile.now in
    let plan = c.in_ok-plan in
    let zero = sym plan.ensures.number in
    let blocks_is = blocks-are R a.terms.edition a.octets plan.plan plan.ensures.plan (cut-passed R a.octets a.terms a.g.0 zero).0 in
    let places_is = ap (λ (x : SymbolPlaces). x.0) c.symbol_places-places.ensures in
    let few : too_few_places R a.octets a.terms a.g.0 ≡ false = rw (sym places_is, sym blocks_is) (le-ltb _ _ c.if-places-plan.false) in
    request-done R a.octets a.terms a.g.0 a.need a.room zero few (le-ltb _ _ c.if-room-need.false)
