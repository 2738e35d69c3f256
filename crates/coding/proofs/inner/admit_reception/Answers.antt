use mathlib.Core.Path.{◌≡◌, sym, ap, ◌∙◌}
use lib.ListN.{length}
use Rattle.std.proofs.lemmas.Result.{err_from_is_err_and}
use Rattle.bits.proofs.Answers.{refusal-numbered}
use Rattle.cutting.specs.Plan.{block_bits}
use Rattle.cutting.proofs.PlanFields.{bits_is, blocks-are}
use Rattle.coding.specs.Receiving.{some_without_room}
use Rattle.coding.specs.Steps.Numbers.{octets_of}
use Rattle.coding.proofs.ReceptionNumber.{octets-are, reception_first, reception-allocated, reception-twelve, reception-thirteen, reception-done}
use Rattle.coding.proofs.inner.admit_reception.Goals as goal

pub returns-in_err-plan-clause-number : goal.returns-in_err-plan-clause-number
returns-in_err-plan-clause-number c =
    let a = c.args in
    let p = err_from_is_err_and c.from_residual.result c.from_residual.ensures.1 in
    let told = rw c.octets_of-octets.ensures at c.in_err-plan.ensures.number in
    rw (p.1, p.2) (told ∙ reception_first a.profile.now a.a a.terms a.bits.now a.room (λ z. refusal-numbered _ (told ∙ z)))

pub returns-then-some_over-clause-number : goal.returns-then-some_over-clause-number
returns-then-some_over-clause-number c =
    let a = c.args in
    let zero = rw c.octets_of-octets.ensures at (sym c.in_ok-plan.ensures.number) in
    reception-twelve a.profile.now a.a a.terms a.bits.now a.room zero (sym c.some_over.ensures ∙ c.if-some_over.true)

pub lacks_room-requires : goal.lacks_room-requires
lacks_room-requires c =
    let a = c.args in
    let R = a.profile.now in
    let octets = c.octets_of-octets in
    let plan = c.in_ok-plan in
    let zero = rw octets.ensures at (sym plan.ensures.number) in
    let known = rw (sym octets.ensures) at (reception-allocated R a.a a.terms a.bits.now a.room zero) in
    let blocks_is = blocks-are R a.terms.edition octets.result plan.plan plan.ensures.plan known.0 in
    (record { octets = octets.result; taken = known.0; plan = plan.ensures.plan }, rw blocks_is known.1)

pub returns-then-lacks_room-clause-number : goal.returns-then-lacks_room-clause-number
unfolding some_without_room
returns-then-lacks_room-clause-number c =
    let a = c.args in
    let R = a.profile.now in
    let octets = c.octets_of-octets in
    let plan = c.in_ok-plan in
    let zero = rw octets.ensures at (sym plan.ensures.number) in
    let known = rw (sym octets.ensures) at (reception-allocated R a.a a.terms a.bits.now a.room zero) in
    let bits_are = bits_is R a.terms.edition octets.result plan.plan plan.ensures.plan known.0 ∙ ap block_bits octets.ensures in
    let told : c.lacks_room.result ≡ some_without_room R (octets_of a.a) a.terms (length a.bits.now) = rw bits_are at c.lacks_room.ensures in
    reception-thirteen R a.a a.terms a.bits.now a.room zero (sym c.some_over.ensures ∙ c.if-some_over.false) (sym told ∙ c.if-lacks_room.true)

pub returns-clause-number : goal.returns-clause-number
unfolding some_without_room
returns-clause-number c =
    let a = c.args in
    let R = a.profile.now in
    let octets = c.octets_of-octets in
    let plan = c.in_ok-plan in
    let zero = rw octets.ensures at (sym plan.ensures.number) in
    let known = rw (sym octets.ensures) at (reception-allocated R a.a a.terms a.bits.now a.room zero) in
    let bits_are = bits_is R a.terms.edition octets.result plan.plan plan.ensures.plan known.0 ∙ ap block_bits octets.ensures in
    let told : c.lacks_room.result ≡ some_without_room R (octets_of a.a) a.terms (length a.bits.now) = rw bits_are at c.lacks_room.ensures in
    reception-done R a.a a.terms a.bits.now a.room zero (sym c.some_over.ensures ∙ c.if-some_over.false) (sym told ∙ c.if-lacks_room.false)

pub returns-clause-plan : goal.returns-clause-plan
returns-clause-plan c =
    let a = c.args in
    let octets = c.octets_of-octets in
    let zero = rw octets.ensures at (sym c.in_ok-plan.ensures.number) in
    rw (octets.ensures ∙ octets-are a.profile.now a.a a.terms a.bits.now a.room zero) at c.in_ok-plan.ensures.plan
