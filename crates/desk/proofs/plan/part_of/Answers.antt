-- The plan that is given is the one that is promised, so its fields are those of a plan.
use Rattle.std.proofs.Common.{sym, ap, ap₂, ◌∙◌, ℕ, ◌+◌, ◌-◌, arith}
use Rattle.cutting.specs.Plan.{own_bits, carried_bits, filler}
use Rattle.cutting.specs.Promises.{done_plan}
use Rattle.cutting.proofs.Plans.{plan-number, plan-places, plan-sums}
use Rattle.cutting.proofs.PlanFields.{plan-of, of_fields, bits_is, blocks-are}
use Rattle.coding.specs.Blocks.{sendable}
use Rattle.coding.proofs.Sent.{carried-room}
use Rattle.desk.proofs.plan.part_of.Goals as goal

pub own_bits-own-requires : goal.own_bits-own-requires
own_bits-own-requires c =
    let k = of_fields c.args.profile.now c.args.asked.terms.edition c.args.plan (plan-of c.args.profile.now c.args.asked.terms.edition c.args.asked.octets c.args.plan c.requires) in
    (k.cut.bits_high, omega (arith, k.blocks_is, k.cut.some), omega (arith, k.blocks_is, k.cut.most))

pub overflow_add-carried : goal.overflow_add-carried
overflow_add-carried c =
    let k = of_fields c.args.profile.now c.args.asked.terms.edition c.args.plan (plan-of c.args.profile.now c.args.asked.terms.edition c.args.asked.octets c.args.plan c.requires) in
    omega (arith, carried-room c.args.profile.now c.args.plan k c.args.r _ c.own_bits-own.ensures, k.places_is, k.cut.places_high)

pub overflow_sub-filler : goal.overflow_sub-filler
overflow_sub-filler c =
    carried-room c.args.profile.now c.args.plan (of_fields c.args.profile.now c.args.asked.terms.edition c.args.plan (plan-of c.args.profile.now c.args.asked.terms.edition c.args.asked.octets c.args.plan c.requires)) c.args.r _ c.own_bits-own.ensures

pub sendable-sendable-requires : goal.sendable-sendable-requires
sendable-sendable-requires c =
    record { edition = c.args.asked.terms.edition; of = plan-of c.args.profile.now c.args.asked.terms.edition c.args.asked.octets c.args.plan c.requires }

pub returns : goal.returns
unfolding filler carried_bits
returns c =
    let R = c.args.profile.now in
    let ed = c.args.asked.terms.edition in
    let n = c.args.asked.octets in
    let p = c.args.plan in
    let plan = c.requires in
    let done = sym (plan-number R ed n (done_plan p) plan) in
    let bits = bits_is R ed n p plan done in
    let own = c.own_bits-own.ensures ∙ ap₂ (λ (b k : ℕ). own_bits b k c.args.r) bits (blocks-are R ed n p plan done) in
    let sums = plan-sums R ed n (done_plan p) plan done in
    record {
      own = own;
      sums = sums;
      filler = ap₂ (λ (x y : ℕ). x - y) (plan-places R ed n (done_plan p) plan done) (ap₂ (λ (x y : ℕ). x + y) own sums);
      sendable = c.sendable-sendable.ensures.0 ed (plan-of c.args.profile.now c.args.asked.terms.edition c.args.asked.octets c.args.plan c.requires) ∙ ap (λ (b : ℕ). sendable R ed b c.args.r) bits;
    }
