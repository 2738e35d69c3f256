-- The plan that is given is the one of some edition.
use Rattle.std.proofs.Common.{◌≡◌, ℕ, List, rules}
use Rattle.cutting.specs.declared.Plan.{Plan}
use Rattle.cutting.specs.Promises.{done_plan, planned}
use Rattle.cutting.specs.Steps.Plans.{SomePlan}
use Rattle.cutting.proofs.PlanFields.{plan-of, some-fields}
use Rattle.desk.proofs.plan.starts.Goals as goal

some : (R : List ℕ) (ed octets : ℕ) (plan : Plan) → done_plan plan ≡ planned R ed octets → SomePlan R plan
some R ed octets plan is = record { edition = ed; of = plan-of R ed octets plan is }

pub kind-requires : goal.kind-requires
kind-requires c =
    (some-fields c.args.profile.now c.args.plan (some c.args.profile.now c.args.asked.terms.edition c.args.asked.octets c.args.plan c.requires)).accepted

pub size-places-requires : goal.size-places-requires
size-places-requires c = some c.args.profile.now c.args.asked.terms.edition c.args.asked.octets c.args.plan c.requires

pub start-one-requires : goal.start-one-requires
start-one-requires c = (some c.args.profile.now c.args.asked.terms.edition c.args.asked.octets c.args.plan c.requires, search rules)

pub start-two-requires : goal.start-two-requires
start-two-requires c = (some c.args.profile.now c.args.asked.terms.edition c.args.asked.octets c.args.plan c.requires, search rules)

pub start-three-requires : goal.start-three-requires
start-three-requires c = (some c.args.profile.now c.args.asked.terms.edition c.args.asked.octets c.args.plan c.requires, search rules)
