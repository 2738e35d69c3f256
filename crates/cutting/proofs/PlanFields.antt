-- What an accepted profile and its plan say: the plan's fields.
use mathlib.Core.Path.{◌≡◌, sym, ap, ◌∙◌}
use mathlib.Core.List.{List}
use Prim.Native.Nat.{ℕ, ◌*◌, ◌≤◌, ◌<◌}
use Rattle.profile.specs.Record.{kb, t, z, columns}
use Rattle.profile.specs.Promises.{judged}
use Rattle.cutting.specs.Plan.{block_bits, sum_bits, blocks, size_index, places}
use Rattle.cutting.specs.Promises.{plan_number, done_plan, planned}
use Rattle.cutting.specs.declared.Plan.{Plan}
use Rattle.cutting.specs.Steps.Plans.{PlanOf, SomePlan, IsSum}
use Rattle.cutting.proofs.Summed.{is_sum}
use Rattle.cutting.proofs.Plans.{Cut, plan-number, plan-passed, plan-cut, plan-bits, plan-blocks, plan-places, plan-z, plan_index, plan-sums}

-- ---- the plan's fields, by the edition and the count of transport bits

pub record PlanFields (R : List ℕ) (ed : ℕ) (p : Plan) : Type 0 where
  pub accepted : judged R ≡ 0
  pub cut : Cut R ed p.bits
  pub blocks_is : p.blocks ≡ blocks R ed p.bits
  pub places_is : p.places ≡ places R ed p.bits
  pub z_is : p.z ≡ z R (size_index R ed p.bits)
  pub index_is : p.index ≡ size_index R ed p.bits
  pub sums_is : p.sums ≡ sum_bits R ed p.bits

module _ (R : List ℕ) (ed octets : ℕ) (p : Plan) (plan : done_plan p ≡ planned R ed octets) where
  module _ (e : plan_number R ed octets ≡ 0) where
    pub bits_is : p.bits ≡ block_bits octets
    bits_is = plan-bits R ed octets (done_plan p) plan e

    pub plan-fields : PlanFields R ed p
    plan-fields =
        let b : block_bits octets ≡ p.bits = sym bits_is in
        record {
          accepted = (plan-passed R ed octets e).0;
          cut = rw b at (plan-cut R ed octets e);
          blocks_is = plan-blocks R ed octets (done_plan p) plan e ∙ ap (blocks R ed) b;
          places_is = plan-places R ed octets (done_plan p) plan e ∙ ap (places R ed) b;
          z_is = plan-z R ed octets (done_plan p) plan e ∙ ap (λ (n : ℕ). z R (size_index R ed n)) b;
          index_is = plan_index R ed octets (done_plan p) plan e ∙ ap (size_index R ed) b;
          sums_is = plan-sums R ed octets (done_plan p) plan e ∙ ap (sum_bits R ed) b;
        }

    pub blocks-are : p.blocks ≡ blocks R ed (block_bits octets)
    blocks-are = plan-blocks R ed octets (done_plan p) plan e

-- a plan that is answered is one
pub plan-of : (R : List ℕ) (ed octets : ℕ) (p : Plan) → done_plan p ≡ planned R ed octets → PlanOf R ed p
plan-of R ed octets p plan = record { octets = octets; taken = sym (plan-number R ed octets (done_plan p) plan); plan = plan }

pub of_fields : (R : List ℕ) (ed : ℕ) (p : Plan) → PlanOf R ed p → PlanFields R ed p
of_fields R ed p s = plan-fields R ed s.octets p s.plan s.taken

pub some-fields : (R : List ℕ) (p : Plan) (s : SomePlan R p) → PlanFields R s.edition p
some-fields R p s = of_fields R s.edition p s.of

-- ---- its table and its sizes

module _ (R : List ℕ) {ed : ℕ} (p : Plan) (k : PlanFields R ed p) where
  pub index_below_t : p.index < t R
  index_below_t = rw k.index_is k.cut.size

  pub places-product : p.places ≡ kb R * p.z
  places-product = k.places_is ∙ k.cut.product ∙ ap (λ (n : ℕ). kb R * n) (sym k.z_is)

  pub word-most : columns R * p.z ≤ 4860
  word-most = rw k.z_is k.cut.coded_high

  pub plan-sum : IsSum p.sums
  plan-sum = rw k.sums_is (is_sum R ed p.bits)
