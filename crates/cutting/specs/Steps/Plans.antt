-- What the steps of cutting promise, and what the layers above ask of a plan.
use Rattle.std.specs.Prelude.{◌≡◌, Bool, true, cond, List, ℕ, ◌+◌, ◌*◌, ◌≤◌, ◌<◌, eqb, length, get_or}
use Rattle.bits.specs.Bits.{AreBits, with_filler}
use Rattle.bits.specs.Counts.{ceil}
use Rattle.checksum.specs.Crc.{gen24_a}
use Rattle.checksum.specs.Steps.Testing.{checks}
use Rattle.blocksum.specs.Blocksum.{gen24_b}
use Rattle.profile.specs.Record.{kb, z}
use Rattle.profile.specs.Promises.{judged}
use Rattle.cutting.specs.Plan.{kmax, size_index_for}
use Rattle.cutting.specs.Promises.{plan_number, done_plan, planned}
use Rattle.cutting.specs.declared.Plan.{Plan}
use Rattle.cutting.specs.declared.Planned.{Planned}

-- R is accepted, and B bits, no more than those of the longest block, have room in `count` blocks; `most` is Kmax and `sums` is L
pub record Counted (R : List ℕ) (bits most sums count : ℕ) : Type 0 where
  pub accepted : judged R ≡ 0
  pub bits_high : bits ≤ 16408
  pub most_is : most ≡ kmax R
  pub most_few : most ≤ 1620
  pub count_low : 0 < count
  pub count_high : count ≤ 64
  pub fits : ceil bits count + sums ≤ most

-- the plan by these numbers
unfoldable pub plan_for : List ℕ → ℕ → ℕ → ℕ → ℕ → Planned
plan_for R bits most sums count =
    let i = size_index_for R (ceil bits count + sums) in
    record { number = 0; bits = bits; kmax = most; blocks = count; places = kb R * z R i; z = z R i; index = i; sums = sums }

-- in this edition R takes blocks of some length, and p is their plan
pub record PlanOf (R : List ℕ) (ed : ℕ) (p : Plan) : Type 0 where
  pub octets : ℕ
  pub taken : plan_number R ed octets ≡ 0
  pub plan : done_plan p ≡ planned R ed octets

-- in some edition
pub record SomePlan (R : List ℕ) (p : Plan) : Type 0 where
  pub edition : ℕ
  pub of : PlanOf R edition p

-- in this edition, and bits are single bits, as many as the transport bits of such a block
pub record Ready (R : List ℕ) (ed : ℕ) (bits : List ℕ) (p : Plan) : Type 0 where
  pub of : PlanOf R ed p
  pub size : length bits ≡ p.bits
  pub single : AreBits bits

-- bits end with the checksum of those before it
unfoldable pub checked : List ℕ → Bool
checked bits = checks 24 gen24_a bits

-- L is 0 or 24
abbrev pub IsSum : ℕ → Type 0
IsSum l = (l ≡ 0 → ⊥) → l ≡ 24

-- what a block carries ends, where L is not 0, with the checksum of its own bits
unfoldable pub sum_holds : ℕ → List ℕ → Bool
sum_holds l carried = cond (eqb l 0) true (checks 24 gen24_b carried)

-- b is a with a block's places in front: what it carries, and filler behind it
pub record Placed (places : ℕ) (mine a b : List ℕ) : Type 0 where
  pub len : length b ≡ length a
  pub front : (p : ℕ) → p < places → get_or b p 0 ≡ get_or (with_filler places mine) p 0
