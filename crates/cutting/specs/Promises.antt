-- What the public call promises, for every record, every edition and every block length.
use Rattle.std.specs.Prelude.{Bool, not, List, [], ◌∷◌, ◌++◌, Result, Ok, Err, ℕ}
use Rattle.bits.specs.Numbers.{answered, when_done}
use Rattle.bits.specs.Ranges.{within}
use Rattle.profile.specs.Record.{z}
use Rattle.profile.specs.Promises.{judge_conditions}
use Rattle.cutting.specs.Plan.{block_bits, kmax, other_edition, sum_bits, blocks, too_many_blocks, size_index, places}
use Rattle.bits.specs.declared.number.Refusal.{Refusal}
use Rattle.bits.specs.Refusals.{refusal_number}
use Rattle.cutting.specs.declared.Plan.{Plan}
use Rattle.cutting.specs.declared.Planned.{Planned}

-- 5 and 6 as `judge` answers them, then 19 "before 7", 7 "transport block not 1 to 2,048 octets", 9
abbrev pub plan_conditions : List ℕ → ℕ → ℕ → List (ℕ × Bool)
plan_conditions R ed octets =
    judge_conditions R
    ++ ((19, other_edition ed) ∷ (7, not (within 1 2048 octets)) ∷ (9, too_many_blocks R ed (block_bits octets)) ∷ [])

unfoldable pub plan_number : List ℕ → ℕ → ℕ → ℕ
plan_number R ed octets = answered (plan_conditions R ed octets)

-- how B bits are cut: Kmax, C, K and z, which of the record's sizes z is, and L
unfoldable pub cutting : List ℕ → ℕ → ℕ → Planned
cutting R ed b =
    record {
      number = 0;
      bits = b;
      kmax = kmax R;
      blocks = blocks R ed b;
      places = places R ed b;
      z = z R (size_index R ed b);
      index = size_index R ed b;
      sums = sum_bits R ed b;
    }

-- "When it refuses, its other results are 0"
unfoldable pub refusal : ℕ → Planned
refusal n = record { number = n; bits = 0; kmax = 0; blocks = 0; places = 0; z = 0; index = 0; sums = 0 }

-- a plan, with the number 0 in front; and an answer of `plan_block`
abbrev pub done_plan : Plan → Planned
done_plan p =
    record { number = 0; bits = p.bits; kmax = p.kmax; blocks = p.blocks; places = p.places; z = p.z; index = p.index; sums = p.sums }

abbrev pub answer_planned : Result Plan Refusal → Planned
answer_planned (Ok p) = done_plan p
answer_planned (Err e) = refusal (refusal_number e)

-- what `plan_block` answers
unfoldable pub planned : List ℕ → ℕ → ℕ → Planned
planned R ed octets = when_done (plan_number R ed octets) (cutting R ed (block_bits octets)) (refusal (plan_number R ed octets))
