-- What the public call promises, for all octets, lengths and numbers.
use Rattle.std.specs.Prelude.{◌≡◌, Bool, not, List, [], ◌∷◌, ◌++◌, Result, Ok, Err, ℕ, ◌-◌}
use Rattle.bits.specs.Numbers.{answered, when_done}
use Rattle.bits.specs.Ranges.{within}
use Rattle.bits.specs.Refusals.{refusal_number}
use Rattle.bits.specs.declared.number.Refusal.{Refusal}
use Rattle.bits.specs.declared.count.Terms.{Terms}
use Rattle.cutting.specs.Plan.{block_bits, blocks}
use Rattle.coding.specs.Allocation.{spare, share}
use Rattle.coding.specs.Promises.{cut_conditions}
use Rattle.advice.specs.Least.{some_room, least_bits}
use Rattle.advice.specs.declared.Least.{Least}
use Rattle.advice.specs.declared.Advised.{Advised}

-- 5 to 9, 16 and 19 as sending answers them for G 0, so that 8 is about N_L and Q_m alone; 13 is here: where no G up to 65,536 has room
abbrev pub least_conditions : List ℕ → ℕ → Terms → List (ℕ × Bool)
least_conditions R octets terms =
    cut_conditions R (not (within 1 2048 octets)) octets terms 0 ++ (13, not (some_room R octets terms)) ∷ []

unfoldable pub least_number : List ℕ → ℕ → Terms → ℕ
least_number R octets terms = answered (least_conditions R octets terms)

-- with a refusal all else is 0
unfoldable pub refusal : ℕ → Advised
refusal n = record { number = n; bits = record { 0 = 0 }; blocks = 0; larger = 0; first = record { 0 = 0 }; last = record { 0 = 0 } }

-- an answer of `least_bits`, with its number in front
abbrev pub advised : Result Least Refusal → Advised
advised (Ok l) = record { number = 0; bits = l.bits; blocks = l.blocks; larger = l.larger; first = l.first; last = l.last }
advised (Err e) = refusal (refusal_number e)

pub record LeastRoom (R : List ℕ) (octets : ℕ) (terms : Terms) (r : Advised) : Type 0 where
  pub number : r.number ≡ least_number R octets terms
  pub bits : r.bits.0 ≡ when_done (least_number R octets terms) (least_bits R octets terms) 0
  -- γ, and the shares of the first block and of the last: the first γ blocks have the one, the others the other
  pub larger : r.larger ≡ when_done (least_number R octets terms) (spare terms (least_bits R octets terms) (blocks R terms.edition (block_bits octets))).0 0
  pub first : r.first.0 ≡ when_done (least_number R octets terms) (share terms (least_bits R octets terms) (blocks R terms.edition (block_bits octets)) 0).0 0
  pub last : r.last.0
      ≡ when_done (least_number R octets terms) (share terms (least_bits R octets terms) (blocks R terms.edition (block_bits octets)) (blocks R terms.edition (block_bits octets) - 1)).0 0
  pub blocks : r.blocks ≡ when_done (least_number R octets terms) (blocks R terms.edition (block_bits octets)) 0
