-- The numbers that are answered before any block is coded or looked at, and the plan that is answered where there is none.
use Rattle.std.specs.Prelude.{◌≡◌, cond, not, List, [], ◌∷◌, ◌++◌, ℕ, ◌/◌, ◌%◌, eqb, length}
use Rattle.bits.specs.Bits.{some_over}
use Rattle.bits.specs.Numbers.{answered}
use Rattle.bits.specs.Ranges.{within}
use Rattle.bits.specs.declared.count.Terms.{Terms}
use Rattle.cutting.specs.Promises.{done_plan, planned}
use Rattle.cutting.specs.declared.Plan.{Plan}
use Rattle.coding.specs.Receiving.{some_without_room}
use Rattle.coding.specs.Promises.{cut_conditions, request_conditions, not_octets}

-- p is how a block of so many octets is cut
abbrev pub PlanFor : List ℕ → ℕ → ℕ → Plan → Type 0
PlanFor R ed octets p = done_plan p ≡ planned R ed octets

-- 5 to 9, 16 and 19
unfoldable pub cut_number : List ℕ → ℕ → Terms → ℕ → ℕ
cut_number R octets terms g = answered (cut_conditions R (not (within 1 2048 octets)) octets terms g)

-- 5 to 11, 16 and 19. `need` octets are to be written: G, or A/8 where bits are received
unfoldable pub request_number : List ℕ → ℕ → Terms → ℕ → ℕ → ℕ → ℕ
request_number R octets terms g need room = answered (request_conditions R (not (within 1 2048 octets)) octets terms g need room)

-- the octets of A bits, and 0, which 7 refuses, where they are no whole number
unfoldable pub octets_of : ℕ → ℕ
octets_of a = cond (eqb (a % 8) 0) (a / 8) 0

-- 5 to 13, 16 and 19, all of receive_number but 14
unfoldable pub reception_number : List ℕ → ℕ → Terms → List ℕ → ℕ → ℕ
reception_number R a terms bits room =
    answered
    (request_conditions R (not_octets a) (a / 8) terms (length bits) (a / 8) room
    ++ ((12, some_over 1 bits) ∷ (13, some_without_room R (a / 8) terms (length bits)) ∷ []))
