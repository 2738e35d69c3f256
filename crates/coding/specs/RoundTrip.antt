-- What the third demand speaks of: room in every block, and bits that no block is sent as.
use Rattle.std.specs.Prelude.{◌≡◌, false, List, ℕ, ◌≤◌, length, take}
use Rattle.bits.specs.Bits.{AreOctets}
use Rattle.bits.specs.declared.number.Written.{Written}
use Rattle.bits.specs.declared.count.Terms.{Terms}
use Rattle.profile.specs.Record.{kind}
use Rattle.cutting.specs.Promises.{plan_number}
use Rattle.matching.specs.Matching.{misversioned}
use Rattle.coding.specs.Allocation.{misallocated}
use Rattle.coding.specs.Receiving.{some_without_room}
use Rattle.coding.specs.Promises.{too_few_places}

-- "Take an accepted profile, block length and allocation in which every code block has room for all its coded bits that are not filler", and by document 02 a
-- redundancy version, "receiver and sender using the same one" (CR 3), and an edition: "Demand 3 holds within one edition, never across two" (CR 8)
pub record Roomy (R : List ℕ) (octets : ℕ) (terms : Terms) (g : ℕ) : Type 0 where
  pub taken : plan_number R terms.edition octets ≡ 0
  pub version : misversioned (kind R) terms.rv ≡ false
  pub allocation : misallocated terms g ≡ false
  pub enough : too_few_places R octets terms g ≡ false
  pub room : some_without_room R octets terms g ≡ false

-- "no transport block of that length is sent as them": no call that keeps its promise leaves these bits in front of an output that holds them.
-- `promised` is what the call promises of a block, an output, its answer and the output after.
abbrev pub NoneSentAs : (List ℕ → List ℕ → Written → List ℕ → Type 0) → ℕ → List ℕ → Type 0
NoneSentAs promised octets bits =
    (block : List ℕ) → AreOctets block → length block ≡ octets
    → (out : List ℕ) (r : Written) (out' : List ℕ) → length bits ≤ length out → promised block out r out' → take (length bits) out' ≡ bits → ⊥
