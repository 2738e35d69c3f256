-- What the steps of receiving promise each other.
use Rattle.std.specs.Prelude.{◌≡◌, Bool, true, false, List, ◌++◌, ℕ, ◌*◌, length, take, drop}
use Rattle.bits.specs.Bits.{AreBits}
use Rattle.bits.specs.Ranges.{sum_below}
use Rattle.bits.specs.declared.number.Written.{Written}
use Rattle.bits.specs.declared.count.Terms.{Terms}
use Rattle.profile.specs.Record.{kind, z, columns}
use Rattle.cutting.specs.Plan.{block_bits, blocks, own_bits, carried_bits, size_index, places}
use Rattle.cutting.specs.Promises.{plan_number, done_plan, planned}
use Rattle.cutting.specs.declared.Plan.{Plan}
use Rattle.matching.specs.Matching.{misversioned}
use Rattle.matching.specs.Steps.Line.{heard}
use Rattle.coding.specs.Allocation.{share}
use Rattle.coding.specs.Joining.{joined, radio_bits}
use Rattle.coding.specs.Receiving.{some_sent_as, received_block, some_without_room}
use Rattle.coding.specs.Steps.Sending.{version_start}
use Rattle.coding.specs.Steps.Shares.{Allocated}

-- block r's stretch of the received bits begins where the shares before it end
unfoldable pub share_start : Terms → ℕ → ℕ → ℕ → ℕ
share_start terms g c r = sum_below r (λ i. (share terms g c i).0)

-- that stretch
unfoldable pub stretch : List ℕ → ℕ → Terms → List ℕ → ℕ → List ℕ
stretch R b terms bits r =
    take (share terms (length bits) (blocks R terms.edition b) r).0 (drop (share_start terms (length bits) (blocks R terms.edition b) r) bits)

-- what block r carries stands at the beginning of its stretch, once that is in line; b is the count of transport bits
unfoldable pub carried_received : List ℕ → ℕ → Terms → List ℕ → ℕ → List ℕ
carried_received R b terms bits r =
    take (carried_bits R terms.edition b r)
    (heard (carried_bits R terms.edition b r) (places R terms.edition b) (version_start R b terms) (columns R * z R (size_index R terms.edition b))
    (stretch R b terms bits r))

-- its own bits in front of their checksum
unfoldable pub own_received : List ℕ → ℕ → Terms → List ℕ → ℕ → List ℕ
own_received R b terms bits r = take (own_bits b (blocks R terms.edition b) r) (carried_received R b terms bits r)

-- the transport bits that the received bits can only have been sent for
unfoldable pub gathered : List ℕ → ℕ → Terms → List ℕ → List ℕ
gathered R b terms bits = joined (blocks R terms.edition b) (own_received R b terms bits)

-- received bits that no number before 14 refuses, for a block of so many octets
pub record Receivable (R : List ℕ) (octets : ℕ) (terms : Terms) (bits : List ℕ) : Type 0 where
  pub taken : plan_number R terms.edition octets ≡ 0
  pub version : misversioned (kind R) terms.rv ≡ false
  pub allocated : Allocated terms (length bits) (blocks R terms.edition (block_bits octets))
  pub single : AreBits bits
  pub room : some_without_room R octets terms (length bits) ≡ false

-- and p is the plan of such blocks
pub record ReceivablePlan (R : List ℕ) (terms : Terms) (bits : List ℕ) (p : Plan) : Type 0 where
  pub octets : ℕ
  pub receivable : Receivable R octets terms bits
  pub plan : done_plan p ≡ planned R terms.edition octets

-- the gathered bits are sent as the received ones, and stand in front of room; or they are not
pub record Rebuilt (R : List ℕ) (terms : Terms) (bits : List ℕ) (b : ℕ) (r : Bool) (room : List ℕ) : Type 0 where
  pub sent : r ≡ true
      → (radio_bits R b (gathered R b terms bits) terms (length bits) ≡ bits) × (take b room ≡ gathered R b terms bits)
  pub other : r ≡ false → radio_bits R b (gathered R b terms bits) terms (length bits) ≡ bits → ⊥

-- the received bits were decided on: the block that is sent as them was written, or they were refused with 14
pub record Decided (R : List ℕ) (octets : ℕ) (terms : Terms) (bits out : List ℕ) (r : Written) (out' : List ℕ) : Type 0 where
  pub found : some_sent_as R octets terms bits ≡ true → (r.number ≡ 0) × (r.count ≡ octets) × (out' ≡ received_block R octets terms bits ++ drop octets out)
  pub unsent : some_sent_as R octets terms bits ≡ false → (r.number ≡ 14) × (r.count ≡ 0) × (out' ≡ out)
