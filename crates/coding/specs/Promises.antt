-- What the public calls promise, for all octets, lengths and numbers. `Written` has a number and the count written; out' is the output after the
-- call. What is lent for reading has no after.
use Rattle.std.specs.Prelude.{◌≡◌, Bool, not, ◌&&◌, List, [], ◌∷◌, ◌++◌, ℕ, ◌/◌, ◌%◌, eqb, ltb, length, drop}
use Rattle.bits.specs.Bits.{some_over}
use Rattle.bits.specs.Numbers.{answered, when_done}
use Rattle.bits.specs.Ranges.{within}
use Rattle.bits.specs.declared.number.Written.{Written}
use Rattle.bits.specs.declared.count.Terms.{Terms}
use Rattle.profile.specs.Record.{kind}
use Rattle.profile.specs.Promises.{judge_conditions}
use Rattle.cutting.specs.Plan.{block_bits, other_edition, blocks, too_many_blocks}
use Rattle.cutting.specs.Transport.{transport}
use Rattle.matching.specs.Matching.{misversioned}
use Rattle.coding.specs.Allocation.{misallocated, symbol_places}
use Rattle.coding.specs.Joining.{radio_bits}
use Rattle.coding.specs.Receiving.{some_sent_as, received_block, some_without_room}

-- ---- what sending and receiving refuse alike; R is the profile's record

-- 5 to 9, 19 "before 7" (CR 8) and 16 "between 7 and 8" (CR 3): `other` is whether the block's length is against 7, which sending and receiving say each in
-- its own words
abbrev pub cut_conditions : List ℕ → Bool → ℕ → Terms → ℕ → List (ℕ × Bool)
cut_conditions R other octets terms g =
    judge_conditions R
    ++ ((19, other_edition terms.edition)
    ∷ (7, other)
    ∷ (16, misversioned (kind R) terms.rv)
    ∷ (8, misallocated terms g)
    ∷ (9, too_many_blocks R terms.edition (block_bits octets))
    ∷ [])

-- 10: "G' below C"
unfoldable pub too_few_places : List ℕ → ℕ → Terms → ℕ → Bool
too_few_places R octets terms g = ltb (symbol_places terms g).0 (blocks R terms.edition (block_bits octets))

-- 5 to 11, 16 and 19; 11 is "output shorter than G (sending) or A/8 (receiving)", and `need` is that G or A/8
abbrev pub request_conditions : List ℕ → Bool → ℕ → Terms → ℕ → ℕ → ℕ → List (ℕ × Bool)
request_conditions R other octets terms g need lent =
    cut_conditions R other octets terms g ++ ((10, too_few_places R octets terms g) ∷ (11, ltb lent need) ∷ [])

-- ---- sending

abbrev pub send_conditions : List ℕ → List ℕ → Terms → ℕ → ℕ → List (ℕ × Bool)
send_conditions R block terms g lent =
    request_conditions R (not (within 1 2048 (length block))) (length block) terms g g lent

unfoldable pub send_number : List ℕ → List ℕ → Terms → ℕ → ℕ → ℕ
send_number R block terms g lent = answered (send_conditions R block terms g lent)

-- "Sending answers its number and the count written: G with 0, else 0. .. Octets past that count stay as they were. A refusal changes nothing in the
-- output."
pub record Sent (R block : List ℕ) (terms : Terms) (g : ℕ) (out : List ℕ) (r : Written) (out' : List ℕ) : Type 0 where
  pub number : r.number ≡ send_number R block terms g (length out)
  pub count : r.count ≡ when_done (send_number R block terms g (length out)) g 0
  pub output : out'
      ≡ when_done (send_number R block terms g (length out)) (radio_bits R (block_bits (length block)) (transport block) terms g ++ drop g out) out

-- ---- receiving; a is A, the bits of the block that is asked for

-- 7, "receiving: A not 8 times a number from 1 to 2,048"
unfoldable pub not_octets : ℕ → Bool
not_octets a = not (eqb (a % 8) 0 && within 1 2048 (a / 8))

-- 12 "a received octet over 1"; 14 "E ≥ N everywhere, and no block is sent as these bits": where 13 does not hold, E ≥ N everywhere
abbrev pub receive_conditions : List ℕ → ℕ → Terms → List ℕ → ℕ → List (ℕ × Bool)
receive_conditions R a terms bits lent =
    request_conditions R (not_octets a) (a / 8) terms (length bits) (a / 8) lent
    ++ ((12, some_over 1 bits)
    ∷ (13, some_without_room R (a / 8) terms (length bits))
    ∷ (14, not (some_sent_as R (a / 8) terms bits))
    ∷ [])

unfoldable pub receive_number : List ℕ → ℕ → Terms → List ℕ → ℕ → ℕ
receive_number R a terms bits lent = answered (receive_conditions R a terms bits lent)

-- "Receiving answers its number and A/8, else 0", and the same of the output
pub record Received (R : List ℕ) (a : ℕ) (terms : Terms) (bits out : List ℕ) (r : Written) (out' : List ℕ) : Type 0 where
  pub number : r.number ≡ receive_number R a terms bits (length out)
  pub count : r.count ≡ when_done (receive_number R a terms bits (length out)) (a / 8) 0
  pub output : out' ≡ when_done (receive_number R a terms bits (length out)) (received_block R (a / 8) terms bits ++ drop (a / 8) out) out
