-- "Edition 1 stays as it is" (document 02, CR 8): what the definitions said before there were editions, each under its name and "one". R is the profile's record,
-- b is B, bits the transport bits. That edition 1 gives these is in the proofs.
use Rattle.std.specs.Prelude.{◌≡◌, Bool, not, List, [], ◌∷◌, ◌++◌, ℕ, ◌-◌, ◌*◌, ◌/◌, ◌^◌, ltb, length, take, drop}
use Rattle.bits.specs.Bits.{some_over, same, with_filler}
use Rattle.bits.specs.Counts.{ceil}
use Rattle.bits.specs.Numbers.{answered}
use Rattle.bits.specs.Ranges.{sum_below, within, any_below, first_below}
use Rattle.bits.specs.declared.count.Terms.{Terms}
use Rattle.profile.specs.Record.{kb, kind, z, rows, columns, table}
use Rattle.profile.specs.Promises.{judge_conditions}
use Rattle.cutting.specs.Plan.{block_bits, kmax, sum_bits, blocks, own_bits, size_index_for, size_index, places}
use Rattle.cutting.specs.Promises.{plan_number}
use Rattle.cutting.specs.Transport.{transport}
use Rattle.parity.specs.Coded.{coded}
use Rattle.matching.specs.Matching.{matched_from, misversioned}
use Rattle.coding.specs.Allocation.{misallocated, symbol_places, share}
use Rattle.coding.specs.Joining.{joined, radio_bits}
use Rattle.coding.specs.Receiving.{nth_block, received_block}
use Rattle.coding.specs.Promises.{send_number, not_octets, receive_number}

-- ---- steps 2 and 3

-- "C = ceil(B/Kmax)"
unfoldable pub one_blocks : List ℕ → ℕ → ℕ
one_blocks R b = ceil b (kmax R)

-- "the smallest z with kb·z ≥ ceil(B/C)", "K = kb·z"
unfoldable pub one_size_index : List ℕ → ℕ → ℕ
one_size_index R b = size_index_for R (ceil b (one_blocks R b))

unfoldable pub one_places : List ℕ → ℕ → ℕ
one_places R b = kb R * z R (one_size_index R b)

-- "Places past a block's own bits, at its end, are filler"
unfoldable pub one_filler : List ℕ → ℕ → ℕ → ℕ
one_filler R b r = one_places R b - own_bits b (one_blocks R b) r

unfoldable pub one_own : List ℕ → ℕ → List ℕ → ℕ → List ℕ
one_own R b bits r = take (own_bits b (one_blocks R b) r) (drop (sum_below r (own_bits b (one_blocks R b))) bits)

unfoldable pub one_systematic : List ℕ → ℕ → List ℕ → ℕ → List ℕ
one_systematic R b bits r = with_filler (one_places R b) (one_own R b bits r)

-- ---- steps 4 to 6

unfoldable pub one_coded_block : List ℕ → ℕ → List ℕ → ℕ → List ℕ
one_coded_block R b bits r = coded (table R (one_size_index R b)) (rows R) (columns R) (z R (one_size_index R b)) (one_systematic R b bits r)

unfoldable pub one_sendable : List ℕ → ℕ → ℕ → ℕ
one_sendable R b r = columns R * z R (one_size_index R b) - one_filler R b r

unfoldable pub one_block_sent : List ℕ → ℕ → List ℕ → Terms → ℕ → ℕ → List ℕ
one_block_sent R b bits terms g r = matched_from (kind R) terms.rv (one_coded_block R b bits r) (share terms g (one_blocks R b) r).0

unfoldable pub one_radio_bits : List ℕ → ℕ → List ℕ → Terms → ℕ → List ℕ
one_radio_bits R b bits terms g = joined (one_blocks R b) (one_block_sent R b bits terms g)

-- ---- the way back

unfoldable pub one_sent_as : List ℕ → Terms → List ℕ → List ℕ → Bool
one_sent_as R terms bits block = same (one_radio_bits R (block_bits (length block)) (transport block) terms (length bits)) bits

unfoldable pub one_some_sent_as : List ℕ → ℕ → Terms → List ℕ → Bool
one_some_sent_as R octets terms bits = any_below (2 ^ (8 * octets)) (λ n. one_sent_as R terms bits (nth_block octets n))

unfoldable pub one_received_block : List ℕ → ℕ → Terms → List ℕ → List ℕ
one_received_block R octets terms bits = nth_block octets (first_below (2 ^ (8 * octets)) (λ n. one_sent_as R terms bits (nth_block octets n)))

unfoldable pub one_some_without_room : List ℕ → ℕ → Terms → ℕ → Bool
one_some_without_room R octets terms g =
    any_below (one_blocks R (block_bits octets)) (λ r. ltb (share terms g (one_blocks R (block_bits octets)) r).0 (one_sendable R (block_bits octets) r))

-- ---- the numbers

abbrev pub one_plan_conditions : List ℕ → ℕ → List (ℕ × Bool)
one_plan_conditions R octets = judge_conditions R ++ ((7, not (within 1 2048 octets)) ∷ (9, ltb 64 (one_blocks R (block_bits octets))) ∷ [])

abbrev pub one_request_conditions : List ℕ → Bool → ℕ → Terms → ℕ → ℕ → ℕ → List (ℕ × Bool)
one_request_conditions R other octets terms g need lent =
    judge_conditions R
    ++ ((7, other)
    ∷ (16, misversioned (kind R) terms.rv)
    ∷ (8, misallocated terms g)
    ∷ (9, ltb 64 (one_blocks R (block_bits octets)))
    ∷ (10, ltb (symbol_places terms g).0 (one_blocks R (block_bits octets)))
    ∷ (11, ltb lent need)
    ∷ [])

abbrev pub one_send_conditions : List ℕ → List ℕ → Terms → ℕ → ℕ → List (ℕ × Bool)
one_send_conditions R block terms g lent = one_request_conditions R (not (within 1 2048 (length block))) (length block) terms g g lent

abbrev pub one_receive_conditions : List ℕ → ℕ → Terms → List ℕ → ℕ → List (ℕ × Bool)
one_receive_conditions R a terms bits lent =
    one_request_conditions R (not_octets a) (a / 8) terms (length bits) (a / 8) lent
    ++ ((12, some_over 1 bits)
    ∷ (13, one_some_without_room R (a / 8) terms (length bits))
    ∷ (14, not (one_some_sent_as R (a / 8) terms bits))
    ∷ [])

-- ---- as it was

-- with these terms, and blocks of so many octets, all that the promises of planning, sending and receiving are made of: the numbers, how a block is cut, and
-- what is written
pub record AsBefore (R : List ℕ) (terms : Terms) (octets : ℕ) : Type 0 where
  pub plan : plan_number R terms.edition octets ≡ answered (one_plan_conditions R octets)
  pub cut : (blocks R terms.edition (block_bits octets) ≡ one_blocks R (block_bits octets)) × (size_index R terms.edition (block_bits octets) ≡ one_size_index R (block_bits octets))
      × (places R terms.edition (block_bits octets) ≡ one_places R (block_bits octets)) × (sum_bits R terms.edition (block_bits octets) ≡ 0)
  pub send : (block : List ℕ) (g lent : ℕ) → length block ≡ octets → send_number R block terms g lent ≡ answered (one_send_conditions R block terms g lent)
  pub sent : (block : List ℕ) (g : ℕ) → length block ≡ octets
      → radio_bits R (block_bits (length block)) (transport block) terms g ≡ one_radio_bits R (block_bits (length block)) (transport block) terms g
  pub receive : (a : ℕ) (bits : List ℕ) (lent : ℕ) → a / 8 ≡ octets → receive_number R a terms bits lent ≡ answered (one_receive_conditions R a terms bits lent)
  pub received : (bits : List ℕ) → received_block R octets terms bits ≡ one_received_block R octets terms bits
