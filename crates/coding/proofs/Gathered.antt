-- The received bits, stretch by stretch: where every block has room there is one list of transport bits that they can have been sent for, and
-- it is what the receiver gathers.
use mathlib.Core.Path.{◌≡◌, refl, sym, ap, ap₂, ◌∙◌}
use mathlib.Core.List.{List}
use Prim.Native.Nat.{ℕ, suc, ◌+◌, ◌-◌, ◌*◌, ◌≤◌, ◌<◌}
use native.Mathlib.Nat.{add-mul, le-mul_of_pos_right, mul_comm}
use native.Mathlib.Omega.{arith}
use borrow.Author.Tests.{ltb-false}
use lib.Dec.{ltb}
use lib.ListN.{length, take, drop}
use lib.Seq.{take_all, length-take-le}
use Rattle.bits.specs.Bits.{AreBits}
use Rattle.bits.specs.Ranges.{sum_below}
use Rattle.bits.specs.declared.count.Terms.{Terms}
use Rattle.bits.proofs.Lists.{bits-take, bits-drop, length_part}
use Rattle.bits.proofs.Ranges.{none_any}
use Rattle.bits.proofs.Sums.{sum_same, sum_mono}
use Rattle.profile.specs.Record.{kb, kind, z, rows, columns, table}
use Rattle.profile.proofs.Shape.{columns_is}
use Rattle.cutting.specs.Plan.{block_bits, sum_bits, blocks, own_bits, carried_bits, size_index, places}
use Rattle.cutting.specs.Cutting.{own_start, own, carried, systematic}
use Rattle.cutting.proofs.Summed.{with-sum-front}
use Rattle.cutting.proofs.Carried.{carried-bits, carried_fits, own-size, carried-size}
use Rattle.cutting.proofs.Plans.{Cut, plan-cut}
use Rattle.matching.specs.Steps.Places.{kept_before}
use Rattle.matching.specs.Steps.Line.{heard}
use Rattle.matching.proofs.Start.{versioned, start_within}
use Rattle.matching.proofs.Heard.{in_line_length, in_line_bits}
use Rattle.block.proofs.ReceivedBlock.{heard-own}
use Rattle.coding.specs.Blocks.{coded_block, sendable}
use Rattle.coding.specs.Allocation.{share}
use Rattle.coding.specs.Joining.{block_sent, joined, radio_bits}
use Rattle.coding.specs.Receiving.{some_without_room}
use Rattle.coding.specs.Steps.Shares.{Allocated}
use Rattle.coding.specs.Steps.Sending.{version_start}
use Rattle.coding.specs.Steps.Receiving.{share_start, stretch, carried_received, own_received, gathered, Receivable}
use Rattle.coding.proofs.Joining.{length-joined, joined-stretch, joined_same, joined-bits, joined-cut}
use Rattle.coding.proofs.Shares.{shares_all}
use Rattle.coding.proofs.Sent.{block-length, block-sent-is, sendable_parts}

-- bits in which every block has room for its coded bits that are not filler
pub record HasRoom (R : List ℕ) (b : ℕ) (terms : Terms) (bits : List ℕ) : Type 0 where
  pub cut : Cut R terms.edition b
  pub allocated : Allocated terms (length bits) (blocks R terms.edition b)
  pub single : AreBits bits
  pub starts : version_start R b terms ≤ columns R * z R (size_index R terms.edition b)
  pub room : (r : ℕ) → r < blocks R terms.edition b → sendable R terms.edition b r ≤ (share terms (length bits) (blocks R terms.edition b) r).0

pub has_room_of : (R : List ℕ) (octets : ℕ) (terms : Terms) (bits : List ℕ) → Receivable R octets terms bits → HasRoom R (block_bits octets) terms bits
unfolding some_without_room version_start
has_room_of R octets terms bits h =
    let b = block_bits octets in
    let ed = terms.edition in
    let c = blocks R ed b in
    record {
      cut = plan-cut R ed octets h.taken;
      allocated = h.allocated;
      single = h.single;
      starts = start_within (kind R) terms.rv _ (versioned (kind R) terms.rv h.version);
      room = λ r l. ltb-false _ _ (none_any c (λ i. ltb (share terms (length bits) c i).0 (sendable R ed b i)) h.room r l);
    }

module _ (R : List ℕ) (b : ℕ) (terms : Terms) (bits : List ℕ) (h : HasRoom R b terms bits) where
  abbrev ed : ℕ
  ed = terms.edition

  abbrev c : ℕ
  c = blocks R ed b

  abbrev g : ℕ
  g = length bits

  abbrev mine : ℕ → ℕ
  mine r = own_bits b c r

  abbrev load : ℕ → ℕ
  load r = carried_bits R ed b r

  abbrev given : ℕ → ℕ
  given r = (share terms g c r).0

  abbrev at : ℕ → ℕ
  at r = share_start terms g c r

  cut : Cut R ed b
  cut = h.cut

  -- ---- room

  load_is : (r : ℕ) → load r ≡ mine r + sum_bits R ed b
  unfolding carried_bits
  load_is r = refl

  pub has_room : (r : ℕ) → r < c → load r + rows R * z R (size_index R ed b) ≤ given r
  has_room r l = omega (arith, sendable_parts R ed b cut r, h.room r l)

  -- the stretches are all that was received
  stretches-end : at c ≡ g
  unfolding share_start
  stretches-end = shares_all terms g c h.allocated

  pub stretch-within : (r : ℕ) → r < c → at r + given r ≤ g
  unfolding share_start sum_below
  stretch-within r l =
      let within : suc r ≤ c = omega arith in
      omega (arith, sum_mono (λ i. (share terms g c i).0) (suc r) c within, stretches-end)

  -- ---- the gathered bits

  abbrev t : List ℕ
  t = gathered R b terms bits

  abbrev total : ℕ
  total = columns R * z R (size_index R ed b)

  -- a block's bits in line, as if they had been sent from the first place
  abbrev lined : ℕ → List ℕ → List ℕ
  lined n s = heard n (places R ed b) (version_start R b terms) total s

  stretch-length : (r : ℕ) → r < c → length (stretch R b terms bits r) ≡ given r
  unfolding stretch
  stretch-length r l = length_part (given r) (at r) bits (stretch-within r l)

  carried-is : (r : ℕ) → carried_received R b terms bits r ≡ take (load r) (lined (load r) (stretch R b terms bits r))
  unfolding carried_received
  carried-is r = refl

  received_is : (r : ℕ) → own_received R b terms bits r ≡ take (mine r) (carried_received R b terms bits r)
  unfolding own_received
  received_is r = refl

  -- behind the places there are parity bits
  behind : total - places R ed b ≡ rows R * z R (size_index R ed b)
  behind = omega (arith, cut.product, ap (λ (n : ℕ). n * z R (size_index R ed b)) (columns_is R), add-mul (kb R) (rows R) (z R (size_index R ed b)))

  pub load-length : (r : ℕ) → r < c → length (carried_received R b terms bits r) ≡ load r
  load-length r l =
      let n : ℕ = load r + (total - places R ed b) in
      let k : ℕ = kept_before (load r) (places R ed b) (version_start R b terms) in
      let long = in_line_length n k (stretch R b terms bits r) (omega (arith, has_room r l, stretch-length r l, behind)) in
      ap length (carried-is r) ∙ length-take-le (load r) (lined (load r) (stretch R b terms bits r)) (omega (arith, long))

  pub load-bits : (r : ℕ) → AreBits (carried_received R b terms bits r)
  unfolding carried_received stretch
  load-bits r =
      bits-take (load r) (lined (load r) (stretch R b terms bits r))
      (in_line_bits _ _ (stretch R b terms bits r) (bits-take (given r) (drop (at r) bits) (bits-drop (at r) bits h.single)))

  received-length : (r : ℕ) → r < c → length (own_received R b terms bits r) ≡ mine r
  received-length r l =
      ap length (received_is r) ∙ length-take-le (mine r) (carried_received R b terms bits r) (omega (arith, load-length r l, load_is r))

  pub front_length : (r : ℕ) → r ≤ c → length (joined r (own_received R b terms bits)) ≡ own_start R terms.edition b r
  unfolding own_start
  front_length r l = length-joined (own_received R b terms bits) r ∙ sum_same r _ _ (λ i o. received-length i (omega arith))

  pub gathered-length : length (gathered R b terms bits) ≡ b
  unfolding gathered own_start
  gathered-length = front_length c (omega arith) ∙ cut.own_sum

  pub gathered-bits : AreBits (gathered R b terms bits)
  unfolding gathered own_received
  gathered-bits =
      joined-bits (own_received R b terms bits) c (λ r l. bits-take (mine r) (carried_received R b terms bits r) (load-bits r))

  -- block r's own bits are those that stand at the beginning of its stretch, once it is in line
  pub own-gathered : (r : ℕ) → r < c → own R terms.edition b t r ≡ own_received R b terms bits r
  unfolding own gathered
  own-gathered r l =
      let f = own_received R b terms bits in
      let part = joined-stretch f c r l in
      let size : length (f r) ≡ mine r = received-length r l in
      let start : length (joined r f) ≡ own_start R ed b r = front_length r (omega arith) in
      rw (size, start) at part

  -- ---- transport bits that are sent as the received bits

  module _ (u : List ℕ) where
    f : ℕ → List ℕ
    f = block_sent R b u terms g

    f-length : (r : ℕ) → length (f r) ≡ given r
    unfolding f
    f-length r = block-length R b u terms g r

    sent-length : (r : ℕ) → length (joined r f) ≡ at r
    unfolding f share_start
    sent-length r = length-joined f r ∙ sum_same r _ _ (λ i o. f-length i)

    sent_is : radio_bits R b u terms g ≡ joined c f
    unfolding f radio_bits
    sent_is = refl

    module _ (e : radio_bits R b u terms g ≡ bits) where
      whole : bits ≡ joined c f
      whole = sym e ∙ sent_is

      -- each block's bits are its stretch
      pub stretch-sent : (r : ℕ) → r < c → block_sent R b u terms g r ≡ take (given r) (drop (at r) bits)
      unfolding f
      stretch-sent r l =
          sym (joined-stretch f c r l) ∙ ap₂ (λ (i j : ℕ). take i (drop j (joined c f))) (f-length r) (sent-length r)
          ∙ ap (λ (l : List ℕ). take (given r) (drop (at r) l)) (sym whole)

    -- the other way round
    pub all-sent : ((r : ℕ) → r < c → block_sent R b u terms g r ≡ take (given r) (drop (at r) bits)) → radio_bits R b u terms g ≡ bits
    unfolding f share_start
    all-sent each =
        sent_is ∙ joined_same f (λ r. take (given r) (drop (at r) bits)) c each ∙ joined-cut given bits c
        ∙ take_all (at c) bits (omega (arith, stretches-end))

    -- they are the gathered ones
    module _ (size : length u ≡ b) (single : AreBits u) where
      sized : (r : ℕ) → r < c → length (carried R ed b u r) ≡ load r
      sized = carried-size R ed b u cut size

      carried-begins : (r : ℕ) → r < c → take (length (carried R ed b u r)) (lined (length (carried R ed b u r)) (block_sent R b u terms g r)) ≡ carried R ed b u r
      unfolding coded_block systematic carried
      carried-begins r l =
          let product = cut.product in
          let y = z R (size_index R ed b) in
          let low = cut.known.z_low (size_index R ed b) cut.size in
          let more : y ≤ y * rows R = le-mul_of_pos_right y (omega (arith, cut.known.rows_low)) in
          let some : 0 < rows R * y = omega (arith, mul_comm y (rows R), more, low) in
          let law = heard-own (table R (size_index R ed b)) (carried R ed b u r) (kb R) (rows R) (columns R) y (columns_is R)
          (carried-bits R ed b u single r) (omega (arith, sized r l, carried_fits R ed b cut r, product)) (version_start R b terms) (given r) h.starts some (omega (arith, sized r l, has_room r l)) in
          ap (λ (s : List ℕ). take (length (carried R ed b u r)) (lined (length (carried R ed b u r)) s)) (block-sent-is R b u terms g r cut) ∙ rw product law

      module _ (e : radio_bits R b u terms g ≡ bits) where
        pub carried-sent : (r : ℕ) → r < c → carried R terms.edition b u r ≡ carried_received R b terms bits r
        unfolding stretch
        carried-sent r l =
            sym (carried-begins r l) ∙ ap₂ (λ (n : ℕ) (s : List ℕ). take n (lined n s)) (sized r l) (stretch-sent e r l) ∙ sym (carried-is r)

        -- the own bits are those in front of what is carried
        own-sent : (r : ℕ) → r < c → own R ed b u r ≡ own_received R b terms bits r
        unfolding carried
        own-sent r l =
            sym (with-sum-front (sum_bits R ed b) (own R ed b u r)) ∙ ap₂ take (own-size R ed b u cut size r l) (carried-sent r l) ∙ sym (received_is r)

        pub sent-gathered : u ≡ t
        unfolding gathered own own_start
        sent-gathered =
            sym (take_all b u (omega (arith, size)))
            ∙ ap (λ (n : ℕ). take n u) (sym cut.own_sum)
            ∙ sym (joined-cut mine u c)
            ∙ joined_same (λ r. take (mine r) (drop (own_start R ed b r) u)) (own_received R b terms bits) c (λ r l. own-sent r l)
