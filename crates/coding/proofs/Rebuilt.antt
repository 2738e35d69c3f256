-- The receiver's walk over the blocks: what each test says of the gathered bits, and what all of them together say.
use mathlib.Core.Path.{◌≡◌, refl, sym, ap, ap₂, ◌∙◌}
use mathlib.Core.Bool.{Bool, true, false, ◌&&◌, true≢false}
use mathlib.Core.List.{List, ◌++◌}
use Prim.Native.Nat.{ℕ, ◌+◌, ◌-◌, ◌*◌, ◌≤◌, ◌<◌}
use native.Mathlib.Nat.{add-mul}
use native.Mathlib.Numerals.{add-one}
use native.Mathlib.Omega.{arith}
use lib.ListN.{length, take, drop}
use Rattle.bits.specs.Bits.{same, with_filler}
use Rattle.bits.specs.Ranges.{sum_below}
use Rattle.bits.specs.declared.count.Terms.{Terms}
use Rattle.bits.specs.Steps.Places.{Laid}
use Rattle.bits.proofs.Lists.{same_equal, same_self, length_part}
use Rattle.bits.proofs.Ranges.{both, last_or}
use Rattle.bits.proofs.Laid.{laid-front}
use Rattle.profile.specs.Record.{kb, rows, columns, table}
use Rattle.profile.proofs.Shape.{columns_is}
use Rattle.cutting.specs.Plan.{block_bits, blocks, own_bits}
use Rattle.cutting.specs.Cutting.{own_start, own, with_sum, carried, systematic}
use Rattle.cutting.specs.declared.Plan.{Plan}
use Rattle.cutting.specs.Steps.Plans.{sum_holds}
use Rattle.cutting.proofs.Summed.{with-sum-holds, holds_with_sum}
use Rattle.cutting.proofs.PlanFields.{PlanFields, bits_is, plan-fields, places-product, plan-sum}
use Rattle.matching.specs.Steps.Line.{heard}
use Rattle.block.specs.Steps.Blocks.{block_sent_as, carried_by}
use Rattle.coding.specs.Blocks.{coded_block}
use Rattle.coding.specs.Allocation.{share}
use Rattle.coding.specs.Joining.{block_sent, joined, radio_bits}
use Rattle.coding.specs.Steps.Shares.{Allocated}
use Rattle.coding.specs.Steps.Sending.{version_start}
use Rattle.coding.specs.Steps.Receiving.{share_start, stretch, carried_received, own_received, gathered, ReceivablePlan}
use Rattle.coding.proofs.Gathered.{HasRoom, has_room_of, has_room, load-length, load-bits, gathered-length, gathered-bits, own-gathered, stretch-sent, all-sent, carried-sent}
use Rattle.coding.proofs.Sent.{start_none, start_turn, own_is, carried-is, own-fits, share-fits, share-turn, block-sent-is}

-- the blocks before r were tested and are what the gathered bits are sent as, and their own bits stand in front of room
pub record Walk (R : List ℕ) (terms : Terms) (bits : List ℕ) (b : ℕ) (old : List ℕ) (r start from : ℕ) (room : List ℕ) : Type 0 where
  pub starts : start ≡ own_start R terms.edition b r
  pub stands : from ≡ sum_below r (λ i. (share terms (length bits) (blocks R terms.edition b) i).0)
  pub sent : (i : ℕ) → i < r
      → block_sent R b (gathered R b terms bits) terms (length bits) i
      ≡ take (share terms (length bits) (blocks R terms.edition b) i).0 (drop (sum_below i (λ j. (share terms (length bits) (blocks R terms.edition b) j).0)) bits)
  pub front : take start room ≡ joined r (own_received R b terms bits)
  pub same : length room ≡ length old

pub walk_none : (R : List ℕ) (terms : Terms) (bits : List ℕ) (b : ℕ) (old : List ℕ) → Walk R terms bits b old 0 0 0 old
unfolding sum_below joined
walk_none R terms bits b old =
    record {
      starts = sym (start_none R terms.edition b);
      stands = refl;
      sent = λ i h. absurd (omega arith);
      front = refl;
      same = refl;
    }

module _ (R : List ℕ) (terms : Terms) (bits : List ℕ) (p : Plan) (h : ReceivablePlan R terms bits p) where
  abbrev t : List ℕ
  t = gathered R p.bits terms bits

  abbrev ed : ℕ
  ed = terms.edition

  pub fields : PlanFields R terms.edition p
  fields = plan-fields R ed h.octets p h.plan h.receivable.taken

  room-everywhere : HasRoom R p.bits terms bits
  room-everywhere =
      let is : block_bits h.octets ≡ p.bits = sym (bits_is R ed h.octets p h.plan h.receivable.taken) in
      rw is at (has_room_of R h.octets terms bits h.receivable)

  -- in terms of the plan
  pub given_here : Allocated terms (length bits) p.blocks
  given_here = rw fields.blocks_is room-everywhere.allocated

  abbrev given : ℕ → ℕ
  given r = (share terms (length bits) (blocks R ed p.bits) r).0

  abbrev at : ℕ → ℕ
  at r = sum_below r given

  pub room_here : (r n e : ℕ) → r < p.blocks → n ≡ own_bits p.bits p.blocks r → e ≡ (share terms (length bits) (blocks R terms.edition p.bits) r).0
      → n + p.sums + (columns R * p.z - p.places) ≤ e
  room_here r n e l q d =
      let k = fields in
      let room = has_room R p.bits terms bits room-everywhere r (omega (arith, k.blocks_is)) in
      let product = places-product R p k in
      let parts = add-mul (kb R) (rows R) p.z in
      let wide : columns R * p.z ≡ (kb R + rows R) * p.z = ap (λ (n : ℕ). n * p.z) (columns_is R) in
      omega (arith, carried-is R p k r n q, d, ap (λ (n : ℕ). rows R * n) k.z_is, room, product, parts, wide)

  -- block r, whose stretch begins at `from`, has e bits, and n own bits in front
  module _ (r from e n start : ℕ) (l : r < p.blocks) (a : from ≡ at r) (d : e ≡ given r) (q : n ≡ own_bits p.bits p.blocks r)
      (v : start ≡ version_start R p.bits terms) where
    abbrev s : List ℕ
    s = take e (drop from bits)

    -- what it carries, as the code finds it
    abbrev load : List ℕ
    load = carried_by R p (n + p.sums) start s

    inside : r < blocks R ed p.bits
    inside = omega (arith, fields.blocks_is)

    load_here : load ≡ carried_received R p.bits terms bits r
    unfolding carried_received stretch share_start
    load_here =
        let k = fields in
        ap₂ (λ (i : ℕ) (x : List ℕ). take i (heard i p.places start (columns R * p.z) x)) (carried-is R p k r n q) (ap₂ (λ (i j : ℕ). take i (drop j bits)) d a)
        ∙ rw (k.places_is, v, k.z_is)

    own-here : take n load ≡ own_received R p.bits terms bits r
    unfolding own_received
    own-here = ap₂ take (own_is R p fields r n q) load_here

    own-there : take n load ≡ own R ed p.bits t r
    own-there = own-here ∙ sym (own-gathered R p.bits terms bits room-everywhere r inside)

    s-length : length s ≡ e
    s-length = length_part e from bits (share-fits R p terms fields (length bits) given_here r from e l a d)

    -- where what it carries is what the gathered bits give it, its test is that of what these are sent as
    tested-is : load ≡ carried R ed p.bits t r → block_sent_as (table R p.index) (rows R) (columns R) p.z start (with_filler p.places load) s
        ≡ same (block_sent R p.bits t terms (length bits) r) s
    unfolding block_sent_as coded_block systematic
    tested-is mine =
        let k = fields in
        ap (λ (x : List ℕ). same x s)
        (rw (mine, k.places_is, s-length, k.index_is, k.z_is, d, v) (sym (block-sent-is R p.bits t terms (length bits) r k.cut)))

    -- its checksum says that it is
    load-sum : sum_holds p.sums load ≡ true → load ≡ carried R ed p.bits t r
    unfolding carried
    load-sum holds =
        let k = fields in
        let long : length load ≡ n + p.sums = ap length load_here ∙ load-length R p.bits terms bits room-everywhere r inside ∙ sym (carried-is R p k r n q) in
        let own-count : length load - p.sums ≡ n = omega arith in
        holds_with_sum p.sums load (plan-sum R p k) (rw load_here (load-bits R p.bits terms bits room-everywhere r)) (omega arith) holds
        ∙ ap₂ (λ (i j : ℕ). with_sum i (take j load)) k.sums_is own-count ∙ ap (with_sum _) own-there

    -- and so do the received bits, where the gathered ones are sent as them
    module _ (whole : radio_bits R p.bits t terms (length bits) ≡ bits) where
      stretch-is : block_sent R p.bits t terms (length bits) r ≡ s
      unfolding share_start
      stretch-is = stretch-sent R p.bits terms bits room-everywhere t whole r inside ∙ ap₂ (λ (x y : ℕ). take x (drop y bits)) (sym d) (sym a)

      load-sent : load ≡ carried R ed p.bits t r
      load-sent =
          load_here
          ∙ sym (carried-sent R p.bits terms bits room-everywhere t (gathered-length R p.bits terms bits room-everywhere)
          (gathered-bits R p.bits terms bits room-everywhere) whole r inside)

      sum-sent : sum_holds p.sums load ≡ true
      unfolding carried
      sum-sent = ap₂ sum_holds fields.sums_is load-sent ∙ with-sum-holds _ (own R ed p.bits t r)

      both-sent : block_sent_as (table R p.index) (rows R) (columns R) p.z start (with_filler p.places load) s && sum_holds p.sums load ≡ true
      both-sent =
          ap₂ (λ (x y : Bool). x && y) (tested-is load-sent ∙ ap (λ (x : List ℕ). same x s) stretch-is ∙ same_self s) sum-sent

    -- what the test of the block says
    module _ (b : Bool)
        (tested : b ≡ block_sent_as (table R p.index) (rows R) (columns R) p.z start (with_filler p.places load) s && sum_holds p.sums load) where
      block-sent : b ≡ true → block_sent R p.bits t terms (length bits) r ≡ s
      block-sent y =
          let parts = both _ (sum_holds p.sums load) (sym tested ∙ y) in
          same_equal _ s (sym (tested-is (load-sum parts.1)) ∙ parts.0)

      pub block-other : b ≡ false → radio_bits R p.bits t terms (length bits) ≡ bits → ⊥
      block-other y whole = true≢false (sym (both-sent whole) ∙ sym tested ∙ y)

      pub walk_more : (old word room room' : List ℕ) (begin : ℕ) → b ≡ true → p.bits ≤ length old → take n word ≡ take n load → n ≤ length word
          → Walk R terms bits p.bits old r begin from room
          → Laid word 0 n room begin room' → Walk R terms bits p.bits old (r + 1) (begin + n) (from + e) room'
      unfolding joined
      walk_more old word room room' begin y big front has w laid =
          let k = fields in
          let fits = own-fits R p k r begin n l w.starts q in
          let fit : begin + n ≤ length room = omega (arith, fits, w.same) in
          record {
            starts = ap₂ (λ (x y : ℕ). x + y) w.starts (own_is R p k r n q) ∙ sym (start_turn R ed p.bits r);
            stands = share-turn R p terms k (length bits) r from e a d;
            sent = λ i u.
                last_or i r (omega arith) (λ o. w.sent i o)
                (λ o. ap (block_sent R p.bits t terms (length bits)) o ∙ block-sent y ∙ ap₂ (λ (x y : ℕ). take x (drop y bits)) (d ∙ ap given (sym o)) (a ∙ ap at (sym o)));
            front = laid-front word room room' 0 n begin (omega arith) fit laid ∙ rw (add-one r) (ap₂ (λ (x y : List ℕ). x ++ y) w.front (front ∙ own-here));
            same = laid.len ∙ w.same;
          }

  -- ---- after the last block

  module _ (old room : List ℕ) (r start from : ℕ) (end : r ≡ p.blocks) (w : Walk R terms bits p.bits old r start from room) where
    pub walk-done : (radio_bits R p.bits t terms (length bits) ≡ bits) × (take p.bits room ≡ t)
    unfolding gathered share_start own_start
    walk-done =
        let k = fields in
        let all : start ≡ p.bits = w.starts ∙ ap (own_start R ed p.bits) (end ∙ k.blocks_is) ∙ k.cut.own_sum in (
          all-sent R p.bits terms bits room-everywhere t (λ i u. w.sent i (omega (arith, k.blocks_is, end))),
          ap (λ (x : ℕ). take x room) (sym all) ∙ w.front ∙ ap (λ (n : ℕ). joined n (own_received R p.bits terms bits)) (end ∙ k.blocks_is),
        )
