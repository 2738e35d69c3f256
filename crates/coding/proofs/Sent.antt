-- The code blocks of a transport block, one after the other: their own bits, their parity bits and their shares.
use mathlib.Core.Path.{◌≡◌, refl, sym, ap, ap₂, ◌∙◌}
use mathlib.Core.List.{List}
use Prim.Native.Nat.{ℕ, suc, ◌+◌, ◌-◌, ◌*◌, ◌≤◌, ◌<◌}
use native.Mathlib.Nat.{add-mul}
use native.Mathlib.Numerals.{add-one}
use native.Mathlib.Omega.{arith}
use lib.ListN.{length, take, drop}
use lib.Seq.{take_all, length-take-le}
use Rattle.bits.specs.Ranges.{sum_below}
use Rattle.bits.specs.Bits.{with_filler}
use Rattle.bits.specs.declared.count.Terms.{Terms}
use Rattle.bits.proofs.Filler.{length-filled}
use Rattle.bits.proofs.Ranges.{below_or}
use Rattle.bits.proofs.Sums.{sum_mono}
use Rattle.profile.specs.Record.{kb, kind, z, rows, columns, table}
use Rattle.profile.proofs.Shape.{columns_is}
use Rattle.cutting.specs.Plan.{sum_bits, blocks, own_bits, carried_bits, size_index, places, filler}
use Rattle.cutting.specs.Cutting.{own_start, own, with_sum, carried, systematic}
use Rattle.cutting.specs.declared.Plan.{Plan}
use Rattle.cutting.proofs.Summed.{is_sum, length-with-sum}
use Rattle.cutting.proofs.Plans.{Cut}
use Rattle.cutting.proofs.Carried.{carried_fits}
use Rattle.cutting.proofs.PlanFields.{PlanFields}
use Rattle.parity.specs.Coded.{coded}
use Rattle.parity.proofs.Coded.{coded-length}
use Rattle.matching.specs.Matching.{matched, turned, start_of, matched_from}
use Rattle.matching.proofs.Start.{start_within}
use Rattle.matching.proofs.Heard.{matched-length}
use Rattle.coding.specs.Blocks.{coded_block, sendable}
use Rattle.coding.specs.Allocation.{share}
use Rattle.coding.specs.Joining.{block_sent}
use Rattle.coding.specs.Steps.Sending.{version_start}
use Rattle.coding.specs.Steps.Shares.{Allocated}
use Rattle.coding.proofs.Shares.{shares_all}

-- ---- own bits, in order

pub start_none : (R : List ℕ) (ed b : ℕ) → own_start R ed b 0 ≡ 0
unfolding own_start sum_below
start_none R ed b = refl

pub start_turn : (R : List ℕ) (ed b r : ℕ) → own_start R ed b (r + 1) ≡ own_start R ed b r + own_bits b (blocks R ed b) r
unfolding own_start sum_below
start_turn R ed b r = rw add-one

-- ---- N is what a block carries and its parity bits

pub sendable_parts : (R : List ℕ) (ed b : ℕ) → Cut R ed b → (r : ℕ) → sendable R ed b r ≡ carried_bits R ed b r + rows R * z R (size_index R ed b)
unfolding sendable filler
sendable_parts R ed b cut r =
    let y = z R (size_index R ed b) in
    omega (arith, cut.product, ap (λ (n : ℕ). n * y) (columns_is R), add-mul (kb R) (rows R) y, carried_fits R ed b cut r)

-- ---- the coded word and its start

pub taken-most : (n : ℕ) (s : List ℕ) → length (take n s) ≤ n
taken-most n s = below_or n (length s) (λ l. omega (arith, length-take-le n s (omega arith))) (λ l. omega (arith, ap length (take_all n s l)))

module _ (R : List ℕ) (b : ℕ) (bits : List ℕ) (terms : Terms) (g r : ℕ) where
  abbrev ed : ℕ
  ed = terms.edition

  pub block-length : length (block_sent R b bits terms g r) ≡ (share terms g (blocks R terms.edition b) r).0
  unfolding block_sent matched_from
  block-length = matched-length _ _

  module _ (cut : Cut R terms.edition b) where
    carried-short : length (carried R ed b bits r) ≤ kb R * z R (size_index R ed b)
    unfolding own carried
    carried-short =
        omega (
          arith,
          length-with-sum (sum_bits R ed b) (own R ed b bits r) (is_sum R ed b),
          taken-most (own_bits b (blocks R ed b) r) (drop (own_start R ed b r) bits),
          cut.own_most r,
          cut.room,
          cut.product,
        )

    coded-size : length (coded_block R ed b bits r) ≡ columns R * z R (size_index R ed b)
    unfolding coded_block systematic
    coded-size =
        coded-length (table R (size_index R ed b)) (rows R) (columns R) (z R (size_index R ed b)) (with_filler (places R ed b) (carried R ed b bits r)) (kb R)
        (ap (λ (n : ℕ). length (with_filler n (carried R ed b bits r))) cut.product ∙ length-filled (kb R * z R (size_index R ed b)) (carried R ed b bits r) carried-short) (columns_is R)

    pub block-sent-is : block_sent R b bits terms g r
        ≡ matched (turned (version_start R b terms) (coded_block R terms.edition b bits r)) (share terms g (blocks R terms.edition b) r).0
    unfolding block_sent matched_from version_start
    block-sent-is = rw coded-size

module _ (R : List ℕ) {ed : ℕ} (p : Plan) (k : PlanFields R ed p) where
  pub own_is : (r n : ℕ) → n ≡ own_bits p.bits p.blocks r → n ≡ own_bits p.bits (blocks R ed p.bits) r
  own_is r n e = e ∙ ap (λ (c : ℕ). own_bits p.bits c r) k.blocks_is

  pub carried-is : (r n : ℕ) → n ≡ own_bits p.bits p.blocks r → n + p.sums ≡ carried_bits R ed p.bits r
  unfolding carried_bits
  carried-is r n e = ap₂ (λ (x y : ℕ). x + y) (own_is r n e) k.sums_is

  -- block r's own bits are there, and what it carries has room in its places
  pub own-fits : (r start n : ℕ) → r < p.blocks → start ≡ own_start R ed p.bits r → n ≡ own_bits p.bits p.blocks r → start + n ≤ p.bits
  unfolding own_start
  own-fits r start n h s e =
      let b = p.bits in
      let f = own_bits b (blocks R ed b) in
      let within : r + 1 ≤ blocks R ed b = omega (arith, k.blocks_is) in
      let all : sum_below (r + 1) f ≤ sum_below (blocks R ed b) f = sum_mono f (r + 1) (blocks R ed b) within in
      let turn : sum_below (r + 1) f ≡ sum_below r f + f r = start_turn R ed b r in
      omega (arith, all, turn, k.cut.own_sum, own_is r n e, s)

  pub carried-room : (r n : ℕ) → n ≡ own_bits p.bits p.blocks r → n + p.sums ≤ p.places
  carried-room r n e = omega (arith, own_is r n e, k.cut.own_most r, k.cut.room, k.places_is, k.sums_is)

  -- N, as the code counts it
  pub sendable-is : (r n all : ℕ) → n ≡ own_bits p.bits p.blocks r → all ≡ columns R * p.z → all - (p.places - (n + p.sums)) ≡ sendable R ed p.bits r
  unfolding sendable filler
  sendable-is r n all e f = rw (f, carried-is r n e, k.places_is, k.z_is)

  -- its places, as the code lays them
  module _ (bits : List ℕ) (r start n : ℕ) (s : start ≡ own_start R ed p.bits r) (e : n ≡ own_bits p.bits p.blocks r) where
    cut-is : with_filler p.places (with_sum p.sums (take n (drop start bits))) ≡ systematic R ed p.bits bits r
    unfolding systematic carried own
    cut-is = rw (own_is r n e, s, k.places_is, k.sums_is)

    pub coded-is : coded (table R p.index) (rows R) (columns R) p.z (with_filler p.places (with_sum p.sums (take n (drop start bits)))) ≡ coded_block R ed p.bits bits r
    unfolding coded_block
    coded-is = rw (cut-is, k.index_is, k.z_is)

-- ---- in the edition of the terms

module _ (R : List ℕ) (p : Plan) (terms : Terms) (k : PlanFields R terms.edition p) where
  abbrev count : ℕ
  count = blocks R terms.edition p.bits

  -- the place from which a block is sent, as the code finds it
  pub start_is : (from : ℕ) → from ≡ start_of (kind R) terms.rv (columns R * p.z) → from ≡ version_start R p.bits terms
  unfolding version_start
  start_is from e = e ∙ rw k.z_is

  pub start_in : terms.rv ≤ 3 → (from : ℕ) → from ≡ version_start R p.bits terms → from ≤ columns R * p.z
  unfolding version_start
  start_in low from e =
      let long : ℕ = columns R * z R (size_index R terms.edition p.bits) in
      let is : columns R * p.z ≡ long = rw k.z_is in
      omega (arith, e, is, start_within (kind R) terms.rv long low)

  -- ---- shares

  module _ (g : ℕ) where
    pub share-is : (r e : ℕ) → e ≡ (share terms g p.blocks r).0 → e ≡ (share terms g (blocks R terms.edition p.bits) r).0
    share-is r e q = q ∙ ap (λ (c : ℕ). (share terms g c r).0) k.blocks_is

    pub length-block : (bits : List ℕ) (r : ℕ) → length (block_sent R p.bits bits terms g r) ≡ (share terms g (blocks R terms.edition p.bits) r).0
    length-block bits r = block-length R p.bits bits terms g r

    pub share-fits : Allocated terms g p.blocks → (r at e : ℕ) → r < p.blocks → at ≡ sum_below r (λ i. (share terms g (blocks R terms.edition p.bits) i).0)
        → e ≡ (share terms g (blocks R terms.edition p.bits) r).0 → at + e ≤ g
    unfolding sum_below
    share-fits given r at e h a q =
        let f : ℕ → ℕ = λ i. (share terms g count i).0 in
        let within : suc r ≤ count = omega (arith, k.blocks_is) in
        omega (arith, sum_mono f (suc r) count within, shares_all terms g count (rw k.blocks_is at given), a, q)

    pub share-turn : (r at e : ℕ) → at ≡ sum_below r (λ i. (share terms g (blocks R terms.edition p.bits) i).0)
        → e ≡ (share terms g (blocks R terms.edition p.bits) r).0 → at + e ≡ sum_below (r + 1) (λ i. (share terms g (blocks R terms.edition p.bits) i).0)
    unfolding sum_below
    share-turn r at e a q = rw (add-one r) (ap₂ (λ (x y : ℕ). x + y) a q)

    -- what the code writes of block r is what is sent of it
    pub block-is : (bits : List ℕ) (r start n from e : ℕ) → start ≡ own_start R terms.edition p.bits r → n ≡ own_bits p.bits p.blocks r
        → from ≡ version_start R p.bits terms → e ≡ (share terms g (blocks R terms.edition p.bits) r).0
        → matched (turned from (coded (table R p.index) (rows R) (columns R) p.z (with_filler p.places (with_sum p.sums (take n (drop start bits)))))) e
        ≡ block_sent R p.bits bits terms g r
    block-is bits r start n from e s q v d =
        ap₂ (λ (w : List ℕ) (i : ℕ). matched (turned from w) i) (coded-is R p k bits r start n s q) d
        ∙ ap (λ (i : ℕ). matched (turned i (coded_block R terms.edition p.bits bits r)) (share terms g count r).0) v
        ∙ sym (block-sent-is R p.bits bits terms g r k.cut)
