-- "Edition 2: a checksum in every code block" (document 02, CR 8), over the promises: that edition 1 stays as it is, that edition 2 is edition 1 where one block
-- is enough, and which calls 19 and the other 9 refuse. Demands 2 and 3 speak of all terms, and so of either edition, the same one on both sides of every
-- statement.
use mathlib.Core.Path.{◌≡◌, refl, sym, ap, ap₂, ◌∙◌, fun_ext}
use mathlib.Core.Bool.{Bool, true, false, cond, not, ◌&&◌, ◌||◌}
use mathlib.Core.List.{List, [], ◌∷◌, ◌++◌}
use Prim.Native.Nat.{ℕ, ◌+◌, ◌-◌, ◌*◌, ◌^◌, ◌≤◌, ◌<◌}
use native.Mathlib.Omega.{arith}
use borrow.Author.Tests.{eq-eqb, ne_eqb, lt-ltb, le-leb}
use lib.Dec.{leb, ltb}
use lib.ListN.{length, take, drop}
use Rattle.bits.specs.Bits.{same, with_filler, some_over}
use Rattle.bits.specs.Counts.{ceil}
use Rattle.bits.specs.Numbers.{answered}
use Rattle.bits.specs.Ranges.{sum_below, within, any_below, first_below}
use Rattle.bits.specs.declared.number.Written.{Written}
use Rattle.bits.specs.declared.count.Terms.{Terms}
use Rattle.bits.proofs.Answers.{applies, passes}
use Rattle.bits.proofs.Ranges.{equal_or}
use Rattle.profile.specs.Record.{kb, kind, z, rows, columns, table}
use Rattle.profile.specs.Promises.{judged, judge_conditions}
use Rattle.profile.proofs.Answers.{judged-first, judged-passed}
use Rattle.cutting.specs.Plan.{block_bits, kmax, other_edition, summed, sum_bits, blocks, too_many_blocks, own_bits, size_index_for, size_index, places, carried_bits, filler}
use Rattle.cutting.specs.Promises.{plan_number, planned}
use Rattle.cutting.specs.Transport.{transport}
use Rattle.cutting.specs.Cutting.{own_start, own, carried, systematic}
use Rattle.cutting.specs.declared.Planned.{Planned}
use Rattle.cutting.proofs.Plans.{plan-number}
use Rattle.cutting.proofs.Summed.{sum-none, sum-single, without_sum}
use Rattle.parity.specs.Coded.{coded}
use Rattle.matching.specs.Matching.{matched_from, misversioned}
use Rattle.coding.specs.Allocation.{misallocated, symbol_places, share}
use Rattle.coding.specs.Blocks.{coded_block, sendable}
use Rattle.coding.specs.Joining.{block_sent, joined, radio_bits}
use Rattle.coding.specs.Receiving.{sent_as, nth_block, some_sent_as, received_block, some_without_room}
use Rattle.coding.specs.Promises.{too_few_places, send_number, Sent, not_octets, receive_number, Received}
use Rattle.coding.proofs.Received.{nth_length}
use Rattle.demands.specs.EditionOne.{one_blocks, one_size_index, one_places, one_filler, one_own, one_systematic, one_coded_block, one_sendable, one_block_sent, one_radio_bits, one_sent_as, one_some_sent_as, one_received_block, one_some_without_room, one_request_conditions, AsBefore}

-- ---- where no block has a checksum, all is as it was

-- a list with 19 in it answers as the list without it where there is such an edition
edition-known : (R : List ℕ) (o : Bool) (l : List (ℕ × Bool)) → o ≡ false → answered (judge_conditions R ++ ((19, o) ∷ l)) ≡ answered (judge_conditions R ++ l)
edition-known R o l known =
    equal_or (judged R) 0 (λ e. judged-passed R _ e ∙ passes 19 l known ∙ sym (judged-passed R l e)) (λ n. judged-first R _ n ∙ sym (judged-first R l n))

module _ (R : List ℕ) (ed b : ℕ) (none : sum_bits R ed b ≡ 0) where
  blocks-one : blocks R ed b ≡ one_blocks R b
  unfolding blocks one_blocks
  blocks-one = let left : kmax R - sum_bits R ed b ≡ kmax R = omega arith in ap (ceil b) left

  index-one : size_index R ed b ≡ one_size_index R b
  unfolding size_index one_size_index
  index-one =
      let need : ceil b (blocks R ed b) + sum_bits R ed b ≡ ceil b (one_blocks R b) = omega (arith, ap (ceil b) blocks-one) in
      ap (size_index_for R) need

  places-one : places R ed b ≡ one_places R b
  unfolding places one_places
  places-one = ap (λ (i : ℕ). kb R * z R i) index-one

  filler-one : (r : ℕ) → filler R ed b r ≡ one_filler R b r
  unfolding filler one_filler carried_bits
  filler-one r = omega (arith, places-one, ap (λ (c : ℕ). own_bits b c r) blocks-one)

  own-one : (bits : List ℕ) (r : ℕ) → own R ed b bits r ≡ one_own R b bits r
  unfolding own own_start one_own
  own-one bits r = ap (λ (c : ℕ). take (own_bits b c r) (drop (sum_below r (own_bits b c)) bits)) blocks-one

  systematic-one : (bits : List ℕ) (r : ℕ) → systematic R ed b bits r ≡ one_systematic R b bits r
  unfolding systematic carried one_systematic
  systematic-one bits r = ap₂ with_filler places-one (without_sum (sum_bits R ed b) (own R ed b bits r) none ∙ own-one bits r)

  coded-one : (bits : List ℕ) (r : ℕ) → coded_block R ed b bits r ≡ one_coded_block R b bits r
  unfolding coded_block one_coded_block
  coded-one bits r = ap₂ (λ (i : ℕ) (s : List ℕ). coded (table R i) (rows R) (columns R) (z R i) s) index-one (systematic-one bits r)

  sendable-one : (r : ℕ) → sendable R ed b r ≡ one_sendable R b r
  unfolding sendable one_sendable
  sendable-one r = ap₂ (λ (i f : ℕ). columns R * z R i - f) index-one (filler-one r)

  many-one : too_many_blocks R ed b ≡ ltb 64 (one_blocks R b)
  unfolding too_many_blocks sum_bits
  many-one = by-test (summed R ed b) none ∙ ap (ltb 64) blocks-one
    where
      by-test : (s : Bool) → ◌≡◌ {A = ℕ} (cond s 24 0) 0 → (s && leb (kmax R) 24) || ltb 64 (blocks R ed b) ≡ ltb 64 (blocks R ed b)
      by-test true e = absurd (omega arith)
      by-test false e = refl

-- sending and receiving, with the transport bits of so many octets
module _ (R : List ℕ) (terms : Terms) (octets : ℕ) (none : sum_bits R terms.edition (block_bits octets) ≡ 0) where
  abbrev b : ℕ
  b = block_bits octets

  abbrev ed : ℕ
  ed = terms.edition

  sent-one : (bits : List ℕ) (g : ℕ) → radio_bits R b bits terms g ≡ one_radio_bits R b bits terms g
  unfolding radio_bits one_radio_bits block_sent one_block_sent
  sent-one bits g =
      ap₂ joined (blocks-one R ed b none)
      (fun_ext (λ r. ap₂ (λ (w : List ℕ) (c : ℕ). matched_from (kind R) terms.rv w (share terms g c r).0) (coded-one R ed b none bits r) (blocks-one R ed b none)))

  room-one : (g : ℕ) → some_without_room R octets terms g ≡ one_some_without_room R octets terms g
  unfolding some_without_room one_some_without_room
  room-one g =
      ap₂ any_below (blocks-one R ed b none)
      (fun_ext (λ r. ap₂ (λ (c n : ℕ). ltb (share terms g c r).0 n) (blocks-one R ed b none) (sendable-one R ed b none r)))

  few-one : (g : ℕ) → too_few_places R octets terms g ≡ ltb (symbol_places terms g).0 (one_blocks R b)
  unfolding too_few_places
  few-one g = ap (ltb (symbol_places terms g).0) (blocks-one R ed b none)

  sent-as-one : (bits : List ℕ) (n : ℕ) → sent_as R terms bits (nth_block octets n) ≡ one_sent_as R terms bits (nth_block octets n)
  unfolding sent_as one_sent_as
  sent-as-one bits n = rw (nth_length octets n) (ap (λ (s : List ℕ). same s bits) (sent-one (transport (nth_block octets n)) (length bits)))

  some-sent-one : (bits : List ℕ) → some_sent_as R octets terms bits ≡ one_some_sent_as R octets terms bits
  unfolding some_sent_as one_some_sent_as
  some-sent-one bits = ap (any_below (2 ^ (8 * octets))) (fun_ext (λ n. sent-as-one bits n))

  received-one : (bits : List ℕ) → received_block R octets terms bits ≡ one_received_block R octets terms bits
  unfolding received_block one_received_block
  received-one bits = ap (λ (f : ℕ → Bool). nth_block octets (first_below (2 ^ (8 * octets)) f)) (fun_ext (λ n. sent-as-one bits n))

  module _ (known : other_edition terms.edition ≡ false) where
    -- the numbers behind 6 and 19, and those of receiving behind them
    request-one : (other : Bool) (g need lent : ℕ) (l l' : List (ℕ × Bool)) → l ≡ l'
        → answered (judge_conditions R ++ ((19, other_edition terms.edition) ∷ (7, other) ∷ (16, misversioned (kind R) terms.rv) ∷ (8, misallocated terms g)
        ∷ (9, too_many_blocks R ed b) ∷ (10, too_few_places R octets terms g) ∷ (11, ltb lent need) ∷ l))
        ≡ answered (one_request_conditions R other octets terms g need lent ++ l')
    request-one other g need lent l l' e = edition-known R (other_edition terms.edition) _ known ∙ rw (many-one R ed b none, few-one g, e)

as_before : (R : List ℕ) (terms : Terms) (octets : ℕ) → other_edition terms.edition ≡ false → sum_bits R terms.edition (block_bits octets) ≡ 0 → AsBefore R terms octets
unfolding plan_number send_number receive_number
as_before R terms octets known none =
    let ed = terms.edition in
    let b = block_bits octets in
    record {
      plan = edition-known R (other_edition ed) _ known ∙ rw (many-one R ed b none);
      cut = (blocks-one R ed b none, index-one R ed b none, places-one R ed b none, none);
      send = λ block g lent e. rw e (request-one R terms octets none known (not (within 1 2048 octets)) g g lent [] [] refl);
      sent = λ block g e. rw e (sent-one R terms octets none (transport block) g);
      receive = λ a bits lent e.
          rw e (request-one R terms octets none known (not_octets a) (length bits) octets lent
          ((12, some_over 1 bits) ∷ (13, some_without_room R octets terms (length bits)) ∷ (14, not (some_sent_as R octets terms bits)) ∷ [])
          ((12, some_over 1 bits) ∷ (13, one_some_without_room R octets terms (length bits)) ∷ (14, not (one_some_sent_as R octets terms bits)) ∷ [])
          (rw (room-one R terms octets none (length bits), some-sent-one R terms octets none bits)));
      received = received-one R terms octets none;
    }

-- "Edition 1 stays as it is": for every record, every block length and all else that a call is given
pub edition-one : (R : List ℕ) (terms : Terms) (octets : ℕ) → terms.edition ≡ 1 → AsBefore R terms octets
unfolding other_edition
edition-one R terms octets e =
    as_before R terms octets (rw (eq-eqb terms.edition 1 e)) (sum-none R terms.edition (block_bits octets) (λ two. omega arith))

-- "In edition 2 one block is enough if B ≤ Kmax": that block carries no checksum, so it is edition 1's
pub one-enough : (R : List ℕ) (terms : Terms) (octets : ℕ) → terms.edition ≡ 2 → block_bits octets ≤ kmax R → AsBefore R terms octets
unfolding other_edition
one-enough R terms octets e h =
    as_before R terms octets (rw (ne_eqb terms.edition 1 (λ one. omega arith), eq-eqb terms.edition 2 e)) (sum-single R terms.edition (block_bits octets) h)

-- ---- "19, before 7, for an edition other than 1 or 2": for a profile that 5 and 6 accept, whatever else is wrong

other-edition : (ed : ℕ) → (ed ≡ 1 → ⊥) → (ed ≡ 2 → ⊥) → other_edition ed ≡ true
unfolding other_edition
other-edition ed one two = rw (ne_eqb ed 1 one, ne_eqb ed 2 two)

module _ (R : List ℕ) (taken : judged R ≡ 0) where
  pub plan_nineteen : (ed octets : ℕ) (p : Planned) → p ≡ planned R ed octets → (ed ≡ 1 → ⊥) → (ed ≡ 2 → ⊥) → p.number ≡ 19
  unfolding plan_number
  plan_nineteen ed octets p e one two = plan-number R ed octets p e ∙ judged-passed R _ taken ∙ applies 19 _ (other-edition ed one two)

  pub send_nineteen : {block : List ℕ} {terms : Terms} {g : ℕ} {out : List ℕ} {r : Written} {o : List ℕ} → Sent R block terms g out r o
      → (terms.edition ≡ 1 → ⊥) → (terms.edition ≡ 2 → ⊥) → r.number ≡ 19
  unfolding send_number
  send_nineteen {terms = terms} s one two = s.number ∙ judged-passed R _ taken ∙ applies 19 _ (other-edition terms.edition one two)

  pub receive_nineteen : {a : ℕ} {terms : Terms} {bits out : List ℕ} {r : Written} {o : List ℕ} → Received R a terms bits out r o
      → (terms.edition ≡ 1 → ⊥) → (terms.edition ≡ 2 → ⊥) → r.number ≡ 19
  unfolding receive_number
  receive_nineteen {terms = terms} v one two = v.number ∙ judged-passed R _ taken ∙ applies 19 _ (other-edition terms.edition one two)

  -- ---- "9 also in edition 2 where B > Kmax and Kmax ≤ 24"

  pub plan-full : (octets : ℕ) (p : Planned) → p ≡ planned R 2 octets → 1 ≤ octets → octets ≤ 2048 → kmax R < block_bits octets → kmax R ≤ 24 → p.number ≡ 9
  unfolding plan_number other_edition too_many_blocks summed
  plan-full octets p e some most over full =
      plan-number R 2 octets p e ∙ judged-passed R _ taken ∙ passes 19 _ refl
      ∙ passes 7 _ (rw (le-leb 1 octets some, le-leb octets 2048 most)) ∙ applies 9 _ (rw (lt-ltb (kmax R) (block_bits octets) over, le-leb (kmax R) 24 full))
