-- "Coding Type 2 with redundancy versions" (document 02, CR 3), over the promises: which versions a type may have, that demands 2 and 3 hold for each, what
-- any other is refused with, where rate matching starts, and that where it starts at the first place nothing has changed.
use mathlib.Core.Path.{◌≡◌, refl, sym, ap, ◌∙◌}
use mathlib.Core.Bool.{Bool, true, false, not, ◌||◌}
use mathlib.Core.List.{List, ◌++◌}
use Prim.Native.Nat.{ℕ, ◌*◌, ◌/◌, ◌%◌, ◌≤◌, ◌<◌}
use native.Mathlib.Omega.{arith}
use borrow.Author.Tests.{ltb-false, le-ltb, lt-ltb, le-leb, eq-eqb}
use lib.Dec.{ltb}
use lib.ListN.{length, take, drop}
use Rattle.bits.specs.Bits.{AreBits, AreOctets}
use Rattle.bits.specs.Counts.{ceil, usable, place_bits, symbol_places_of, coded_bits_of}
use Rattle.bits.specs.Ranges.{within}
use Rattle.bits.specs.declared.number.Written.{Written}
use Rattle.bits.specs.declared.count.Terms.{Terms}
use Rattle.bits.proofs.Answers.{applies, passes}
use Rattle.bits.proofs.Ranges.{equal_or, neither}
use Rattle.profile.specs.Record.{x, kind}
use Rattle.profile.specs.Promises.{judged}
use Rattle.profile.proofs.Accepted.{accepted}
use Rattle.profile.proofs.Answers.{judged-passed}
use Rattle.cutting.specs.Plan.{other_edition, blocks}
use Rattle.matching.specs.Matching.{matched, turned, start_of, matched_from, misversioned}
use Rattle.matching.proofs.Start.{start_two, start_one, start_within}
use Rattle.matching.proofs.Turned.{turned_zero}
use Rattle.coding.specs.Allocation.{misallocated, symbol_places, spare, share}
use Rattle.coding.specs.Blocks.{coded_block}
use Rattle.coding.specs.Joining.{block_sent}
use Rattle.coding.specs.Receiving.{some_without_room}
use Rattle.coding.specs.Promises.{too_few_places, send_number, Sent, not_octets, receive_number, Received}
use Rattle.coding.specs.RoundTrip.{Roomy, NoneSentAs}
use Rattle.demands.specs.Steps.{Steps}
use Rattle.demands.proofs.Demand2.{sends, sends-only}
use Rattle.demands.proofs.Demand3 as demand3

-- ---- 16 is "for an rv over 3 or against the type": Type 2 may have 0 to 3, and "Type 1 requires rv 0"

pub version_2 : (kind rv : ℕ) → kind ≡ 2 → rv ≤ 3 → misversioned kind rv ≡ false
unfolding misversioned
version_2 kind rv e low = rw (e, le-ltb 3 rv low)

pub version_1 : (rv : ℕ) → misversioned 1 rv ≡ false → rv ≡ 0
unfolding misversioned
version_1 rv e = omega (arith, ltb-false 0 rv (neither (ltb 3 rv) (ltb 0 rv) e).1)

against_1 : (kind rv : ℕ) → kind ≡ 1 → (rv ≡ 0 → ⊥) → misversioned kind rv ≡ true
unfolding misversioned
against_1 kind rv e some = rw (e, lt-ltb 0 rv (omega arith)) (either (ltb 3 rv))
  where
    either : (b : Bool) → b || true ≡ true
    either true = refl
    either false = refl

over_3 : (kind rv : ℕ) → 3 < rv → misversioned kind rv ≡ true
unfolding misversioned
over_3 kind rv h = rw (lt-ltb 3 rv h)

-- "Type 1 requires .. x 0"
pub one_plain : (R : List ℕ) → judged R ≡ 0 → kind R ≡ 1 → x R ≡ 0
one_plain R e one = (accepted R e).plain one

-- ---- "Demands 2 and 3 hold for each rv, receiver and sender using the same one"

abbrev pub terms_of : ℕ → ℕ → ℕ → ℕ → Terms
terms_of nl qm ed rv = record { nl = nl; qm = qm; rv = rv; edition = ed }

-- an allocation has room whatever the version, so it is asked for with rv 0 only
pub room_for_each : {R : List ℕ} {octets nl qm ed g : ℕ} → kind R ≡ 2 → Roomy R octets (terms_of nl qm ed 0) g → (rv : ℕ) → rv ≤ 3
    → Roomy R octets (terms_of nl qm ed rv) g
unfolding misallocated usable place_bits too_few_places symbol_places symbol_places_of some_without_room share spare coded_bits_of ceil
room_for_each {R} two h rv low =
    record { taken = h.taken; version = version_2 (kind R) rv two low; allocation = h.allocation; enough = h.enough; room = h.room }

module _ {R : List ℕ} {nl qm ed g : ℕ} (two : kind R ≡ 2) (rv : ℕ) (low : rv ≤ 3) where
  -- every block is sent
  pub each-sent : (block : List ℕ) {out : List ℕ} {r : Written} {o : List ℕ} → Roomy R (length block) (terms_of nl qm ed 0) g → g ≤ length out
      → Sent R block (terms_of nl qm ed rv) g out r o → (r.number ≡ 0) × (r.count ≡ g)
  each-sent block h room s = demand3.sent block (room_for_each two h rv low) room s

  -- "Sending gives bit for bit what 5G.212 v2.3 defines": what is written follows the six steps from the start of this version, and no other bits do
  pub each_follows : (block : List ℕ) {out : List ℕ} {r : Written} {o : List ℕ} → Roomy R (length block) (terms_of nl qm ed 0) g → g ≤ length out
      → Sent R block (terms_of nl qm ed rv) g out r o
      → (Steps R block (terms_of nl qm ed rv) g (take g o)) × ((bits : List ℕ) → Steps R block (terms_of nl qm ed rv) g bits → bits ≡ take g o)
  each_follows block h room s =
      let done = (each-sent block h room s).0 in
      ((sends s done).1, sends-only s done)

  -- "Two different transport blocks are never sent as the same bits"
  pub each-apart : {block block' out : List ℕ} {r : Written} {o out' : List ℕ} {r' : Written} {o' : List ℕ}
      → Roomy R (length block) (terms_of nl qm ed 0) g → AreOctets block → AreOctets block' → length block ≡ length block'
      → g ≤ length out → Sent R block (terms_of nl qm ed rv) g out r o → g ≤ length out' → Sent R block' (terms_of nl qm ed rv) g out' r' o'
      → take g o ≡ take g o' → block ≡ block'
  each-apart h whole whole' size room s room' s' e = demand3.apart (room_for_each two h rv low) whole whole' size room s room' s' e

  -- "receiving the sent bits returns the block"
  pub each-returns : {block out : List ℕ} {r : Written} {o buf : List ℕ} {r' : Written} {buf' : List ℕ}
      → Roomy R (length block) (terms_of nl qm ed 0) g → AreOctets block → length block ≤ length buf
      → g ≤ length out → Sent R block (terms_of nl qm ed rv) g out r o → Received R (8 * length block) (terms_of nl qm ed rv) (take g o) buf r' buf'
      → (r'.number ≡ 0) × (r'.count ≡ length block) × (take (length block) buf' ≡ block) × (buf' ≡ block ++ drop (length block) buf)
  each-returns h whole fits room s v = demand3.returns (room_for_each two h rv low) whole fits room s v

-- "and received noughts and ones, as many as the allocation gives, are refused as unsent exactly when no transport block of that length is sent as
-- them, sending being that of the second demand"
pub each-exactly : {R : List ℕ} {nl qm ed octets : ℕ} → kind R ≡ 2 → (rv : ℕ) → rv ≤ 3 → {bits buf : List ℕ} {r : Written} {buf' : List ℕ}
    → Roomy R octets (terms_of nl qm ed 0) (length bits) → AreBits bits → octets ≤ length buf → Received R (8 * octets) (terms_of nl qm ed rv) bits buf r buf'
    → (r.number ≡ 14 → NoneSentAs (λ block out r out'. Sent R block (terms_of nl qm ed rv) (length bits) out r out') octets bits)
    × (NoneSentAs (λ block out r out'. Sent R block (terms_of nl qm ed rv) (length bits) out r out') octets bits → r.number ≡ 14)
each-exactly two rv low h single fits v = demand3.exactly (room_for_each two h rv low) single fits v

-- ---- "16, between 7 and 8, for an rv over 3 or against the type": for a profile that 5 and 6 accept, an edition that 19 does and a length that 7 does, whatever
-- else is wrong

right-length : (octets : ℕ) → 1 ≤ octets → octets ≤ 2048 → within 1 2048 octets ≡ true
right-length octets some most = rw (le-leb 1 octets some, le-leb octets 2048 most)

module _ {R : List ℕ} (taken : judged R ≡ 0) where
  module _ {block : List ℕ} {terms : Terms} {g : ℕ} {out : List ℕ} {r : Written} {o : List ℕ} (s : Sent R block terms g out r o)
      (known : other_edition terms.edition ≡ false) (some : 1 ≤ length block) (most : length block ≤ 2048) where
    send-sixteen : misversioned (kind R) terms.rv ≡ true → r.number ≡ 16
    unfolding send_number
    send-sixteen e = s.number ∙ judged-passed R _ taken ∙ passes 19 _ known ∙ passes 7 _ (ap not (right-length (length block) some most)) ∙ applies 16 _ e

    -- "Type 1 requires rv 0"
    pub send-one : kind R ≡ 1 → (terms.rv ≡ 0 → ⊥) → r.number ≡ 16
    send-one one other = send-sixteen (against_1 (kind R) terms.rv one other)

    -- "an rv over 3"
    pub send-over : 3 < terms.rv → r.number ≡ 16
    send-over over = send-sixteen (over_3 (kind R) terms.rv over)

  module _ {octets : ℕ} {terms : Terms} {bits out : List ℕ} {r : Written} {o : List ℕ} (v : Received R (8 * octets) terms bits out r o)
      (known : other_edition terms.edition ≡ false) (some : 1 ≤ octets) (most : octets ≤ 2048) where
    right-octets : not_octets (8 * octets) ≡ false
    unfolding not_octets
    right-octets =
        let rest : 8 * octets % 8 ≡ 0 = omega arith in
        let all : 8 * octets / 8 ≡ octets = omega arith in
        rw (eq-eqb (8 * octets % 8) 0 rest, all, right-length octets some most)

    receive-sixteen : misversioned (kind R) terms.rv ≡ true → r.number ≡ 16
    unfolding receive_number
    receive-sixteen e = v.number ∙ judged-passed R _ taken ∙ passes 19 _ known ∙ passes 7 _ right-octets ∙ applies 16 _ e

    pub receive-one : kind R ≡ 1 → (terms.rv ≡ 0 → ⊥) → r.number ≡ 16
    receive-one one other = receive-sixteen (against_1 (kind R) terms.rv one other)

    pub receive-over : 3 < terms.rv → r.number ≡ 16
    receive-over over = receive-sixteen (over_3 (kind R) terms.rv over)

-- ---- "Type 2 starts rate matching at floor(D/4)·rv, D being the coded length"

-- that place is in the coded block
pub start_lies : (rv d : ℕ) → rv ≤ 3 → start_of 2 rv d ≤ d
start_lies rv d low = start_within 2 rv d low

-- rv 0 starts at the first place, and so does Type 1: each gives what step 6 of document 01 gave
start_first : (kind d : ℕ) → start_of kind 0 d ≡ 0
start_first kind d = equal_or kind 2 (λ e. omega (arith, start_two kind 0 d e)) (λ n. sym (start_one kind 0 d n))

pub zero_as_before : (kind : ℕ) (w : List ℕ) (e : ℕ) → matched_from kind 0 w e ≡ matched w e
unfolding matched_from
zero_as_before kind w e = ap (λ (k : ℕ). matched (turned k w) e) (start_first kind (length w)) ∙ ap (λ (l : List ℕ). matched l e) (turned_zero w)

pub one_as_before : (rv : ℕ) (w : List ℕ) (e : ℕ) → matched_from 1 rv w e ≡ matched w e
unfolding matched_from start_of
one_as_before rv w e = ap (λ (l : List ℕ). matched l e) (turned_zero w)

-- so the blocks of a transport block are sent as they were
module _ (R : List ℕ) (b : ℕ) (bits : List ℕ) (terms : Terms) (g r : ℕ) where
  pub block_zero : terms.rv ≡ 0 → block_sent R b bits terms g r ≡ matched (coded_block R terms.edition b bits r) (share terms g (blocks R terms.edition b) r).0
  unfolding block_sent
  block_zero e =
      ap (λ (v : ℕ). matched_from (kind R) v (coded_block R terms.edition b bits r) (share terms g (blocks R terms.edition b) r).0) e
      ∙ zero_as_before (kind R) (coded_block R terms.edition b bits r) (share terms g (blocks R terms.edition b) r).0

  pub block_one : kind R ≡ 1 → block_sent R b bits terms g r ≡ matched (coded_block R terms.edition b bits r) (share terms g (blocks R terms.edition b) r).0
  unfolding block_sent
  block_one e =
      ap (λ (k : ℕ). matched_from k terms.rv (coded_block R terms.edition b bits r) (share terms g (blocks R terms.edition b) r).0) e
      ∙ one_as_before terms.rv (coded_block R terms.edition b bits r) (share terms g (blocks R terms.edition b) r).0
