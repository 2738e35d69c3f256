-- The third demand, over what sending and receiving promise: where every code block has room, what is received is what was sent.
use mathlib.Core.Path.{◌≡◌, refl, sym, ap, ◌∙◌, subst}
use mathlib.Core.Bool.{Bool, true, false, cond, not}
use mathlib.Core.List.{List, [], ◌∷◌, ◌++◌}
use Prim.Native.Nat.{ℕ, zero, suc, ◌+◌, ◌-◌, ◌*◌, ◌/◌, ◌%◌, ◌^◌, ◌≤◌, ◌<◌}
use native.Mathlib.Nat.{le_refl}
use native.Mathlib.Omega.{arith}
use borrow.Author.Tests.{le-leb, eq-eqb, eqb-false}
use lib.Dec.{eqb, lit<}
use lib.ListN.{length, get_or, take, drop, replicate, get_or-eq_default}
use lib.Seq.{take_at, get_or-take, get_or-drop}
use Rattle.bits.specs.Bits.{AreBits, AreOctets, some_over, digits, with_filler}
use Rattle.bits.specs.Numbers.{answered}
use Rattle.bits.specs.Ranges.{first_below, within, list_below}
use Rattle.bits.specs.declared.number.Written.{Written}
use Rattle.bits.specs.declared.count.Terms.{Terms}
use Rattle.bits.proofs.Answers.{applies, passes, none_left, Refusals, last_part, when-done, when_refused}
use Rattle.bits.proofs.Digits.{digits-bits}
use Rattle.bits.proofs.Lists.{bits-append}
use Rattle.bits.proofs.Over.{bits_not_over}
use Rattle.bits.proofs.Ranges.{below_or}
use Rattle.bits.proofs.Sums.{sum_same}
use Rattle.profile.specs.Record.{kind, z, rows, columns, table}
use Rattle.cutting.specs.Plan.{block_bits, blocks, size_index, places}
use Rattle.cutting.specs.Transport.{transport}
use Rattle.cutting.specs.Cutting.{carried, systematic}
use Rattle.cutting.proofs.Carried.{carried-bits}
use Rattle.cutting.proofs.Plans.{plan-passed, plan-cut}
use Rattle.cutting.proofs.Transported.{transport-bits}
use Rattle.parity.specs.Coded.{with_parity, checks_with, coded}
use Rattle.matching.specs.Matching.{kept, matched, turned, start_of, matched_from}
use Rattle.coding.specs.Blocks.{coded_block}
use Rattle.coding.specs.Allocation.{share}
use Rattle.coding.specs.Joining.{block_sent, radio_bits}
use Rattle.coding.specs.Receiving.{some_sent_as, received_block, some_without_room}
use Rattle.coding.specs.Promises.{request_conditions, send_number, not_octets, receive_number, Sent, Received}
use Rattle.coding.specs.RoundTrip.{Roomy, NoneSentAs}
use Rattle.coding.specs.Steps.Shares.{Allocated}
use Rattle.coding.specs.Steps.Receiving.{Receivable, Decided}
use Rattle.coding.proofs.Answers.{send-allocated, send-done}
use Rattle.coding.proofs.Joining.{length-joined, joined-bits}
use Rattle.coding.proofs.Received.{sent_as_is, sent_as_of, block-only, some_from, received_is, received-sent, received-length, received-octets}
use Rattle.coding.proofs.Shares.{shares_all, allocated}
use Rattle.coding.proofs.Sent.{taken-most, block-length}
use Rattle.coding.proofs.RequestNumber.{request_none}

-- ---- what is sent are bits, of any block; and G of them, in any allocation that 8 does not refuse

-- every element is a bit or the mark 2
abbrev AreMarks : List ℕ → Type 0
AreMarks s = (k : ℕ) → get_or s k 0 < 3

marks_append : (a b : List ℕ) → AreMarks a → AreMarks b → AreMarks (a ++ b)
marks_append [] b ha hb k = hb k
marks_append (x ∷ a) b ha hb zero = ha 0
marks_append (x ∷ a) b ha hb (suc k) = marks_append a b (λ j. ha (suc j)) hb k

marks_filler : (n : ℕ) → AreMarks (replicate n 2)
marks_filler zero k = lit< tt
marks_filler (suc n) zero = lit< tt
marks_filler (suc n) (suc k) = marks_filler n k

marks_bits : (s : List ℕ) → AreBits s → AreMarks s
marks_bits s h k = omega (arith, h k)

kept-bits : (s : List ℕ) → AreMarks s → AreBits (kept s)
unfolding kept
kept-bits [] h = λ k. lit< tt
kept-bits (x ∷ s) h = by-mark (eqb x 2) refl (kept-bits s (λ k. h (suc k)))
  where
    below : x < 3 → (x ≡ 2 → ⊥) → x < 2
    below l n = omega arith

    by-mark : (b : Bool) → eqb x 2 ≡ b → AreBits (kept s) → (k : ℕ) → get_or (cond b (kept s) (x ∷ kept s)) k 0 < 2
    by-mark true e rest k = rest k
    by-mark false e rest zero = below (h 0) (eqb-false x 2 e)
    by-mark false e rest (suc k) = rest k

one_bit : (x : ℕ) → x < 2 → AreBits (x ∷ [])
one_bit x h zero = h
one_bit x h (suc k) = lit< tt

list_bits : (n : ℕ) (f : ℕ → ℕ) → ((k : ℕ) → f k < 2) → AreBits (list_below n f)
unfolding list_below
list_bits zero f h = λ k. lit< tt
list_bits (suc n) f h = bits-append (list_below n f) (f n ∷ []) (list_bits n f h) (one_bit (f n) (h n))

matched-bits : (s : List ℕ) (e : ℕ) → AreMarks s → AreBits (matched s e)
unfolding matched
matched-bits s e h = list_bits e (λ k. get_or (kept s) (k % length (kept s)) 0) (λ k. kept-bits s h (k % length (kept s)))

coded_marks : (T : List ℕ) (rows columns z : ℕ) (sys : List ℕ) → AreMarks sys → AreMarks (coded T rows columns z sys)
unfolding coded with_parity
coded_marks T rows columns z sys h =
    let n = first_below (2 ^ (rows * z)) (checks_with T rows columns z sys) in
    marks_append sys (digits (rows * z) n) h (marks_bits (digits (rows * z) n) (digits-bits (rows * z) n))

-- marks turned
marks_drop : (k : ℕ) (s : List ℕ) → AreMarks s → AreMarks (drop k s)
marks_drop k s h j = subst (λ (x : ℕ). x < 3) (sym (get_or-drop k s j 0)) (h (k + j))

marks_take : (k : ℕ) (s : List ℕ) → AreMarks s → AreMarks (take k s)
marks_take k s h j =
    below_or j k
    (λ l. subst (λ (x : ℕ). x < 3) (sym (get_or-take k s j 0 l)) (h j))
    (λ l. omega (arith, get_or-eq_default (take k s) 0 {n = j} (omega (arith, taken-most k s))))

turned_marks : (k : ℕ) (s : List ℕ) → AreMarks s → AreMarks (turned k s)
unfolding turned
turned_marks k s h = marks_append (drop k s) (take k s) (marks_drop k s h) (marks_take k s h)

filled_marks : (n : ℕ) (mine : List ℕ) → AreBits mine → AreMarks (with_filler n mine)
unfolding with_filler
filled_marks n mine h = marks_append mine (replicate (n - length mine) 2) (marks_bits mine h) (marks_filler (n - length mine))

block-bits : (R : List ℕ) (b : ℕ) (bits : List ℕ) (terms : Terms) (g r : ℕ) → AreBits bits → AreBits (block_sent R b bits terms g r)
unfolding block_sent matched_from coded_block systematic
block-bits R b bits terms g r h =
    let ed = terms.edition in
    let i = size_index R ed b in
    let d = start_of (kind R) terms.rv (length (coded_block R ed b bits r)) in
    matched-bits (turned d (coded_block R ed b bits r)) (share terms g (blocks R ed b) r).0
    (turned_marks d (coded_block R ed b bits r)
    (coded_marks (table R i) (rows R) (columns R) (z R i) (with_filler (places R ed b) (carried R ed b bits r))
    (filled_marks (places R ed b) (carried R ed b bits r) (carried-bits R ed b bits h r))))

pub sent-bits : (R : List ℕ) (b : ℕ) (bits : List ℕ) (terms : Terms) (g : ℕ) → AreBits bits → AreBits (radio_bits R b bits terms g)
unfolding radio_bits
sent-bits R b bits terms g h = joined-bits (block_sent R b bits terms g) (blocks R terms.edition b) (λ r l. block-bits R b bits terms g r h)

pub sent-length : (R : List ℕ) (b : ℕ) (bits : List ℕ) (terms : Terms) (g : ℕ) → Allocated terms g (blocks R terms.edition b) → length (radio_bits R b bits terms g) ≡ g
unfolding radio_bits
sent-length R b bits terms g h =
    let c = blocks R terms.edition b in
    let f = block_sent R b bits terms g in
    let given : ℕ → ℕ = λ r. (share terms g c r).0 in
    length-joined f c
    ∙ sum_same c (λ r. length (f r)) given (λ r l. block-length R b bits terms g r)
    ∙ shares_all terms g c h

inside : (n : ℕ) → 1 ≤ n → n ≤ 2048 → within 1 2048 n ≡ true
inside n low high = rw (le-leb 1 n low, le-leb n 2048 high)

-- ---- what an accepted call of `send` has passed, and what it left in front

-- what a transport block is sent as
abbrev radio : List ℕ → List ℕ → Terms → ℕ → List ℕ
radio R block = radio_bits R (block_bits (length block)) (transport block)

radio-length : (R block : List ℕ) (terms : Terms) (g room : ℕ) → send_number R block terms g room ≡ 0 → length (radio R block terms g) ≡ g
radio-length R block terms g room e = sent-length R (block_bits (length block)) (transport block) terms g (send-allocated R block terms g room e)

module _ {R block : List ℕ} {terms : Terms} {g : ℕ} {out : List ℕ} {r : Written} {o : List ℕ} (s : Sent R block terms g out r o) (done : r.number ≡ 0) where
  passed : send_number R block terms g (length out) ≡ 0
  passed = sym s.number ∙ done

  pub sent_front : take g o ≡ radio_bits R (block_bits (length block)) (transport block) terms g
  sent_front =
      ap (take g) (s.output ∙ when-done (send_number R block terms g (length out)) (radio R block terms g ++ drop g out) out passed)
      ∙ take_at (radio R block terms g) (drop g out) g (radio-length R block terms g (length out) passed)

  -- so it is sent as what it left
  sent-size : length (take g o) ≡ g
  sent-size = ap length sent_front ∙ radio-length R block terms g (length out) passed

  sent_back : radio R block terms (length (take g o)) ≡ take g o
  sent_back = ap (radio R block terms) sent-size ∙ sym sent_front

  sent-single : AreBits (take g o)
  sent-single k =
      subst (λ (l : List ℕ). get_or l k 0 < 2) (sym sent_front) (sent-bits R (block_bits (length block)) (transport block) terms g (transport-bits block) k)

-- ---- where every block has room, a call of `send` whose output holds the bits is done

module _ {R : List ℕ} (block : List ℕ) {terms : Terms} {g : ℕ} (h : Roomy R (length block) terms g) where
  none-refuses : (room : ℕ) → g ≤ room → send_number R block terms g room ≡ 0
  unfolding send_number
  none-refuses room enough =
      let octets = length block in
      let p = plan-passed R terms.edition octets h.taken in
      request_none R octets terms g g room (not (within 1 2048 octets)) (ap not (inside octets p.1 p.2)) h.taken h.version h.allocation h.enough enough

  pub sent_always : {out : List ℕ} {r : Written} {o : List ℕ} → g ≤ length out → Sent R block terms g out r o → (r.number ≡ 0) × (r.count ≡ g)
  sent_always {out} enough s =
      let done = none-refuses (length out) enough in
      (s.number ∙ done, s.count ∙ when-done (send_number R block terms g (length out)) g 0 done)

-- ---- received bits that no number before 14 refuses

receivable : (R : List ℕ) (octets : ℕ) (terms : Terms) (bits : List ℕ) → Roomy R octets terms (length bits) → AreBits bits → Receivable R octets terms bits
receivable R octets terms bits h single =
    record {
      taken = h.taken;
      version = h.version;
      allocated = allocated terms (length bits) (blocks R terms.edition (block_bits octets)) h.allocation (plan-cut R terms.edition octets h.taken).some;
      single = single;
      room = h.room;
    }

reception-number : (R : List ℕ) (a : ℕ) (terms : Terms) (bits : List ℕ) (room : ℕ) → Roomy R (a / 8) terms (length bits) → a % 8 ≡ 0 → AreBits bits → a / 8 ≤ room
    → receive_number R a terms bits room ≡ answered ((14, not (some_sent_as R (a / 8) terms bits)) ∷ [])
unfolding receive_number not_octets Refusals
reception-number R a terms bits room h whole single fits =
    let octets = a / 8 in
    let g = length bits in
    let p = plan-passed R terms.edition octets h.taken in
    let seven : not_octets a ≡ false = rw (eq-eqb (a % 8) 0 whole, inside octets p.1 p.2) in
    let l14 : List (ℕ × Bool) = (14, not (some_sent_as R octets terms bits)) ∷ [] in
    let l13 : List (ℕ × Bool) = (13, some_without_room R octets terms g) ∷ l14 in
    let l12 : List (ℕ × Bool) = (12, some_over 1 bits) ∷ l13 in
    last_part (request_conditions R (not_octets a) octets terms g octets room) l12 tt
    (request_none R octets terms g octets room (not_octets a) seven h.taken h.version h.allocation h.enough fits)
    ∙ passes 12 l13 (bits_not_over bits single) ∙ passes 13 l14 h.room

-- what receiving promises of them: they were decided on
decided_whole : {R : List ℕ} {a : ℕ} {terms : Terms} {bits buf : List ℕ} {r : Written} {buf' : List ℕ} → Received R a terms bits buf r buf'
    → Roomy R (a / 8) terms (length bits) → a % 8 ≡ 0 → AreBits bits → a / 8 ≤ length buf → Decided R (a / 8) terms bits buf r buf'
decided_whole {R} {a} {terms} {bits} {buf} {r} {buf'} v h whole single fits =
    let n = receive_number R a terms bits (length buf) in
    let is = reception-number R a terms bits (length buf) h whole single fits in
    record {
      found = λ e.
          let zero_is : n ≡ 0 = is ∙ passes 14 [] (ap not e) ∙ none_left in
          (v.number ∙ zero_is, v.count ∙ when-done n (a / 8) 0 zero_is, v.output ∙ when-done n _ buf zero_is);
      unsent = λ e.
          let last : n ≡ 14 = is ∙ applies 14 [] (ap not e) in
          let refused : n ≡ 0 → ⊥ = λ z. omega arith in
          (v.number ∙ last, v.count ∙ when_refused n (a / 8) 0 refused, v.output ∙ when_refused n _ buf refused);
    }

module _ {R : List ℕ} {octets : ℕ} {terms : Terms} {bits buf : List ℕ} {r : Written} {buf' : List ℕ} (h : Roomy R octets terms (length bits)) (single : AreBits bits)
    (fits : octets ≤ length buf) (v : Received R (8 * octets) terms bits buf r buf') where
  decided : Decided R octets terms bits buf r buf'
  decided =
      let q : 8 * octets / 8 ≡ octets = omega arith in
      subst (λ (n : ℕ). Decided R n terms bits buf r buf') q
      (decided_whole v (subst (λ (n : ℕ). Roomy R n terms (length bits)) (sym q) h) (omega arith) single (omega arith))

  -- a block that is sent as the bits is what is received
  back : (block : List ℕ) → AreOctets block → length block ≡ octets → radio R block terms (length bits) ≡ bits
      → (r.number ≡ 0) × (r.count ≡ octets) × (buf' ≡ block ++ drop octets buf)
  back block whole size is =
      let H = receivable R octets terms bits h single in
      let some = some_from R octets terms bits H block size whole (sent_as_of R terms bits block is) in
      let got = decided.found some in
      let same_block : received_block R octets terms bits ≡ block =
      received_is R octets terms bits H some ∙ sym (block-only R octets terms bits H block size whole is) in
      (got.0, got.1, got.2 ∙ ap (λ (l : List ℕ). l ++ drop octets buf) same_block)

-- ---- the three sentences of the demand

-- "Two different transport blocks are never sent as the same bits"
pub sent-apart : {R block block' : List ℕ} {terms : Terms} {g : ℕ} {out : List ℕ} {r : Written} {o out' : List ℕ} {r' : Written} {o' : List ℕ}
    → Roomy R (length block) terms g → AreOctets block → AreOctets block' → length block ≡ length block'
    → g ≤ length out → Sent R block terms g out r o → g ≤ length out' → Sent R block' terms g out' r' o'
    → take g o ≡ take g o' → block ≡ block'
sent-apart {R} {block} {block'} {terms} {g} {o = o} h whole whole' size room s room' s' e =
    let bits = take g o in
    let done = (sent_always block h room s).0 in
    let done' = (sent_always block' (subst (λ (n : ℕ). Roomy R n terms g) size h) room' s').0 in
    let long : length bits ≡ g = sent-size s done in
    let H = receivable R (length block) terms bits (subst (λ (n : ℕ). Roomy R (length block) terms n) (sym long) h) (sent-single s done) in
    let there : radio R block' terms (length bits) ≡ bits = ap (radio R block' terms) long ∙ sym (sent_front s' done') ∙ sym e in
    block-only R (length block) terms bits H block refl whole (sent_back s done)
    ∙ sym (block-only R (length block) terms bits H block' (sym size) whole' there)

-- "receiving the sent bits returns the block"
pub sent-returns : {R block : List ℕ} {terms : Terms} {g : ℕ} {out : List ℕ} {r : Written} {o buf : List ℕ} {r' : Written} {buf' : List ℕ}
    → Roomy R (length block) terms g → AreOctets block → length block ≤ length buf
    → g ≤ length out → Sent R block terms g out r o → Received R (8 * length block) terms (take g o) buf r' buf'
    → (r'.number ≡ 0) × (r'.count ≡ length block) × (take (length block) buf' ≡ block) × (buf' ≡ block ++ drop (length block) buf)
sent-returns {R} {block} {terms} {g} {o = o} {buf = buf} h whole fits room s v =
    let done = (sent_always block h room s).0 in
    let here = subst (λ (n : ℕ). Roomy R (length block) terms n) (sym (sent-size s done)) h in
    let got = back here (sent-single s done) fits v block whole refl (sent_back s done) in
    (got.0, got.1, ap (take (length block)) got.2 ∙ take_at block (drop (length block) buf) (length block) refl, got.2)

-- "and received noughts and ones, as many as the allocation gives, are refused as unsent exactly when no transport block of that length is
-- sent as them, sending being that of the second demand"
pub unsent-exactly : {R : List ℕ} {octets : ℕ} {terms : Terms} {bits buf : List ℕ} {r : Written} {buf' : List ℕ}
    → Roomy R octets terms (length bits) → AreBits bits → octets ≤ length buf → Received R (8 * octets) terms bits buf r buf'
    → (r.number ≡ 14 → NoneSentAs (λ block out r out'. Sent R block terms (length bits) out r out') octets bits)
    × (NoneSentAs (λ block out r out'. Sent R block terms (length bits) out r out') octets bits → r.number ≡ 14)
unsent-exactly {R} {octets} {terms} {bits} {buf} {r} h single fits v = (none, only)
  where
    roomy : (block : List ℕ) → length block ≡ octets → Roomy R (length block) terms (length bits)
    roomy block size = subst (λ (n : ℕ). Roomy R n terms (length bits)) (sym size) h

    none : r.number ≡ 14 → NoneSentAs (λ block out r out'. Sent R block terms (length bits) out r out') octets bits
    none e block whole size out w out' room s is =
        let done = (sent_always block (roomy block size) room s).0 in
        let got = back h single fits v block whole size (sym (sent_front s done) ∙ is) in
        omega (arith, got.0, e)

    only : NoneSentAs (λ block out r out'. Sent R block terms (length bits) out r out') octets bits → r.number ≡ 14
    only no_call = by-search (some_sent_as R octets terms bits) refl
      where
        H : Receivable R octets terms bits
        H = receivable R octets terms bits h single

        by-search : (b : Bool) → some_sent_as R octets terms bits ≡ b → r.number ≡ 14
        by-search false e = ((decided h single fits v).unsent e).0
        by-search true e =
            let block = received_block R octets terms bits in
            let is = sent_as_is R terms bits block (received-sent R octets terms bits H e) in
            let size = received-length R octets terms bits H in
            let g = length bits in
            let done = none-refuses block (roomy block size) g (le_refl g) in
            let sent = send-done R block terms g bits done _ refl in
            absurd (no_call block (received-octets R octets terms bits H) size bits _ _ (le_refl g) sent
            (take_at (radio R block terms g) (drop g bits) g (radio-length R block terms g g done) ∙ is))
