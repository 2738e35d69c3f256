-- The first demand: "Any bytes, lengths and numbers may arrive. Each public call ends, gives one answer, and refuses with the number that document 01
-- gives, tested in its order. A refused call changes no byte lent to it; an accepted one writes only the named stretch." That each call ends is in
-- the check of its function; that it gives one answer is in Agreement.
use mathlib.Core.Path.{◌≡◌, refl, sym, ap, ◌∙◌}
use mathlib.Core.Bool.{false}
use mathlib.Core.List.{List, [], ◌++◌}
use Prim.Native.Nat.{ℕ, ◌+◌, ◌*◌, ◌/◌}
use denote.Ref.{Bor}
use borrow.Author.Tests.{ltb-false}
use lib.ListN.{length}
use Rattle.bits.specs.Bits.{digits}
use Rattle.bits.specs.Numbers.{when_done}
use Rattle.bits.specs.declared.number.Written.{Written}
use Rattle.bits.specs.declared.count.Terms.{Terms}
use Rattle.bits.proofs.Answers.{Refusals, when_refused}
use Rattle.bits.proofs.Digits.{length_digits}
use Rattle.bits.proofs.Listed.{length_list}
use Rattle.bits.proofs.Ranges.{equal_or}
use Rattle.checksum.specs.Promises.{generator, bits_conditions, bits_number, OfBits, octets_conditions, octets_number, OfOctets}
use Rattle.checksum.specs.declared.Sum.{Sum}
use Rattle.checksum.specs.Masked.{attached_under}
use Rattle.checksum.proofs.Masked.{length_attached_under}
use Rattle.blocksum.specs.Promises.{block_bits_conditions, block_bits_number, OfBlockBits}
use Rattle.masked.specs.Promises.{SumUnder, append_conditions, append_number, Appended, WordTested}
use Rattle.masked.specs.declared.Tested.{Tested}
use Rattle.profile.specs.Record.{kb, rows, columns}
use Rattle.profile.specs.Promises.{judge_conditions, judged}
use Rattle.profile.proofs.Shape.{columns_is}
use Rattle.cutting.specs.Plan.{block_bits}
use Rattle.cutting.specs.Promises.{plan_conditions, plan_number, refusal, planned}
use Rattle.cutting.specs.Transport.{transport}
use Rattle.cutting.specs.declared.Planned.{Planned}
use Rattle.cutting.proofs.Plans.{plan-number}
use Rattle.parity.specs.Coded.{coded}
use Rattle.parity.specs.Promises.{table_for, code_conditions, code_number, BlockCoded}
use Rattle.parity.proofs.Answers.{fits}
use Rattle.parity.proofs.Coded.{coded-length}
use Rattle.checking.specs.Promises.{check_conditions, check_number, WordChecked, sums_conditions, sums_number, RowsSummed}
use Rattle.checking.specs.Sums.{row_sum, row_sums}
use Rattle.checking.specs.declared.Verdict.{Verdict}
use Rattle.matching.specs.Matching.{turned, start_of, matched_from}
use Rattle.matching.specs.Promises.{match_conditions, match_number, RateMatched}
use Rattle.matching.proofs.Heard.{matched-length}
use Rattle.control.specs.Register.{streams}
use Rattle.control.specs.Interleaver.{sent}
use Rattle.control.specs.Back.{streams_as}
use Rattle.control.specs.Promises.{code_word_conditions, code_word_number, WordCoded, match_streams_conditions, match_streams_number, StreamsMatched, send_word_conditions, send_word_number, WordSent, streams_of_conditions, streams_of_number, StreamsFound, Wrote}
use Rattle.control.proofs.Registers.{length-streams}
use Rattle.control.proofs.Sending.{length-sent}
use Rattle.control.proofs.Backwards.{found-length}
use Rattle.nearest.specs.Nearest.{away, nearest}
use Rattle.nearest.specs.Promises.{nearest_word_conditions, nearest_word_number, WordFound}
use Rattle.nearest.specs.declared.Found.{Found}
use Rattle.coding.specs.Joining.{radio_bits}
use Rattle.coding.specs.Receiving.{received_block}
use Rattle.coding.specs.Promises.{send_conditions, send_number, Sent, receive_conditions, receive_number, Received}
use Rattle.coding.proofs.Received.{nth_length}
use Rattle.coding.proofs.Answers.{send-allocated}
use Rattle.coding.proofs.RoundTrip.{sent-length}
use Rattle.shelf.specs.Lookup.{lookup_conditions, lookup_number, lookup_record, lookup_place}
use Rattle.shelf.specs.Promises.{LookedUp, HostedSent, HostedReceived, HostedChecked}
use Rattle.keeping.specs.Entries.{shelf_put, shelf_left}
use Rattle.keeping.specs.Promises.{put_conditions, put_number, RecordPut, remove_conditions, remove_number, RecordRemoved}
use Rattle.advice.specs.Promises.{least_conditions, least_number, LeastRoom}
use Rattle.advice.specs.declared.Advised.{Advised}
use Rattle.demands.specs.Numbers.{NoneHolds, Answers}
use Rattle.demands.specs.Outputs.{Confined, Alike}
use Rattle.demands.proofs.Order.{answers}
use Rattle.demands.proofs.Hosted.{looked_answers, hosted-answers, hosted-confined, hosted-alike}
use Rattle.demands.proofs.Outputs as outputs

-- ---- "refuses with the number that document 01 gives, tested in its order": each call answers the first number of its list whose condition holds; the
-- lists stand beside the promises

pub of_bits_number : {w : ℕ} {bits : List ℕ} {r : Sum} → OfBits w bits r → Answers r.number (bits_conditions w bits)
unfolding bits_number Refusals
of_bits_number {w} {bits} a = answers (bits_conditions w bits) tt a.number

pub of_octets_number : {w : ℕ} {octets : List ℕ} {r : Sum} → OfOctets w octets r → Answers r.number (octets_conditions w)
unfolding octets_number Refusals
of_octets_number {w} a = answers (octets_conditions w) tt a.number

pub of_block_bits_number : {bits : List ℕ} {r : Sum} → OfBlockBits bits r → Answers r.number (block_bits_conditions bits)
unfolding block_bits_number Refusals
of_block_bits_number {bits} a = answers (block_bits_conditions bits) tt a.number

pub sum_under_number : {w m : ℕ} {bits : List ℕ} {r : Sum} → SumUnder w m bits r → Answers r.number (bits_conditions w bits)
unfolding bits_number Refusals
sum_under_number {w} {m} {bits} a = answers (bits_conditions w bits) tt a.number

pub test-number : {w m : ℕ} {word : List ℕ} {r : Tested} → WordTested w m word r → Answers r.number (bits_conditions w word)
unfolding bits_number Refusals
test-number {w} {m} {word} a = answers (bits_conditions w word) tt a.number

pub judge-number : (R : List ℕ) {r : ℕ} → r ≡ judged R → Answers r (judge_conditions R)
unfolding judged Refusals
judge-number R a = answers (judge_conditions R) tt a

pub plan_block_number : (R : List ℕ) (ed octets : ℕ) {r : Planned} → r ≡ planned R ed octets → Answers r.number (plan_conditions R ed octets)
unfolding plan_number Refusals
plan_block_number R ed octets {r} a = answers (plan_conditions R ed octets) tt (plan-number R ed octets r a)

pub check_word_number : {R : List ℕ} {z : ℕ} {word : List ℕ} {r : Verdict} → WordChecked R z word r → Answers r.number (check_conditions R z word)
unfolding check_number Refusals
check_word_number {R} {z} {word} a = answers (check_conditions R z word) tt a.number

pub least_bits_number : {R : List ℕ} {octets : ℕ} {terms : Terms} {r : Advised} → LeastRoom R octets terms r → Answers r.number (least_conditions R octets terms)
unfolding least_number Refusals
least_bits_number {R} {octets} {terms} a = answers (least_conditions R octets terms) tt a.number

pub lookup_number_number : (private public : List ℕ) (t p : ℕ) {r : ℕ} → r ≡ lookup_number private public t p → Answers r (lookup_conditions private public t p)
unfolding lookup_number Refusals
lookup_number_number private public t p a = answers (lookup_conditions private public t p) tt a

append-answers : (w : ℕ) (bits : List ℕ) (room : ℕ) {r : ℕ} → r ≡ append_number w bits room → Answers r (append_conditions w bits room)
unfolding append_number Refusals
append-answers w bits room e = answers (append_conditions w bits room) tt e

code_answers : (R : List ℕ) (z : ℕ) (places : List ℕ) (room : ℕ) {r : ℕ} → r ≡ code_number R z places room → Answers r (code_conditions R z places room)
unfolding code_number Refusals
code_answers R z places room e = answers (code_conditions R z places room) tt e

match_answers : (places : List ℕ) (kind rv e room : ℕ) {r : ℕ} → r ≡ match_number places kind rv e room → Answers r (match_conditions places kind rv e room)
unfolding match_number Refusals
match_answers places kind rv e room q = answers (match_conditions places kind rv e room) tt q

send-answers : (R block : List ℕ) (terms : Terms) (g room : ℕ) {r : ℕ} → r ≡ send_number R block terms g room → Answers r (send_conditions R block terms g room)
unfolding send_number Refusals
send-answers R block terms g room q = answers (send_conditions R block terms g room) tt q

receive-answers : (R : List ℕ) (a : ℕ) (terms : Terms) (bits : List ℕ) (room : ℕ) {r : ℕ} → r ≡ receive_number R a terms bits room
    → Answers r (receive_conditions R a terms bits room)
unfolding receive_number Refusals
receive-answers R a terms bits room q = answers (receive_conditions R a terms bits room) tt q

-- ---- "When it refuses, its other results are 0, or no"

pub of_bits_refused : {w : ℕ} {bits : List ℕ} {r : Sum} → OfBits w bits r → (r.number ≡ 0 → ⊥) → r.value ≡ 0
of_bits_refused {w} {bits} a n = a.value ∙ when_refused (bits_number w bits) _ 0 (λ z. n (a.number ∙ z))

pub of_octets_refused : {w : ℕ} {octets : List ℕ} {r : Sum} → OfOctets w octets r → (r.number ≡ 0 → ⊥) → r.value ≡ 0
of_octets_refused {w} a n = a.value ∙ when_refused (octets_number w) _ 0 (λ z. n (a.number ∙ z))

pub of_block_bits_refused : {bits : List ℕ} {r : Sum} → OfBlockBits bits r → (r.number ≡ 0 → ⊥) → r.value ≡ 0
of_block_bits_refused {bits} a n = a.value ∙ when_refused (block_bits_number bits) _ 0 (λ z. n (a.number ∙ z))

pub sum_under_refused : {w m : ℕ} {bits : List ℕ} {r : Sum} → SumUnder w m bits r → (r.number ≡ 0 → ⊥) → r.value ≡ 0
sum_under_refused {w} {m} {bits} a n = a.value ∙ when_refused (bits_number w bits) _ 0 (λ z. n (a.number ∙ z))

pub test-refused : {w m : ℕ} {word : List ℕ} {r : Tested} → WordTested w m word r → (r.number ≡ 0 → ⊥) → r.holds ≡ false
test-refused {w} {m} {word} a n = a.holds ∙ when_refused (bits_number w word) _ false (λ z. n (a.number ∙ z))

pub plan_block_refused : (R : List ℕ) (ed octets : ℕ) {r : Planned} → r ≡ planned R ed octets → (r.number ≡ 0 → ⊥)
    → (r.bits ≡ 0) × (r.kmax ≡ 0) × (r.blocks ≡ 0) × (r.places ≡ 0) × (r.z ≡ 0) × (r.index ≡ 0)
unfolding planned refusal
plan_block_refused R ed octets {r} a n =
    let e : r ≡ refusal (plan_number R ed octets) = a ∙ when_refused (plan_number R ed octets) _ _ (λ z. n (plan-number R ed octets r a ∙ z)) in
    (ap (λ (p : Planned). p.bits) e, ap (λ (p : Planned). p.kmax) e, ap (λ (p : Planned). p.blocks) e, ap (λ (p : Planned). p.places) e, ap (λ (p : Planned). p.z) e, ap (λ (p : Planned). p.index) e)

pub check_word_refused : {R : List ℕ} {z : ℕ} {word : List ℕ} {r : Verdict} → WordChecked R z word r → (r.number ≡ 0 → ⊥) → r.checks ≡ false
check_word_refused {R} {z} {word} a n = a.checks ∙ when_refused (check_number R z word) _ false (λ e. n (a.number ∙ e))

pub least_bits_refused : {R : List ℕ} {octets : ℕ} {terms : Terms} {r : Advised} → LeastRoom R octets terms r → (r.number ≡ 0 → ⊥)
    → (r.bits.0 ≡ 0) × (r.blocks ≡ 0) × (r.larger ≡ 0) × (r.first.0 ≡ 0) × (r.last.0 ≡ 0)
least_bits_refused {R} {octets} {terms} a n =
    let number = least_number R octets terms in
    let none : (k : ℕ) → when_done number k 0 ≡ 0 = λ k. when_refused number k 0 (λ z. n (a.number ∙ z)) in
    (a.bits ∙ none _, a.blocks ∙ none _, a.larger ∙ none _, a.first ∙ none _, a.last ∙ none _)

-- "With a refusal it is the empty stretch at the start of the public shelf."
pub lookup-refused : {private public : Bor (List ℕ)} {t p : ℕ} {r : Bor (List ℕ)} → LookedUp private public t p r
    → (lookup_number private.now public.now t p ≡ 0 → ⊥) → (r.now ≡ []) × (r.ref_ptr ≡ public.ref_ptr)
unfolding lookup_record lookup_place
lookup-refused {private} {public} {t} {p} a n =
    let number = lookup_number private.now public.now t p in
    (a.octets ∙ when_refused number _ [] n, a.place ∙ when_refused number _ public.ref_ptr n)

-- ---- the calls that write: their numbers, what they leave as it was, and that it decides nothing

-- masked::append
append-fits : (w m : ℕ) (bits : List ℕ) → outputs.Fitting (append_number w bits) (length bits + w) (attached_under w (generator w) m bits)
unfolding NoneHolds
append-fits w m bits =
    record {
      size = λ room e. length_attached_under w (generator w) m bits;
      room = λ room e. let h = (append-answers w bits room (sym e)).only_done refl in ltb-false room (length bits + w) h.1.0;
    }

append_writes : {w m : ℕ} {bits out : List ℕ} {r : Written} {o : List ℕ} → Appended w m bits out r o
    → outputs.Writes (append_number w bits) (length bits + w) (attached_under w (generator w) m bits) out r o
append_writes a = record { number = a.number; count = a.count; output = a.output }

pub append-number : {w m : ℕ} {bits out : List ℕ} {r : Written} {o : List ℕ}
    → Appended w m bits out r o → Answers r.number (append_conditions w bits (length out))
append-number {w} {m} {bits} {out} a = append-answers w bits (length out) a.number

pub append-confined : {w m : ℕ} {bits out : List ℕ} {r : Written} {o : List ℕ} → Appended w m bits out r o → Confined out r o
append-confined {w} {m} {bits} a = outputs.confined (append-fits w m bits) (append_writes a)

pub append-alike : {w m : ℕ} {bits out : List ℕ} {r : Written} {o other : List ℕ} {s : Written} {u : List ℕ} → length out ≡ length other
    → Appended w m bits out r o → Appended w m bits other s u → Alike r o s u
append-alike {w} {m} {bits} e a b = outputs.alike (append-fits w m bits) e (append_writes a) (append_writes b)

-- parity::code_block
module _ (R : List ℕ) (z : ℕ) (places : List ℕ) where
  code_fits : outputs.Fitting (code_number R z places) (columns R * z) (coded (table_for R z) (rows R) (columns R) z places)
  unfolding NoneHolds
  code_fits =
      record {
        size = λ room e.
            let h = (code_answers R z places room (sym e)).only_done refl in
            coded-length (table_for R z) (rows R) (columns R) z places (kb R) (fits R z (kb R) places h.1.1.0).1 (columns_is R);
        room = λ room e.
            let h = (code_answers R z places room (sym e)).only_done refl in
            ltb-false room (columns R * z) h.1.1.1.0;
      }

code_writes : {R : List ℕ} {z : ℕ} {places out : List ℕ} {r : Written} {o : List ℕ} → BlockCoded R z places out r o
    → outputs.Writes (code_number R z places) (columns R * z) (coded (table_for R z) (rows R) (columns R) z places) out r o
code_writes a = record { number = a.number; count = a.count; output = a.output }

pub code_block_number : {R : List ℕ} {z : ℕ} {places out : List ℕ} {r : Written} {o : List ℕ}
    → BlockCoded R z places out r o → Answers r.number (code_conditions R z places (length out))
code_block_number {R} {z} {places} {out} a = code_answers R z places (length out) a.number

pub code_block_confined : {R : List ℕ} {z : ℕ} {places out : List ℕ} {r : Written} {o : List ℕ} → BlockCoded R z places out r o → Confined out r o
code_block_confined {R} {z} {places} a = outputs.confined (code_fits R z places) (code_writes a)

pub code_block_alike : {R : List ℕ} {z : ℕ} {places out : List ℕ} {r : Written} {o other : List ℕ} {s : Written} {u : List ℕ} → length out ≡ length other
    → BlockCoded R z places out r o → BlockCoded R z places other s u → Alike r o s u
code_block_alike {R} {z} {places} e a b = outputs.alike (code_fits R z places) e (code_writes a) (code_writes b)

-- checking::row_sums
module _ (R : List ℕ) (z : ℕ) (word : List ℕ) where
  sums-answers : (room : ℕ) {r : ℕ} → r ≡ sums_number R z word room → Answers r (sums_conditions R z word room)
  unfolding sums_number Refusals
  sums-answers room q = answers (sums_conditions R z word room) tt q

  sums-fits : outputs.Fitting (sums_number R z word) (rows R * z) (row_sums (table_for R z) (rows R) (columns R) z word)
  unfolding NoneHolds row_sums
  sums-fits =
      record {
        size = λ room e. length_list (rows R * z) (row_sum (table_for R z) (columns R) z word);
        room = λ room e. let h = (sums-answers room (sym e)).only_done refl in ltb-false room (rows R * z) h.1.1.1.0;
      }

sums_writes : {R : List ℕ} {z : ℕ} {word out : List ℕ} {r : Written} {o : List ℕ} → RowsSummed R z word out r o
    → outputs.Writes (sums_number R z word) (rows R * z) (row_sums (table_for R z) (rows R) (columns R) z word) out r o
sums_writes a = record { number = a.number; count = a.count; output = a.output }

pub row_sums_number : {R : List ℕ} {z : ℕ} {word out : List ℕ} {r : Written} {o : List ℕ}
    → RowsSummed R z word out r o → Answers r.number (sums_conditions R z word (length out))
row_sums_number {R} {z} {word} {out} a = sums-answers R z word (length out) a.number

pub row_sums_confined : {R : List ℕ} {z : ℕ} {word out : List ℕ} {r : Written} {o : List ℕ} → RowsSummed R z word out r o → Confined out r o
row_sums_confined {R} {z} {word} a = outputs.confined (sums-fits R z word) (sums_writes a)

pub row_sums_alike : {R : List ℕ} {z : ℕ} {word out : List ℕ} {r : Written} {o other : List ℕ} {s : Written} {u : List ℕ} → length out ≡ length other
    → RowsSummed R z word out r o → RowsSummed R z word other s u → Alike r o s u
row_sums_alike {R} {z} {word} e a b = outputs.alike (sums-fits R z word) e (sums_writes a) (sums_writes b)

-- matching::rate_match
match_fits : (places : List ℕ) (kind rv e : ℕ) → outputs.Fitting (match_number places kind rv e) e (matched_from kind rv places e)
unfolding NoneHolds matched_from
match_fits places kind rv e =
    record {
      size = λ room q. matched-length (turned (start_of kind rv (length places)) places) e;
      room = λ room q. let h = (match_answers places kind rv e room (sym q)).only_done refl in ltb-false room e h.1.1.1.0;
    }

match_writes : {places : List ℕ} {kind rv e : ℕ} {out : List ℕ} {r : Written} {o : List ℕ} → RateMatched places kind rv e out r o
    → outputs.Writes (match_number places kind rv e) e (matched_from kind rv places e) out r o
match_writes a = record { number = a.number; count = a.count; output = a.output }

pub rate_match_number : {places : List ℕ} {kind rv e : ℕ} {out : List ℕ} {r : Written} {o : List ℕ}
    → RateMatched places kind rv e out r o → Answers r.number (match_conditions places kind rv e (length out))
rate_match_number {places} {kind} {rv} {e} {out} a = match_answers places kind rv e (length out) a.number

pub rate_match_confined : {places : List ℕ} {kind rv e : ℕ} {out : List ℕ} {r : Written} {o : List ℕ} → RateMatched places kind rv e out r o → Confined out r o
rate_match_confined {places} {kind} {rv} {e} a = outputs.confined (match_fits places kind rv e) (match_writes a)

pub rate_match_alike : {places : List ℕ} {kind rv e : ℕ} {out : List ℕ} {r : Written} {o other : List ℕ} {s : Written} {u : List ℕ} → length out ≡ length other
    → RateMatched places kind rv e out r o → RateMatched places kind rv e other s u → Alike r o s u
rate_match_alike {places} {kind} {rv} {e} q a b = outputs.alike (match_fits places kind rv e) q (match_writes a) (match_writes b)

-- coding::send
send-fits : (R block : List ℕ) (terms : Terms) (g : ℕ) → outputs.Fitting (send_number R block terms g) g (radio_bits R (block_bits (length block)) (transport block) terms g)
unfolding NoneHolds
send-fits R block terms g =
    record {
      size = λ room e. sent-length R (block_bits (length block)) (transport block) terms g (send-allocated R block terms g room e);
      room = λ room e. let h = (send-answers R block terms g room (sym e)).only_done refl in ltb-false room g h.1.1.1.1.1.1.1.1.0;
    }

send_writes : {R block : List ℕ} {terms : Terms} {g : ℕ} {out : List ℕ} {r : Written} {o : List ℕ} → Sent R block terms g out r o
    → outputs.Writes (send_number R block terms g) g (radio_bits R (block_bits (length block)) (transport block) terms g) out r o
send_writes a = record { number = a.number; count = a.count; output = a.output }

pub send-number : {R block : List ℕ} {terms : Terms} {g : ℕ} {out : List ℕ} {r : Written} {o : List ℕ}
    → Sent R block terms g out r o → Answers r.number (send_conditions R block terms g (length out))
send-number {R} {block} {terms} {g} {out} a = send-answers R block terms g (length out) a.number

pub send-confined : {R block : List ℕ} {terms : Terms} {g : ℕ} {out : List ℕ} {r : Written} {o : List ℕ} → Sent R block terms g out r o → Confined out r o
send-confined {R} {block} {terms} {g} a = outputs.confined (send-fits R block terms g) (send_writes a)

pub send-alike : {R block : List ℕ} {terms : Terms} {g : ℕ} {out : List ℕ} {r : Written} {o other : List ℕ} {s : Written} {u : List ℕ} → length out ≡ length other
    → Sent R block terms g out r o → Sent R block terms g other s u → Alike r o s u
send-alike {R} {block} {terms} {g} e a b = outputs.alike (send-fits R block terms g) e (send_writes a) (send_writes b)

-- coding::receive
received-size : (R : List ℕ) (octets : ℕ) (terms : Terms) (bits : List ℕ) → length (received_block R octets terms bits) ≡ octets
unfolding received_block
received-size R octets terms bits = nth_length octets _

receive-fits : (R : List ℕ) (a : ℕ) (terms : Terms) (bits : List ℕ) → outputs.Fitting (receive_number R a terms bits) (a / 8) (received_block R (a / 8) terms bits)
unfolding NoneHolds
receive-fits R a terms bits =
    record {
      size = λ room e. received-size R (a / 8) terms bits;
      room = λ room e. let h = (receive-answers R a terms bits room (sym e)).only_done refl in ltb-false room (a / 8) h.1.1.1.1.1.1.1.1.0;
    }

receive_writes : {R : List ℕ} {a : ℕ} {terms : Terms} {bits out : List ℕ} {r : Written} {o : List ℕ} → Received R a terms bits out r o
    → outputs.Writes (receive_number R a terms bits) (a / 8) (received_block R (a / 8) terms bits) out r o
receive_writes a = record { number = a.number; count = a.count; output = a.output }

pub receive-number : {R : List ℕ} {a : ℕ} {terms : Terms} {bits out : List ℕ} {r : Written} {o : List ℕ}
    → Received R a terms bits out r o → Answers r.number (receive_conditions R a terms bits (length out))
receive-number {R} {a} {terms} {bits} {out} h = receive-answers R a terms bits (length out) h.number

pub receive-confined : {R : List ℕ} {a : ℕ} {terms : Terms} {bits out : List ℕ} {r : Written} {o : List ℕ} → Received R a terms bits out r o → Confined out r o
receive-confined {R} {a} {terms} {bits} h = outputs.confined (receive-fits R a terms bits) (receive_writes h)

pub receive-alike : {R : List ℕ} {a : ℕ} {terms : Terms} {bits out : List ℕ} {r : Written} {o other : List ℕ} {s : Written} {u : List ℕ} → length out ≡ length other
    → Received R a terms bits out r o → Received R a terms bits other s u → Alike r o s u
receive-alike {R} {a} {terms} {bits} e h k = outputs.alike (receive-fits R a terms bits) e (receive_writes h) (receive_writes k)

-- control::code_word, control::match_streams, control::send_word, control::streams_of
wrote_writes : (n : ℕ → ℕ) (k : ℕ) (w : List ℕ) {out : List ℕ} {r : Written} {o : List ℕ} → Wrote (n (length out)) k w out r o → outputs.Writes n k w out r o
wrote_writes n k w a = record { number = a.number; count = a.count; output = a.output }

module _ (c : List ℕ) where
  code-word-answers : (room : ℕ) {r : ℕ} → r ≡ code_word_number c room → Answers r (code_word_conditions c room)
  unfolding code_word_number Refusals
  code-word-answers room q = answers (code_word_conditions c room) tt q

  code-word-fits : outputs.Fitting (code_word_number c) (length c + length c + length c) (streams c)
  unfolding NoneHolds
  code-word-fits =
      record {
        size = λ room e. length-streams c;
        room = λ room e. let h = (code-word-answers room (sym e)).only_done refl in ltb-false room (length c + length c + length c) h.1.0;
      }

  pub code_word-number : {out : List ℕ} {r : Written} {o : List ℕ} → WordCoded c out r o → Answers r.number (code_word_conditions c (length out))
  code_word-number {out} a = code-word-answers (length out) a.number

  pub code_word_confined : {out : List ℕ} {r : Written} {o : List ℕ} → WordCoded c out r o → Confined out r o
  code_word_confined a = outputs.confined code-word-fits (wrote_writes (code_word_number c) _ (streams c) a)

  pub code_word_alike : {out : List ℕ} {r : Written} {o other : List ℕ} {s : Written} {u : List ℕ} → length out ≡ length other
      → WordCoded c out r o → WordCoded c other s u → Alike r o s u
  code_word_alike e a b =
      outputs.alike code-word-fits e (wrote_writes (code_word_number c) _ (streams c) a) (wrote_writes (code_word_number c) _ (streams c) b)

module _ (D : ℕ) (S : List ℕ) (e : ℕ) where
  match-streams-answers : (room : ℕ) {r : ℕ} → r ≡ match_streams_number D S e room → Answers r (match_streams_conditions D S e room)
  unfolding match_streams_number Refusals
  match-streams-answers room q = answers (match_streams_conditions D S e room) tt q

  match-streams-fits : outputs.Fitting (match_streams_number D S e) e (sent D S e)
  unfolding NoneHolds
  match-streams-fits =
      record {
        size = λ room q. length-sent D S e;
        room = λ room q. let h = (match-streams-answers room (sym q)).only_done refl in ltb-false room e h.1.1.0;
      }

  pub match_streams-number : {out : List ℕ} {r : Written} {o : List ℕ} → StreamsMatched D S e out r o
      → Answers r.number (match_streams_conditions D S e (length out))
  match_streams-number {out} a = match-streams-answers (length out) a.number

  pub match_streams_confined : {out : List ℕ} {r : Written} {o : List ℕ} → StreamsMatched D S e out r o → Confined out r o
  match_streams_confined a = outputs.confined match-streams-fits (wrote_writes (match_streams_number D S e) e (sent D S e) a)

  pub match_streams_alike : {out : List ℕ} {r : Written} {o other : List ℕ} {s : Written} {u : List ℕ} → length out ≡ length other
      → StreamsMatched D S e out r o → StreamsMatched D S e other s u → Alike r o s u
  match_streams_alike q a b =
      outputs.alike match-streams-fits q (wrote_writes (match_streams_number D S e) e (sent D S e) a) (wrote_writes (match_streams_number D S e) e (sent D S e) b)

module _ (c : List ℕ) (e : ℕ) where
  send-word-answers : (room : ℕ) {r : ℕ} → r ≡ send_word_number c e room → Answers r (send_word_conditions c e room)
  unfolding send_word_number Refusals
  send-word-answers room q = answers (send_word_conditions c e room) tt q

  send-word-fits : outputs.Fitting (send_word_number c e) e (sent (length c) (streams c) e)
  unfolding NoneHolds
  send-word-fits =
      record {
        size = λ room q. length-sent (length c) (streams c) e;
        room = λ room q. let h = (send-word-answers room (sym q)).only_done refl in ltb-false room e h.1.1.0;
      }

  pub send_word-number : {out : List ℕ} {r : Written} {o : List ℕ} → WordSent c e out r o → Answers r.number (send_word_conditions c e (length out))
  send_word-number {out} a = send-word-answers (length out) a.number

  pub send_word_confined : {out : List ℕ} {r : Written} {o : List ℕ} → WordSent c e out r o → Confined out r o
  send_word_confined a = outputs.confined send-word-fits (wrote_writes (send_word_number c e) e _ a)

  pub send_word_alike : {out : List ℕ} {r : Written} {o other : List ℕ} {s : Written} {u : List ℕ} → length out ≡ length other
      → WordSent c e out r o → WordSent c e other s u → Alike r o s u
  send_word_alike q a b = outputs.alike send-word-fits q (wrote_writes (send_word_number c e) e _ a) (wrote_writes (send_word_number c e) e _ b)

module _ (D : ℕ) (bits : List ℕ) where
  streams-of-answers : (room : ℕ) {r : ℕ} → r ≡ streams_of_number D bits room → Answers r (streams_of_conditions D bits room)
  unfolding streams_of_number Refusals
  streams-of-answers room q = answers (streams_of_conditions D bits room) tt q

  streams-of-fits : outputs.Fitting (streams_of_number D bits) (D + D + D) (streams_as D bits)
  unfolding NoneHolds
  streams-of-fits =
      record {
        size = λ room q. found-length D bits;
        room = λ room q. let h = (streams-of-answers room (sym q)).only_done refl in ltb-false room (D + D + D) h.1.1.0;
      }

  pub streams_of-number : {out : List ℕ} {r : Written} {o : List ℕ} → StreamsFound D bits out r o
      → Answers r.number (streams_of_conditions D bits (length out))
  streams_of-number {out} a = streams-of-answers (length out) a.number

  pub streams_of_confined : {out : List ℕ} {r : Written} {o : List ℕ} → StreamsFound D bits out r o → Confined out r o
  streams_of_confined a = outputs.confined streams-of-fits (wrote_writes (streams_of_number D bits) _ (streams_as D bits) a)

  pub streams_of_alike : {out : List ℕ} {r : Written} {o other : List ℕ} {s : Written} {u : List ℕ} → length out ≡ length other
      → StreamsFound D bits out r o → StreamsFound D bits other s u → Alike r o s u
  streams_of_alike q a b =
      outputs.alike streams-of-fits q (wrote_writes (streams_of_number D bits) _ (streams_as D bits) a) (wrote_writes (streams_of_number D bits) _ (streams_as D bits) b)

-- nearest::nearest_word: of its answer the number and the count are those of a call that writes, and the differences are said beside
abbrev pub written_of : Found → Written
written_of r = record { number = r.number; count = r.count }

module _ (D : ℕ) (heard : List ℕ) where
  nearest-word-answers : (room : ℕ) {r : ℕ} → r ≡ nearest_word_number D heard room → Answers r (nearest_word_conditions D heard room)
  unfolding nearest_word_number Refusals
  nearest-word-answers room q = answers (nearest_word_conditions D heard room) tt q

  nearest-word-fits : outputs.Fitting (nearest_word_number D heard) D (digits D (nearest D heard))
  unfolding NoneHolds
  nearest-word-fits =
      record {
        size = λ room q. length_digits D (nearest D heard);
        room = λ room q. let h = (nearest-word-answers room (sym q)).only_done refl in ltb-false room D h.1.1.0;
      }

  found-writes : {out : List ℕ} {r : Found} {o : List ℕ} → WordFound D heard out r o
      → outputs.Writes (nearest_word_number D heard) D (digits D (nearest D heard)) out (written_of r) o
  found-writes a = record { number = a.number; count = a.count; output = a.output }

  pub nearest_word-number : {out : List ℕ} {r : Found} {o : List ℕ} → WordFound D heard out r o
      → Answers r.number (nearest_word_conditions D heard (length out))
  nearest_word-number {out} a = nearest-word-answers (length out) a.number

  pub nearest_word_refused : {out : List ℕ} {r : Found} {o : List ℕ} → WordFound D heard out r o → (r.number ≡ 0 → ⊥) → r.differences ≡ 0
  nearest_word_refused {out} a n =
      a.differences ∙ when_refused (nearest_word_number D heard (length out)) (away D heard (nearest D heard)) 0 (λ z. n (a.number ∙ z))

  pub nearest_word_confined : {out : List ℕ} {r : Found} {o : List ℕ} → WordFound D heard out r o → Confined out (written_of r) o
  nearest_word_confined a = outputs.confined nearest-word-fits (found-writes a)

  pub nearest_word_alike : {out : List ℕ} {r : Found} {o other : List ℕ} {s : Found} {u : List ℕ} → length out ≡ length other
      → WordFound D heard out r o → WordFound D heard other s u → Alike (written_of r) o (written_of s) u × (r.differences ≡ s.differences)
  nearest_word_alike q a b = (
    outputs.alike nearest-word-fits q (found-writes a) (found-writes b),
    a.differences ∙ ap (λ (n : ℕ). when_done (nearest_word_number D heard n) (away D heard (nearest D heard)) 0) q ∙ sym b.differences,
  )

-- keeping::put_record
module _ (S : List ℕ) (t p : ℕ) (R : List ℕ) where
  put-answers : (room : ℕ) {r : ℕ} → r ≡ put_number S t p R room → Answers r (put_conditions S t p R room)
  unfolding put_number Refusals
  put-answers room q = answers (put_conditions S t p R room) tt q

  put_fits : outputs.Fitting (put_number S t p R) (length (shelf_put S t p R)) (shelf_put S t p R)
  unfolding NoneHolds
  put_fits =
      record {
        size = λ room e. refl;
        room = λ room e. let h = (put-answers room (sym e)).only_done refl in ltb-false room (length (shelf_put S t p R)) h.1.1.1.1.1.0;
      }

  put-writes : {out : List ℕ} {r : Written} {o : List ℕ} → RecordPut S t p R out r o
      → outputs.Writes (put_number S t p R) (length (shelf_put S t p R)) (shelf_put S t p R) out r o
  put-writes a = record { number = a.number; count = a.count; output = a.output }

  pub put-number : {out : List ℕ} {r : Written} {o : List ℕ} → RecordPut S t p R out r o → Answers r.number (put_conditions S t p R (length out))
  put-number {out} a = put-answers (length out) a.number

  pub put_confined : {out : List ℕ} {r : Written} {o : List ℕ} → RecordPut S t p R out r o → Confined out r o
  put_confined a = outputs.confined put_fits (put-writes a)

  pub put-alike : {out : List ℕ} {r : Written} {o other : List ℕ} {s : Written} {u : List ℕ} → length out ≡ length other
      → RecordPut S t p R out r o → RecordPut S t p R other s u → Alike r o s u
  put-alike e a b = outputs.alike put_fits e (put-writes a) (put-writes b)

-- keeping::remove_record
module _ (S : List ℕ) (t p : ℕ) where
  remove-answers : (room : ℕ) {r : ℕ} → r ≡ remove_number S t p room → Answers r (remove_conditions S t p room)
  unfolding remove_number Refusals
  remove-answers room q = answers (remove_conditions S t p room) tt q

  remove-fits : outputs.Fitting (remove_number S t p) (length (shelf_left S t p)) (shelf_left S t p)
  unfolding NoneHolds
  remove-fits =
      record {
        size = λ room e. refl;
        room = λ room e. let h = (remove-answers room (sym e)).only_done refl in ltb-false room (length (shelf_left S t p)) h.1.1.1.0;
      }

  remove-writes : {out : List ℕ} {r : Written} {o : List ℕ} → RecordRemoved S t p out r o
      → outputs.Writes (remove_number S t p) (length (shelf_left S t p)) (shelf_left S t p) out r o
  remove-writes a = record { number = a.number; count = a.count; output = a.output }

  pub remove-number : {out : List ℕ} {r : Written} {o : List ℕ} → RecordRemoved S t p out r o → Answers r.number (remove_conditions S t p (length out))
  remove-number {out} a = remove-answers (length out) a.number

  pub remove_confined : {out : List ℕ} {r : Written} {o : List ℕ} → RecordRemoved S t p out r o → Confined out r o
  remove_confined a = outputs.confined remove-fits (remove-writes a)

  pub remove_alike : {out : List ℕ} {r : Written} {o other : List ℕ} {s : Written} {u : List ℕ} → length out ≡ length other
      → RecordRemoved S t p out r o → RecordRemoved S t p other s u → Alike r o s u
  remove_alike e a b = outputs.alike remove-fits e (remove-writes a) (remove-writes b)

-- ---- "The hosted sending and receiving calls do a lookup first": its numbers, then those of the call on the record

-- shelf::hosted_send
pub hosted_send_number : {private public : List ℕ} {t p : ℕ} {block : List ℕ} {terms : Terms} {g : ℕ} {out : List ℕ} {r : Written} {o : List ℕ}
    → HostedSent private public t p block terms g out r o
    → Answers r.number (lookup_conditions private public t p ++ send_conditions (lookup_record private public t p) block terms g (length out))
unfolding send_number Refusals
hosted_send_number {private} {public} {t} {p} {block} {terms} {g} {out} h =
    hosted-answers h (send_conditions (lookup_record private public t p) block terms g (length out)) tt (λ s. s.number)

pub hosted_send_confined : {private public : List ℕ} {t p : ℕ} {block : List ℕ} {terms : Terms} {g : ℕ} {out : List ℕ} {r : Written} {o : List ℕ}
    → HostedSent private public t p block terms g out r o → Confined out r o
hosted_send_confined h = hosted-confined h (λ s. send-confined s)

pub hosted_send_alike : {private public : List ℕ} {t p : ℕ} {block : List ℕ} {terms : Terms} {g : ℕ} {out : List ℕ} {r : Written} {o other : List ℕ} {s : Written}
    {u : List ℕ} → length out ≡ length other → HostedSent private public t p block terms g out r o
    → HostedSent private public t p block terms g other s u → Alike r o s u
hosted_send_alike e h k = hosted-alike h k (λ a b. send-alike e a b)

-- shelf::hosted_receive
pub hosted_receive_number : {private public : List ℕ} {t p a : ℕ} {terms : Terms} {bits out : List ℕ} {r : Written} {o : List ℕ}
    → HostedReceived private public t p a terms bits out r o
    → Answers r.number (lookup_conditions private public t p ++ receive_conditions (lookup_record private public t p) a terms bits (length out))
unfolding receive_number Refusals
hosted_receive_number {private} {public} {t} {p} {a} {terms} {bits} {out} h =
    hosted-answers h (receive_conditions (lookup_record private public t p) a terms bits (length out)) tt (λ s. s.number)

pub hosted_receive_confined : {private public : List ℕ} {t p a : ℕ} {terms : Terms} {bits out : List ℕ} {r : Written} {o : List ℕ}
    → HostedReceived private public t p a terms bits out r o → Confined out r o
hosted_receive_confined h = hosted-confined h (λ s. receive-confined s)

pub hosted_receive_alike : {private public : List ℕ} {t p a : ℕ} {terms : Terms} {bits out : List ℕ} {r : Written} {o other : List ℕ} {s : Written} {u : List ℕ}
    → length out ≡ length other → HostedReceived private public t p a terms bits out r o
    → HostedReceived private public t p a terms bits other s u → Alike r o s u
hosted_receive_alike e h k = hosted-alike h k (λ a b. receive-alike e a b)

-- shelf::hosted_check
pub hosted_check_number : {private public : List ℕ} {t p z : ℕ} {word : List ℕ} {r : Verdict} → HostedChecked private public t p z word r
    → Answers r.number (lookup_conditions private public t p ++ check_conditions (lookup_record private public t p) z word)
unfolding check_number Refusals
hosted_check_number {private} {public} {t} {p} {z} {word} h =
    looked_answers private public t p (check_conditions (lookup_record private public t p) z word) tt (λ y. (h.found y).number)
    (λ n. ap (λ (v : Verdict). v.number) (h.refused n))

pub hosted_check_refused : {private public : List ℕ} {t p z : ℕ} {word : List ℕ} {r : Verdict} → HostedChecked private public t p z word r
    → (r.number ≡ 0 → ⊥) → r.checks ≡ false
hosted_check_refused {private} {public} {t} {p} h n =
    equal_or (lookup_number private public t p) 0
    (λ z. check_word_refused (h.found z) n)
    (λ m. ap (λ (v : Verdict). v.checks) (h.refused m))
