-- "The lowest number that applies is answered", by every call of document 01 and those of CR 9, CR 4 and CR 8, 16 standing "between 7 and 8" as CR 3 has it
-- and 19 "before 7" as CR 8 has it, by the calls that keep a shelf, 26 standing before 11, and by those of CR 5 and CR 10, 17 standing before all others: their lists rise
-- by rank, so the first number whose condition holds is the lowest.
use mathlib.Core.Path.{◌≡◌, refl}
use mathlib.Core.List.{List, ◌++◌}
use Prim.Native.Nat.{ℕ}
use lib.ListN.{length}
use Rattle.bits.specs.declared.number.Written.{Written}
use Rattle.bits.specs.declared.count.Terms.{Terms}
use Rattle.checksum.specs.Promises.{bits_conditions, OfBits, octets_conditions, OfOctets}
use Rattle.checksum.specs.declared.Sum.{Sum}
use Rattle.blocksum.specs.Promises.{block_bits_conditions, OfBlockBits}
use Rattle.masked.specs.Promises.{SumUnder, append_conditions, Appended, WordTested}
use Rattle.masked.specs.declared.Tested.{Tested}
use Rattle.profile.specs.Promises.{judge_conditions, judged}
use Rattle.cutting.specs.Promises.{plan_conditions, planned}
use Rattle.cutting.specs.declared.Planned.{Planned}
use Rattle.parity.specs.Promises.{code_conditions, BlockCoded}
use Rattle.checking.specs.Promises.{check_conditions, WordChecked, sums_conditions, RowsSummed}
use Rattle.checking.specs.declared.Verdict.{Verdict}
use Rattle.matching.specs.Promises.{match_conditions, RateMatched}
use Rattle.control.specs.Promises.{code_word_conditions, WordCoded, match_streams_conditions, StreamsMatched, send_word_conditions, WordSent, streams_of_conditions, StreamsFound}
use Rattle.nearest.specs.Promises.{nearest_word_conditions, WordFound}
use Rattle.nearest.specs.declared.Found.{Found}
use Rattle.coding.specs.Promises.{send_conditions, Sent, receive_conditions, Received}
use Rattle.shelf.specs.Lookup.{lookup_conditions, lookup_number, lookup_record}
use Rattle.shelf.specs.Promises.{HostedSent, HostedReceived, HostedChecked}
use Rattle.keeping.specs.Promises.{put_conditions, RecordPut, remove_conditions, RecordRemoved}
use Rattle.demands.specs.Numbers.{rank, Lowest}
use Rattle.demands.proofs.Lowest.{rising, lowest}
use Rattle.demands.proofs.Demand1.{of_bits_number, of_octets_number, of_block_bits_number, sum_under_number, append-number, test-number, judge-number, plan_block_number, code_block_number, check_word_number, row_sums_number, rate_match_number, send-number, receive-number, lookup_number_number, hosted_send_number, hosted_receive_number, hosted_check_number, put-number, remove-number, code_word-number, match_streams-number, send_word-number, streams_of-number, nearest_word-number}

pub of_bits_lowest : {w : ℕ} {bits : List ℕ} {r : Sum} → OfBits w bits r
    → Lowest r.number (bits_conditions w bits)
unfolding rising rank
of_bits_lowest {w} {bits} a = lowest (bits_conditions w bits) refl (of_bits_number a)

pub of_octets_lowest : {w : ℕ} {octets : List ℕ} {r : Sum} → OfOctets w octets r
    → Lowest r.number (octets_conditions w)
unfolding rising rank
of_octets_lowest {w} a = lowest (octets_conditions w) refl (of_octets_number a)

pub of_block_bits_lowest : {bits : List ℕ} {r : Sum} → OfBlockBits bits r
    → Lowest r.number (block_bits_conditions bits)
unfolding rising rank
of_block_bits_lowest {bits} a = lowest (block_bits_conditions bits) refl (of_block_bits_number a)

pub sum_under_lowest : {w m : ℕ} {bits : List ℕ} {r : Sum} → SumUnder w m bits r
    → Lowest r.number (bits_conditions w bits)
unfolding rising rank
sum_under_lowest {w} {m} {bits} a = lowest (bits_conditions w bits) refl (sum_under_number a)

pub append-lowest : {w m : ℕ} {bits out : List ℕ} {r : Written} {o : List ℕ} → Appended w m bits out r o
    → Lowest r.number (append_conditions w bits (length out))
unfolding rising rank
append-lowest {w} {m} {bits} {out} a = lowest (append_conditions w bits (length out)) refl (append-number a)

pub test-lowest : {w m : ℕ} {word : List ℕ} {r : Tested} → WordTested w m word r
    → Lowest r.number (bits_conditions w word)
unfolding rising rank
test-lowest {w} {m} {word} a = lowest (bits_conditions w word) refl (test-number a)

pub judge-lowest : (R : List ℕ) {r : ℕ} → r ≡ judged R
    → Lowest r (judge_conditions R)
unfolding rising rank
judge-lowest R a = lowest (judge_conditions R) refl (judge-number R a)

pub plan_block_lowest : (R : List ℕ) (ed octets : ℕ) {r : Planned} → r ≡ planned R ed octets
    → Lowest r.number (plan_conditions R ed octets)
unfolding rising rank
plan_block_lowest R ed octets a = lowest (plan_conditions R ed octets) refl (plan_block_number R ed octets a)

pub code_block_lowest : {R : List ℕ} {z : ℕ} {places out : List ℕ} {r : Written} {o : List ℕ} → BlockCoded R z places out r o
    → Lowest r.number (code_conditions R z places (length out))
unfolding rising rank
code_block_lowest {R} {z} {places} {out} a = lowest (code_conditions R z places (length out)) refl (code_block_number a)

pub check_word_lowest : {R : List ℕ} {z : ℕ} {word : List ℕ} {r : Verdict} → WordChecked R z word r
    → Lowest r.number (check_conditions R z word)
unfolding rising rank
check_word_lowest {R} {z} {word} a = lowest (check_conditions R z word) refl (check_word_number a)

pub row_sums_lowest : {R : List ℕ} {z : ℕ} {word out : List ℕ} {r : Written} {o : List ℕ} → RowsSummed R z word out r o
    → Lowest r.number (sums_conditions R z word (length out))
unfolding rising rank
row_sums_lowest {R} {z} {word} {out} a = lowest (sums_conditions R z word (length out)) refl (row_sums_number a)

pub rate_match_lowest : {places : List ℕ} {kind rv e : ℕ} {out : List ℕ} {r : Written} {o : List ℕ} → RateMatched places kind rv e out r o
    → Lowest r.number (match_conditions places kind rv e (length out))
unfolding rising rank
rate_match_lowest {places} {kind} {rv} {e} {out} a = lowest (match_conditions places kind rv e (length out)) refl (rate_match_number a)

pub send-lowest : {R block : List ℕ} {terms : Terms} {g : ℕ} {out : List ℕ} {r : Written} {o : List ℕ} → Sent R block terms g out r o
    → Lowest r.number (send_conditions R block terms g (length out))
unfolding rising rank
send-lowest {R} {block} {terms} {g} {out} a = lowest (send_conditions R block terms g (length out)) refl (send-number a)

pub receive-lowest : {R : List ℕ} {a : ℕ} {terms : Terms} {bits out : List ℕ} {r : Written} {o : List ℕ} → Received R a terms bits out r o
    → Lowest r.number (receive_conditions R a terms bits (length out))
unfolding rising rank
receive-lowest {R} {a} {terms} {bits} {out} h = lowest (receive_conditions R a terms bits (length out)) refl (receive-number h)

pub lookup_number_lowest : (private public : List ℕ) (t p : ℕ) {r : ℕ} → r ≡ lookup_number private public t p
    → Lowest r (lookup_conditions private public t p)
unfolding rising rank
lookup_number_lowest private public t p a = lowest (lookup_conditions private public t p) refl (lookup_number_number private public t p a)

pub hosted_send_lowest : {private public : List ℕ} {t p : ℕ} {block : List ℕ} {terms : Terms} {g : ℕ} {out : List ℕ} {r : Written} {o : List ℕ} → HostedSent private public t p block terms g out r o
    → Lowest r.number (lookup_conditions private public t p ++ send_conditions (lookup_record private public t p) block terms g (length out))
unfolding rising rank
hosted_send_lowest {private} {public} {t} {p} {block} {terms} {g} {out} h = lowest (lookup_conditions private public t p ++ send_conditions (lookup_record private public t p) block terms g (length out)) refl (hosted_send_number h)

pub hosted_receive_lowest : {private public : List ℕ} {t p a : ℕ} {terms : Terms} {bits out : List ℕ} {r : Written} {o : List ℕ} → HostedReceived private public t p a terms bits out r o
    → Lowest r.number (lookup_conditions private public t p ++ receive_conditions (lookup_record private public t p) a terms bits (length out))
unfolding rising rank
hosted_receive_lowest {private} {public} {t} {p} {a} {terms} {bits} {out} h = lowest (lookup_conditions private public t p ++ receive_conditions (lookup_record private public t p) a terms bits (length out)) refl (hosted_receive_number h)

pub hosted_check_lowest : {private public : List ℕ} {t p z : ℕ} {word : List ℕ} {r : Verdict} → HostedChecked private public t p z word r
    → Lowest r.number (lookup_conditions private public t p ++ check_conditions (lookup_record private public t p) z word)
unfolding rising rank
hosted_check_lowest {private} {public} {t} {p} {z} {word} h = lowest (lookup_conditions private public t p ++ check_conditions (lookup_record private public t p) z word) refl (hosted_check_number h)

pub put_lowest : (S : List ℕ) (t p : ℕ) (R : List ℕ) {out : List ℕ} {r : Written} {o : List ℕ} → RecordPut S t p R out r o
    → Lowest r.number (put_conditions S t p R (length out))
unfolding rising rank
put_lowest S t p R {out} a = lowest (put_conditions S t p R (length out)) refl (put-number S t p R a)

pub remove_lowest : (S : List ℕ) (t p : ℕ) {out : List ℕ} {r : Written} {o : List ℕ} → RecordRemoved S t p out r o
    → Lowest r.number (remove_conditions S t p (length out))
unfolding rising rank
remove_lowest S t p {out} a = lowest (remove_conditions S t p (length out)) refl (remove-number S t p a)

pub code_word_lowest : (c : List ℕ) {out : List ℕ} {r : Written} {o : List ℕ} → WordCoded c out r o
    → Lowest r.number (code_word_conditions c (length out))
unfolding rising rank
code_word_lowest c {out} a = lowest (code_word_conditions c (length out)) refl (code_word-number c a)

pub match_streams_lowest : (D : ℕ) (S : List ℕ) (e : ℕ) {out : List ℕ} {r : Written} {o : List ℕ} → StreamsMatched D S e out r o
    → Lowest r.number (match_streams_conditions D S e (length out))
unfolding rising rank
match_streams_lowest D S e {out} a = lowest (match_streams_conditions D S e (length out)) refl (match_streams-number D S e a)

pub send_word_lowest : (c : List ℕ) (e : ℕ) {out : List ℕ} {r : Written} {o : List ℕ} → WordSent c e out r o
    → Lowest r.number (send_word_conditions c e (length out))
unfolding rising rank
send_word_lowest c e {out} a = lowest (send_word_conditions c e (length out)) refl (send_word-number c e a)

pub streams_of_lowest : (D : ℕ) (bits : List ℕ) {out : List ℕ} {r : Written} {o : List ℕ} → StreamsFound D bits out r o
    → Lowest r.number (streams_of_conditions D bits (length out))
unfolding rising rank
streams_of_lowest D bits {out} a = lowest (streams_of_conditions D bits (length out)) refl (streams_of-number D bits a)

pub nearest_word_lowest : (D : ℕ) (heard : List ℕ) {out : List ℕ} {r : Found} {o : List ℕ} → WordFound D heard out r o
    → Lowest r.number (nearest_word_conditions D heard (length out))
unfolding rising rank
nearest_word_lowest D heard {out} a = lowest (nearest_word_conditions D heard (length out)) refl (nearest_word-number D heard a)
