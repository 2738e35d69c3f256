-- Agreement (document 01, "What the promises say"): "For every input, good or refused, a public call's promise names one result and one content of
-- the lent memory, so that two implementations meeting it agree; that agreement is proved". Here for every public call.
use mathlib.Core.Path.{◌≡◌, sym, ◌∙◌}
use mathlib.Core.Bool.{Bool, false}
use mathlib.Core.List.{List}
use Prim.Native.Nat.{ℕ}
use denote.Ref.{Bor}
use Rattle.bits.specs.declared.number.Written.{Written}
use Rattle.bits.specs.declared.count.Terms.{Terms}
use Rattle.checksum.specs.Promises.{OfBits, OfOctets}
use Rattle.checksum.specs.declared.Sum.{Sum}
use Rattle.checksum.proofs.Agreement.{of_bits_agree, of_octets_agree}
use Rattle.blocksum.specs.Promises.{OfBlockBits}
use Rattle.blocksum.proofs.Agreement.{of_block_bits_agree}
use Rattle.masked.specs.Promises.{SumUnder, Appended, WordTested}
use Rattle.masked.specs.declared.Tested.{Tested}
use Rattle.masked.proofs.Agreement.{sum_under_agree, append-agree, test-agree}
use Rattle.profile.specs.Promises.{judged}
use Rattle.profile.proofs.Agreement.{judge-agree}
use Rattle.cutting.specs.Promises.{planned}
use Rattle.cutting.specs.declared.Planned.{Planned}
use Rattle.cutting.proofs.Agreement.{planned-agree}
use Rattle.parity.specs.Promises.{BlockCoded}
use Rattle.parity.proofs.Agreement.{block_coded_agree}
use Rattle.checking.specs.Promises.{WordChecked, RowsSummed}
use Rattle.checking.specs.declared.Verdict.{Verdict}
use Rattle.checking.proofs.Agreement.{word_checked_agree, rows_summed_agree}
use Rattle.matching.specs.Promises.{RateMatched}
use Rattle.matching.proofs.Agreement.{rate_match_agree}
use Rattle.control.specs.Promises.{WordCoded, StreamsMatched, WordSent, StreamsFound}
use Rattle.control.proofs.Agreement.{wrote_agree}
use Rattle.nearest.specs.Promises.{WordFound}
use Rattle.nearest.specs.declared.Found.{Found}
use Rattle.nearest.proofs.Agreement.{found-agree}
use Rattle.coding.specs.Promises.{Sent, Received}
use Rattle.coding.proofs.Agreement.{send-agree, receive-agree}
use Rattle.shelf.specs.Lookup.{lookup_number}
use Rattle.shelf.specs.Promises.{LookedUp, HostedSent, HostedReceived, HostedChecked}
use Rattle.shelf.proofs.Agreement.{lookup_number_agree, lookup-agree, hosted_send_agree, hosted_receive_agree, hosted_check_agree}
use Rattle.abi.specs.Promises.{Held, Nothing, LookedUpAt, refused_with}
use Rattle.abi.specs.declared.shelves.Stretch.{Stretch}
use Rattle.abi.proofs.Agreement.{lookup_at_agree, held-agree, nothing-agree}
use Rattle.keeping.specs.Promises.{RecordPut, RecordRemoved}
use Rattle.keeping.proofs.Agreement.{put_agree, remove_agree}
use Rattle.rules.specs.Promises.{ShelfRule, RecordRule}
use Rattle.rules.specs.declared.Broken.{Broken}
use Rattle.rules.specs.declared.Wrong.{Wrong}
use Rattle.rules.proofs.Agreement.{shelf_rule_agree, record_rule_agree}
use Rattle.advice.specs.Promises.{LeastRoom}
use Rattle.advice.specs.declared.Advised.{Advised}
use Rattle.advice.proofs.Agreement.{least-agree}

-- ---- checksum::of_bits, checksum::of_octets

pub of-bits : {w : ℕ} {bits : List ℕ} {r r' : Sum} → OfBits w bits r → OfBits w bits r' → r ≡ r'
of-bits a b = of_bits_agree a b

pub of-octets : {w : ℕ} {octets : List ℕ} {r r' : Sum} → OfOctets w octets r → OfOctets w octets r' → r ≡ r'
of-octets a b = of_octets_agree a b

-- ---- blocksum::of_block_bits

pub of_block-bits : {bits : List ℕ} {r r' : Sum} → OfBlockBits bits r → OfBlockBits bits r' → r ≡ r'
of_block-bits a b = of_block_bits_agree a b

-- ---- masked::sum_under, masked::append, masked::test

pub sum-under : {w m : ℕ} {bits : List ℕ} {r r' : Sum} → SumUnder w m bits r → SumUnder w m bits r' → r ≡ r'
sum-under a b = sum_under_agree a b

pub append : {w m : ℕ} {bits out : List ℕ} {r r' : Written} {o o' : List ℕ}
    → Appended w m bits out r o → Appended w m bits out r' o' → (r ≡ r') × (o ≡ o')
append a b = append-agree a b

pub test : {w m : ℕ} {word : List ℕ} {r r' : Tested} → WordTested w m word r → WordTested w m word r' → r ≡ r'
test a b = test-agree a b

-- ---- profile::judge, cutting::plan_block

pub judge : (R : List ℕ) {r r' : ℕ} → r ≡ judged R → r' ≡ judged R → r ≡ r'
judge R a b = judge-agree R a b

pub plan-block : (R : List ℕ) (ed octets : ℕ) {r r' : Planned} → r ≡ planned R ed octets → r' ≡ planned R ed octets → r ≡ r'
plan-block R ed octets a b = planned-agree R ed octets a b

-- ---- parity::code_block, checking::check_word, checking::row_sums

pub code-block : {R : List ℕ} {z : ℕ} {places out : List ℕ} {r r' : Written} {o o' : List ℕ}
    → BlockCoded R z places out r o → BlockCoded R z places out r' o' → (r ≡ r') × (o ≡ o')
code-block a b = block_coded_agree a b

pub check-word : {R : List ℕ} {z : ℕ} {word : List ℕ} {r r' : Verdict} → WordChecked R z word r → WordChecked R z word r' → r ≡ r'
check-word a b = word_checked_agree a b

pub row-sums : {R : List ℕ} {z : ℕ} {word out : List ℕ} {r r' : Written} {o o' : List ℕ}
    → RowsSummed R z word out r o → RowsSummed R z word out r' o' → (r ≡ r') × (o ≡ o')
row-sums a b = rows_summed_agree a b

-- ---- matching::rate_match, coding::send, coding::receive

pub rate-match : {coded : List ℕ} {kind rv e : ℕ} {out : List ℕ} {r r' : Written} {o o' : List ℕ}
    → RateMatched coded kind rv e out r o → RateMatched coded kind rv e out r' o' → (r ≡ r') × (o ≡ o')
rate-match a b = rate_match_agree a b

pub send : {R block : List ℕ} {terms : Terms} {g : ℕ} {out : List ℕ} {r r' : Written} {o o' : List ℕ}
    → Sent R block terms g out r o → Sent R block terms g out r' o' → (r ≡ r') × (o ≡ o')
send a b = send-agree a b

pub receive : {R : List ℕ} {a : ℕ} {terms : Terms} {bits out : List ℕ} {r r' : Written} {o o' : List ℕ}
    → Received R a terms bits out r o → Received R a terms bits out r' o' → (r ≡ r') × (o ≡ o')
receive a b = receive-agree a b

-- ---- control::code_word, control::match_streams, control::send_word, control::streams_of

pub code-word : (c : List ℕ) {out : List ℕ} {r r' : Written} {o o' : List ℕ} → WordCoded c out r o → WordCoded c out r' o' → (r ≡ r') × (o ≡ o')
code-word c a b = wrote_agree a b

pub match-streams : (D : ℕ) (S : List ℕ) (e : ℕ) {out : List ℕ} {r r' : Written} {o o' : List ℕ}
    → StreamsMatched D S e out r o → StreamsMatched D S e out r' o' → (r ≡ r') × (o ≡ o')
match-streams D S e a b = wrote_agree a b

pub send-word : (c : List ℕ) (e : ℕ) {out : List ℕ} {r r' : Written} {o o' : List ℕ} → WordSent c e out r o → WordSent c e out r' o' → (r ≡ r') × (o ≡ o')
send-word c e a b = wrote_agree a b

pub streams-of : (D : ℕ) (bits : List ℕ) {out : List ℕ} {r r' : Written} {o o' : List ℕ} → StreamsFound D bits out r o → StreamsFound D bits out r' o' → (r ≡ r') × (o ≡ o')
streams-of D bits a b = wrote_agree a b

-- ---- nearest::nearest_word

pub nearest-word : (D : ℕ) (heard : List ℕ) {out : List ℕ} {r r' : Found} {o o' : List ℕ} → WordFound D heard out r o → WordFound D heard out r' o' → (r ≡ r') × (o ≡ o')
nearest-word D heard a b = found-agree a b

-- ---- advice::least_bits

pub least-bits : {R : List ℕ} {octets : ℕ} {terms : Terms} {r r' : Advised} → LeastRoom R octets terms r → LeastRoom R octets terms r' → r ≡ r'
least-bits a b = least-agree a b

-- ---- the number of shelf::lookup, shelf::lookup (a stretch is its octets and its place), shelf::hosted_send, shelf::hosted_receive,
-- shelf::hosted_check

pub lookup-number : (private public : List ℕ) (t p : ℕ) {r r' : ℕ} → r ≡ lookup_number private public t p → r' ≡ lookup_number private public t p → r ≡ r'
lookup-number private public t p a b = lookup_number_agree private public t p a b

pub lookup : {private public : Bor (List ℕ)} {t p : ℕ} {r r' : Bor (List ℕ)}
    → LookedUp private public t p r → LookedUp private public t p r' → (r.now ≡ r'.now) × (r.ref_ptr ≡ r'.ref_ptr)
lookup a b = lookup-agree a b

pub hosted-send : {private public : List ℕ} {t p : ℕ} {block : List ℕ} {terms : Terms} {g : ℕ} {out : List ℕ} {r r' : Written} {o o' : List ℕ}
    → HostedSent private public t p block terms g out r o → HostedSent private public t p block terms g out r' o' → (r ≡ r') × (o ≡ o')
hosted-send a b = hosted_send_agree a b

pub hosted-receive : {private public : List ℕ} {t p a : ℕ} {terms : Terms} {bits out : List ℕ} {r r' : Written} {o o' : List ℕ}
    → HostedReceived private public t p a terms bits out r o → HostedReceived private public t p a terms bits out r' o' → (r ≡ r') × (o ≡ o')
hosted-receive a b = hosted_receive_agree a b

pub hosted-check : {private public : List ℕ} {t p z : ℕ} {word : List ℕ} {r r' : Verdict}
    → HostedChecked private public t p z word r → HostedChecked private public t p z word r' → r ≡ r'
hosted-check a b = hosted_check_agree a b

-- ---- keeping::put_record, keeping::remove_record

pub put_record : (S : List ℕ) (t p : ℕ) (R : List ℕ) {out : List ℕ} {r r' : Written} {o o' : List ℕ}
    → RecordPut S t p R out r o → RecordPut S t p R out r' o' → (r ≡ r') × (o ≡ o')
put_record S t p R a b = put_agree S t p R a b

pub remove-record : (S : List ℕ) (t p : ℕ) {out : List ℕ} {r r' : Written} {o o' : List ℕ}
    → RecordRemoved S t p out r o → RecordRemoved S t p out r' o' → (r ≡ r') × (o ≡ o')
remove-record S t p a b = remove_agree S t p a b

-- ---- rules::of_shelf, rules::of_record

pub of-shelf : {private : Bool} {S : List ℕ} {r r' : Broken} → ShelfRule private S r → ShelfRule private S r' → r ≡ r'
of-shelf a b = shelf_rule_agree a b

pub of-record : {R : List ℕ} {r r' : Wrong} → RecordRule R r → RecordRule R r' → r ≡ r'
of-record a b = record_rule_agree a b

-- ---- those functions of abi that are told who asks for what; every other one has the promise of the call below

pub kuambyte_lookup-number : (private public : List ℕ) (t p : ℕ) {r r' : ℕ}
    → Held t p (r ≡ 4) (r ≡ lookup_number private public t p) → Held t p (r' ≡ 4) (r' ≡ lookup_number private public t p) → r ≡ r'
kuambyte_lookup-number private public t p a b = held-agree (λ x y. x ∙ sym y) (λ x y. x ∙ sym y) a b

pub kuambyte-lookup : {private public : List ℕ} {t p : ℕ} {r r' : Stretch}
    → Held t p (r ≡ refused_with 4) (LookedUpAt private public t p r) → Held t p (r' ≡ refused_with 4) (LookedUpAt private public t p r') → r ≡ r'
kuambyte-lookup a b = held-agree (λ x y. x ∙ sym y) (λ x y. lookup_at_agree x y) a b

pub kuambyte_put-record : (S : List ℕ) (t p : ℕ) (R : List ℕ) {out : List ℕ} {r r' : Written} {o o' : List ℕ}
    → Held t p (Nothing 26 out r o) (RecordPut S t p R out r o)
    → Held t p (Nothing 26 out r' o') (RecordPut S t p R out r' o')
    → (r ≡ r') × (o ≡ o')
kuambyte_put-record S t p R a b = held-agree (λ x y. nothing-agree x y) (λ x y. put_agree S t p R x y) a b

pub kuambyte_remove-record : (S : List ℕ) (t p : ℕ) {out : List ℕ} {r r' : Written} {o o' : List ℕ}
    → Held t p (Nothing 4 out r o) (RecordRemoved S t p out r o)
    → Held t p (Nothing 4 out r' o') (RecordRemoved S t p out r' o')
    → (r ≡ r') × (o ≡ o')
kuambyte_remove-record S t p a b = held-agree (λ x y. nothing-agree x y) (λ x y. remove_agree S t p x y) a b

pub kuambyte_hosted-send : {private public : List ℕ} {t p : ℕ} {block : List ℕ} {terms : Terms} {g : ℕ} {out : List ℕ} {r r' : Written} {o o' : List ℕ}
    → Held t p (Nothing 4 out r o) (HostedSent private public t p block terms g out r o)
    → Held t p (Nothing 4 out r' o') (HostedSent private public t p block terms g out r' o')
    → (r ≡ r') × (o ≡ o')
kuambyte_hosted-send a b = held-agree (λ x y. nothing-agree x y) (λ x y. hosted_send_agree x y) a b

pub kuambyte_hosted-receive : {private public : List ℕ} {t p a : ℕ} {terms : Terms} {bits out : List ℕ} {r r' : Written} {o o' : List ℕ}
    → Held t p (Nothing 4 out r o) (HostedReceived private public t p a terms bits out r o)
    → Held t p (Nothing 4 out r' o') (HostedReceived private public t p a terms bits out r' o')
    → (r ≡ r') × (o ≡ o')
kuambyte_hosted-receive a b = held-agree (λ x y. nothing-agree x y) (λ x y. hosted_receive_agree x y) a b

pub kuambyte_hosted-check : {private public : List ℕ} {t p z : ℕ} {word : List ℕ} {r r' : Verdict}
    → Held t p (r ≡ record { number = 4; checks = false }) (HostedChecked private public t p z word r)
    → Held t p (r' ≡ record { number = 4; checks = false }) (HostedChecked private public t p z word r')
    → r ≡ r'
kuambyte_hosted-check a b = held-agree (λ x y. x ∙ sym y) (λ x y. hosted_check_agree x y) a b
