-- The promises agree: two answers, stretches and outputs that meet one for the same input are equal; a stretch is its octets and its place.
use mathlib.Core.Path.{◌≡◌, sym, ◌∙◌}
use mathlib.Core.List.{List}
use Prim.Native.Nat.{ℕ}
use denote.Ref.{Bor}
use Rattle.bits.specs.declared.number.Written.{Written}
use Rattle.bits.specs.declared.count.Terms.{Terms}
use Rattle.bits.proofs.Ranges.{equal_or}
use Rattle.checking.specs.declared.Verdict.{Verdict}
use Rattle.checking.proofs.Agreement.{word_checked_agree}
use Rattle.coding.proofs.Agreement.{send-agree, receive-agree}
use Rattle.shelf.specs.Lookup.{lookup_number, lookup_record}
use Rattle.shelf.specs.Promises.{LookedUp, Hosted, HostedSent, HostedReceived, HostedChecked}

pub lookup_number_agree : (private public : List ℕ) (t p : ℕ) {r r' : ℕ}
    → r ≡ lookup_number private public t p → r' ≡ lookup_number private public t p → r ≡ r'
lookup_number_agree private public t p a b = a ∙ sym b

pub lookup-agree : {private public : Bor (List ℕ)} {t p : ℕ} {r r' : Bor (List ℕ)}
    → LookedUp private public t p r → LookedUp private public t p r' → (r.now ≡ r'.now) × (r.ref_ptr ≡ r'.ref_ptr)
lookup-agree a b = (a.octets ∙ sym b.octets, a.place ∙ sym b.place)

-- a hosted call's, where what is promised of the record agrees
hosted-agree : {private public : List ℕ} {t p : ℕ} {promised promised' : List ℕ → Type 0} {out : List ℕ} {r r' : Written} {o o' : List ℕ}
    → (promised (lookup_record private public t p) → promised' (lookup_record private public t p) → (r ≡ r') × (o ≡ o'))
    → Hosted private public t p promised out r o → Hosted private public t p promised' out r' o' → (r ≡ r') × (o ≡ o')
hosted-agree {private} {public} {t} {p} agree a b =
    equal_or (lookup_number private public t p) 0
    (λ z. agree (a.found z) (b.found z))
    (λ n. ((a.refused n).0 ∙ sym (b.refused n).0, (a.refused n).1 ∙ sym (b.refused n).1))

pub hosted_send_agree : {private public : List ℕ} {t p : ℕ} {block : List ℕ} {terms : Terms} {g : ℕ} {out : List ℕ} {r r' : Written} {o o' : List ℕ}
    → HostedSent private public t p block terms g out r o → HostedSent private public t p block terms g out r' o' → (r ≡ r') × (o ≡ o')
hosted_send_agree a b = hosted-agree (λ s s'. send-agree s s') a b

pub hosted_receive_agree : {private public : List ℕ} {t p a : ℕ} {terms : Terms} {bits out : List ℕ} {r r' : Written} {o o' : List ℕ}
    → HostedReceived private public t p a terms bits out r o → HostedReceived private public t p a terms bits out r' o' → (r ≡ r') × (o ≡ o')
hosted_receive_agree a b = hosted-agree (λ h h'. receive-agree h h') a b

pub hosted_check_agree : {private public : List ℕ} {t p z : ℕ} {word : List ℕ} {r r' : Verdict}
    → HostedChecked private public t p z word r → HostedChecked private public t p z word r' → r ≡ r'
hosted_check_agree {private} {public} {t} {p} a b =
    equal_or (lookup_number private public t p) 0
    (λ z. word_checked_agree (a.found z) (b.found z))
    (λ n. a.refused n ∙ sym (b.refused n))
