-- The third demand, sentence by sentence: over `send` and `receive`, and over the hosted calls with the same shelves, tenant and profile number on both
-- sides.
use mathlib.Core.Path.{◌≡◌, refl}
use mathlib.Core.List.{List, ◌++◌}
use Prim.Native.Nat.{ℕ, ◌*◌, ◌≤◌}
use lib.ListN.{length, take, drop}
use Rattle.bits.specs.Bits.{AreBits, AreOctets}
use Rattle.bits.specs.declared.number.Written.{Written}
use Rattle.bits.specs.declared.count.Terms.{Terms}
use Rattle.coding.specs.Promises.{Sent, Received}
use Rattle.coding.specs.RoundTrip.{Roomy, NoneSentAs}
use Rattle.coding.proofs.RoundTrip.{sent_always, sent-apart, sent-returns, unsent-exactly}
use Rattle.shelf.specs.Lookup.{lookup_record}
use Rattle.shelf.specs.Promises.{HostedSent, HostedReceived}
use Rattle.shelf.proofs.Hosted.{hosted-found}
use Rattle.demands.proofs.Hosted.{planned-found}

-- "Take an accepted profile, block length and allocation in which every code block has room for all its coded bits that are not filler": Roomy, of
-- coding/specs/RoundTrip, with any redundancy version that the type may have (each by its number in Versions); "and a receiving buffer that holds the
-- block": octets ≤ length buf. Sending is into an output that holds the bits: g ≤ length out

-- ---- `send` and `receive`

-- every block is sent then: no number is left that could refuse it
pub sent : {R : List ℕ} (block : List ℕ) {terms : Terms} {g : ℕ} {out : List ℕ} {r : Written} {o : List ℕ}
    → Roomy R (length block) terms g → g ≤ length out → Sent R block terms g out r o → (r.number ≡ 0) × (r.count ≡ g)
sent block h room s = sent_always block h room s

-- "Two different transport blocks are never sent as the same bits"
pub apart : {R block block' : List ℕ} {terms : Terms} {g : ℕ} {out : List ℕ} {r : Written} {o out' : List ℕ} {r' : Written} {o' : List ℕ}
    → Roomy R (length block) terms g → AreOctets block → AreOctets block' → length block ≡ length block'
    → g ≤ length out → Sent R block terms g out r o → g ≤ length out' → Sent R block' terms g out' r' o'
    → take g o ≡ take g o' → block ≡ block'
apart h whole whole' size room s room' s' e = sent-apart h whole whole' size room s room' s' e

-- "receiving the sent bits returns the block"
pub returns : {R block : List ℕ} {terms : Terms} {g : ℕ} {out : List ℕ} {r : Written} {o buf : List ℕ} {r' : Written} {buf' : List ℕ}
    → Roomy R (length block) terms g → AreOctets block → length block ≤ length buf
    → g ≤ length out → Sent R block terms g out r o → Received R (8 * length block) terms (take g o) buf r' buf'
    → (r'.number ≡ 0) × (r'.count ≡ length block) × (take (length block) buf' ≡ block) × (buf' ≡ block ++ drop (length block) buf)
returns h whole fits room s v = sent-returns h whole fits room s v

-- "and received noughts and ones, as many as the allocation gives, are refused as unsent exactly when no transport block of that length is sent as
-- them, sending being that of the second demand"
pub exactly : {R : List ℕ} {octets : ℕ} {terms : Terms} {bits buf : List ℕ} {r : Written} {buf' : List ℕ}
    → Roomy R octets terms (length bits) → AreBits bits → octets ≤ length buf → Received R (8 * octets) terms bits buf r buf'
    → (r.number ≡ 14 → NoneSentAs (λ block out r out'. Sent R block terms (length bits) out r out') octets bits)
    × (NoneSentAs (λ block out r out'. Sent R block terms (length bits) out r out') octets bits → r.number ≡ 14)
exactly h single fits v = unsent-exactly h single fits v

-- ---- the hosted calls: R is the record that the tenant t is given for the profile number p

module _ {private public : List ℕ} {t p : ℕ} where
  -- every block is sent
  pub hosted-sent : (block : List ℕ) {terms : Terms} {g : ℕ} {out : List ℕ} {r : Written} {o : List ℕ}
      → Roomy (lookup_record private public t p) (length block) terms g → g ≤ length out
      → HostedSent private public t p block terms g out r o → (r.number ≡ 0) × (r.count ≡ g)
  hosted-sent block {terms} h room s = sent_always block h room (s.found (planned-found private public t p terms.edition (length block) h.taken))

  -- "Two different transport blocks are never sent as the same bits"
  pub hosted-apart : {block block' : List ℕ} {terms : Terms} {g : ℕ} {out : List ℕ} {r : Written} {o out' : List ℕ} {r' : Written} {o' : List ℕ}
      → Roomy (lookup_record private public t p) (length block) terms g → AreOctets block → AreOctets block' → length block ≡ length block'
      → g ≤ length out → HostedSent private public t p block terms g out r o
      → g ≤ length out' → HostedSent private public t p block' terms g out' r' o'
      → take g o ≡ take g o' → block ≡ block'
  hosted-apart {block = block} {terms = terms} h whole whole' size room s room' s' e =
      let z = planned-found private public t p terms.edition (length block) h.taken in
      sent-apart h whole whole' size room (s.found z) room' (s'.found z) e

  -- "receiving the sent bits returns the block"
  pub hosted-returns : {block : List ℕ} {terms : Terms} {g : ℕ} {out : List ℕ} {r : Written} {o buf : List ℕ} {r' : Written} {buf' : List ℕ}
      → Roomy (lookup_record private public t p) (length block) terms g → AreOctets block → length block ≤ length buf
      → g ≤ length out → HostedSent private public t p block terms g out r o
      → HostedReceived private public t p (8 * length block) terms (take g o) buf r' buf'
      → (r'.number ≡ 0) × (r'.count ≡ length block) × (take (length block) buf' ≡ block) × (buf' ≡ block ++ drop (length block) buf)
  hosted-returns {block = block} {terms = terms} h whole fits room s v =
      let z = planned-found private public t p terms.edition (length block) h.taken in
      sent-returns h whole fits room (s.found z) (v.found z)

  -- "and received noughts and ones, as many as the allocation gives, are refused as unsent exactly when no transport block of that length is sent
  -- as them, sending being that of the second demand"
  pub hosted-exactly : {octets : ℕ} {terms : Terms} {bits buf : List ℕ} {r : Written} {buf' : List ℕ}
      → Roomy (lookup_record private public t p) octets terms (length bits) → AreBits bits → octets ≤ length buf
      → HostedReceived private public t p (8 * octets) terms bits buf r buf'
      → (r.number ≡ 14 → NoneSentAs (λ block out r out'. HostedSent private public t p block terms (length bits) out r out') octets bits)
      × (NoneSentAs (λ block out r out'. HostedSent private public t p block terms (length bits) out r out') octets bits → r.number ≡ 14)
  hosted-exactly {octets} {terms} {bits} h single fits v =
      let z = planned-found private public t p terms.edition octets h.taken in
      let both_ways = unsent-exactly h single fits (v.found z) in (
        λ e block whole size out w out' room s. both_ways.0 e block whole size out w out' room (s.found z),
        λ none. both_ways.1 (λ block whole size out w out' room s. none block whole size out w out' room (hosted-found private public t p _ _ _ _ z _ refl s)),
      )
