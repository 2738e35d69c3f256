-- The second demand, sentence by sentence, over the promises of the calls.
use mathlib.Core.Path.{◌≡◌, sym, ◌∙◌, subst}
use mathlib.Core.Bool.{true, false}
use mathlib.Core.List.{List}
use mathlib.Core.Logic.{◌⊎◌, inl}
use Prim.Native.Nat.{ℕ, ◌+◌, ◌-◌, ◌*◌, ◌≤◌, ◌<◌}
use native.Mathlib.Nat.{le_refl}
use native.Mathlib.Omega.{arith}
use denote.Ref.{Bor}
use lib.ListN.{length, take}
use Rattle.bits.specs.Counts.{ceil}
use Rattle.bits.specs.Ranges.{sum_below}
use Rattle.bits.specs.declared.number.Written.{Written}
use Rattle.bits.specs.declared.count.Terms.{Terms}
use Rattle.bits.proofs.Answers.{when-done}
use Rattle.bits.proofs.Ranges.{below_or, last_or}
use Rattle.profile.specs.Record.{kb, t, z}
use Rattle.cutting.specs.Plan.{block_bits, sum_bits, blocks, size_index}
use Rattle.cutting.specs.Promises.{plan_number}
use Rattle.cutting.proofs.Plans.{plan-cut}
use Rattle.coding.specs.Allocation.{misallocated, share}
use Rattle.coding.specs.Promises.{send_number, Sent, Received}
use Rattle.coding.specs.Steps.Shares.{Allocated}
use Rattle.coding.proofs.Shares.{allocated, shares_all}
use Rattle.coding.proofs.Answers.{send-planned, send-allocated}
use Rattle.coding.proofs.RoundTrip.{sent_front}
use Rattle.shelf.specs.Shelf.{private_shelf}
use Rattle.shelf.specs.Lookup.{lookup_number, lookup_record}
use Rattle.shelf.specs.Promises.{LookedUp, HostedSent, HostedReceived}
use Rattle.shelf.specs.Isolation.{Own, Public, AgreeFor, AlikeFor}
use Rattle.shelf.proofs.Agreement.{hosted_send_agree, hosted_receive_agree}
use Rattle.shelf.proofs.Hosted.{looked_up, hosted_promised}
use Rattle.shelf.proofs.Isolation.{same_number, same_record, same_place, same_promise, public-none, served}
use Rattle.demands.specs.Steps.{Steps}
use Rattle.demands.proofs.Steps.{steps, steps-only}

-- ---- "Sending gives bit for bit what 5G.212 v2.3 defines, as document 01 states it"

module _ {R block : List ℕ} {terms : Terms} {g : ℕ} {out : List ℕ} {r : Written} {o : List ℕ} (s : Sent R block terms g out r o) (done : r.number ≡ 0) where
  passed : plan_number R terms.edition (length block) ≡ 0
  passed = send-planned R block terms g (length out) (sym s.number ∙ done)

  given : Allocated terms g (blocks R terms.edition (block_bits (length block)))
  given = send-allocated R block terms g (length out) (sym s.number ∙ done)

  -- where sending answers 0 (when it does is in Demand1), G octets are written, and they follow the six steps
  pub sends : (r.count ≡ g) × (Steps R block terms g (take g o))
  sends = (
    s.count ∙ when-done (send_number R block terms g (length out)) g 0 (sym s.number ∙ done),
    subst (Steps R block terms g) (sym (sent_front s done)) (steps R block terms passed g given),
  )

  -- and no other bits follow them
  pub sends-only : (bits : List ℕ) → Steps R block terms g bits → bits ≡ take g o
  sends-only bits h = steps-only R block terms passed g given bits h ∙ sym (sent_front s done)

-- the same over the hosted call, with the record that was found
module _ {private public : List ℕ} {t p : ℕ} {block : List ℕ} {terms : Terms} {g : ℕ} {out : List ℕ} {r : Written} {o : List ℕ}
    (h : HostedSent private public t p block terms g out r o) (done : r.number ≡ 0) where
  pub hosted-sends : (r.count ≡ g) × (Steps (lookup_record private public t p) block terms g (take g o))
  hosted-sends = sends (hosted_promised h (inl done)) done

  pub hosted_sends_only : (bits : List ℕ) → Steps (lookup_record private public t p) block terms g bits → bits ≡ take g o
  hosted_sends_only bits s = sends-only (hosted_promised h (inl done)) done bits s

-- "the shares now add up to G" (document 02, CR 1): in every allocation that 8 does not refuse, among any blocks
pub shares_are_all : (terms : Terms) (g c : ℕ) → misallocated terms g ≡ false → 0 < c → sum_below c (λ r. (share terms g c r).0) ≡ g
shares_are_all terms g c right some = shares_all terms g c (allocated terms g c right some)

-- "Kmax is kb times the largest z", "the smallest z with kb·z ≥ ceil(B/C)", and with checksums "the smallest that holds ceil(B/C) + 24" (CR 8): the last of an
-- accepted record's sizes is the largest, and the one that is chosen is enough and the smallest that is
module _ (R : List ℕ) (ed octets : ℕ) (taken : plan_number R ed octets ≡ 0) where
  pub largest : (j : ℕ) → j < t R → z R j ≤ z R (t R - 1)
  largest j l = last_or j (t R - 1) (omega arith) (λ b. let up = (plan-cut R ed octets taken).known.rise j (t R - 1) b (omega arith) in omega arith) (λ e. rw e (le_refl _))

  pub enough : ceil (block_bits octets) (blocks R ed (block_bits octets)) + sum_bits R ed (block_bits octets) ≤ kb R * z R (size_index R ed (block_bits octets))
  enough = let cut = plan-cut R ed octets taken in omega (arith, cut.room, cut.product)

  pub smallest : (j : ℕ) → j < t R → ceil (block_bits octets) (blocks R ed (block_bits octets)) + sum_bits R ed (block_bits octets) ≤ kb R * z R j
      → z R (size_index R ed (block_bits octets)) ≤ z R j
  smallest j l h =
      let cut = plan-cut R ed octets taken in
      below_or j (size_index R ed (block_bits octets))
      (λ b. absurd (omega (arith, cut.least j b)))
      (λ b. last_or (size_index R ed (block_bits octets)) j (omega arith)
      (λ o. let up = cut.known.rise (size_index R ed (block_bits octets)) j o l in omega arith) (λ e. rw e (le_refl _)))

-- "and receiving undoes it where every code block has room": Demand3, returns and hosted-returns

-- ---- "A tenant is served from its own private records or the public shelf."

-- what is looked up is the record of an entry of the private shelf with that tenant and that profile number, or, where there is none, of an entry of
-- the public shelf with that profile number
pub lookup-served : {private public : Bor (List ℕ)} {t p : ℕ} {r : Bor (List ℕ)} → LookedUp private public t p r
    → lookup_number private.now public.now t p ≡ 0 → Own private.now t p r.now ⊎ Public private.now public.now t p r.now
lookup-served {private} {public} {t} {p} a z =
    subst (λ (R : List ℕ). Own private.now t p R ⊎ Public private.now public.now t p R) (sym a.octets) (served private.now public.now t p z)

-- and the hosted calls do with that record what `send` and `receive` promise of it, unless they answer one of lookup's numbers, 1 to 4
pub send-served : {private public : List ℕ} {t p : ℕ} {block : List ℕ} {terms : Terms} {g : ℕ} {out : List ℕ} {r : Written} {o : List ℕ}
    → HostedSent private public t p block terms g out r o → (r.number ≡ 0) ⊎ (4 < r.number)
    → (Own private t p (lookup_record private public t p) ⊎ Public private public t p (lookup_record private public t p))
    × Sent (lookup_record private public t p) block terms g out r o
send-served {private} {public} {t} {p} h other = (served private public t p (looked_up h other), hosted_promised h other)

pub receive-served : {private public : List ℕ} {t p a : ℕ} {terms : Terms} {bits out : List ℕ} {r : Written} {o : List ℕ}
    → HostedReceived private public t p a terms bits out r o → (r.number ≡ 0) ⊎ (4 < r.number)
    → (Own private t p (lookup_record private public t p) ⊎ Public private public t p (lookup_record private public t p))
    × Received (lookup_record private public t p) a terms bits out r o
receive-served {private} {public} {t} {p} h other = (served private public t p (looked_up h other), hosted_promised h other)

-- ---- "Two well-formed private shelves that agree on that tenant's records give it the same answers and bits, with all else equal."

abbrev both-formed : {t : ℕ} {S S' : List ℕ} → private_shelf S ≡ true → private_shelf S' ≡ true → AgreeFor t S S' → AlikeFor t S S'
both-formed formed formed' agree = record { formed = formed ∙ sym formed'; agree = agree }

-- the same octets, and where they are the public record's the same place
pub lookup-isolated : {private private' public : Bor (List ℕ)} {t p : ℕ} {r r' : Bor (List ℕ)}
    → private_shelf private.now ≡ true → private_shelf private'.now ≡ true → AgreeFor t private.now private'.now
    → LookedUp private public t p r → LookedUp private' public t p r'
    → (r.now ≡ r'.now) × (Public private.now public.now t p r.now → r.ref_ptr ≡ r'.ref_ptr)
lookup-isolated {private} {private'} {public} {t} {p} formed formed' agree a b =
    let alike = both-formed formed formed' agree in (
      a.octets ∙ same_record alike public.now p ∙ sym b.octets,
      λ h. a.place ∙ same_place alike public.now p (public-none h) private.ref_ptr private'.ref_ptr public.ref_ptr ∙ sym b.place,
    )

module _ {t : ℕ} {S S' : List ℕ} (formed : private_shelf S ≡ true) (formed' : private_shelf S' ≡ true) (agree : AgreeFor t S S')
    (public : List ℕ) (p : ℕ) where
  pub lookup_number_isolated : {n n' : ℕ} → n ≡ lookup_number S public t p → n' ≡ lookup_number S' public t p → n ≡ n'
  lookup_number_isolated a b = a ∙ same_number (both-formed formed formed' agree) public p ∙ sym b

  pub send-isolated : {block : List ℕ} {terms : Terms} {g : ℕ} {out : List ℕ} {r r' : Written} {o o' : List ℕ}
      → HostedSent S public t p block terms g out r o → HostedSent S' public t p block terms g out r' o' → (r ≡ r') × (o ≡ o')
  send-isolated a b = hosted_send_agree (same_promise (both-formed formed formed' agree) public p a) b

  pub receive-isolated : {a : ℕ} {terms : Terms} {bits out : List ℕ} {r r' : Written} {o o' : List ℕ}
      → HostedReceived S public t p a terms bits out r o → HostedReceived S' public t p a terms bits out r' o' → (r ≡ r') × (o ≡ o')
  receive-isolated a b = hosted_receive_agree (same_promise (both-formed formed formed' agree) public p a) b
