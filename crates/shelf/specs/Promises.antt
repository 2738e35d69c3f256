-- What the public calls promise, for all octets, lengths and numbers. t is the tenant and p the profile number.
use Rattle.std.specs.Prelude.{◌≡◌, false, Result, Ok, Err, List, [], ℕ}
use Rattle.std.specs.Borrow.{Bor}
use Rattle.bits.specs.declared.number.Refusal.{Refusal}
use Rattle.bits.specs.declared.number.Written.{Written}
use Rattle.bits.specs.declared.count.Terms.{Terms}
use Rattle.checking.specs.Promises.{WordChecked}
use Rattle.checking.specs.declared.Verdict.{Verdict}
use Rattle.coding.specs.Promises.{Sent, Received}
use Rattle.shelf.specs.Lookup.{lookup_number, lookup_record, lookup_place}

-- "With a refusal it is the empty stretch at the start of the public shelf"
abbrev pub stretch_or : Bor (List ℕ) → Result (Bor (List ℕ)) Refusal → Bor (List ℕ)
stretch_or public (Ok stretch) = stretch
stretch_or public (Err refusal) = record { ref_ptr = public.ref_ptr; now = [] }

-- the stretch: its octets (`now`), and where they lie (`ptr`), so that it is no copy
pub record LookedUp (private public : Bor (List ℕ)) (t p : ℕ) (r : Bor (List ℕ)) : Type 0 where
  pub octets : r.now ≡ lookup_record private.now public.now t p
  pub place : r.ref_ptr ≡ lookup_place private.now public.now t p private.ref_ptr public.ref_ptr

-- "The hosted sending and receiving calls do a lookup first": where it refuses, its number, and nothing is written; else what is promised of the record
pub record Hosted (private public : List ℕ) (t p : ℕ) (promised : List ℕ → Type 0) (out : List ℕ) (r : Written) (out' : List ℕ) : Type 0 where
  pub refused : (lookup_number private public t p ≡ 0 → ⊥) → (r ≡ record { number = lookup_number private public t p; count = 0 }) × (out' ≡ out)
  pub found : lookup_number private public t p ≡ 0 → promised (lookup_record private public t p)

abbrev pub HostedSent : List ℕ → List ℕ → ℕ → ℕ → List ℕ → Terms → ℕ → List ℕ → Written → List ℕ → Type 0
HostedSent private public t p block terms g out r out' = Hosted private public t p (λ R. Sent R block terms g out r out') out r out'

abbrev pub HostedReceived : List ℕ → List ℕ → ℕ → ℕ → ℕ → Terms → List ℕ → List ℕ → Written → List ℕ → Type 0
HostedReceived private public t p a terms bits out r out' = Hosted private public t p (λ R. Received R a terms bits out r out') out r out'

-- a check, the same way: it writes nothing, and where the lookup refuses the word is not said to check
pub record HostedChecked (private public : List ℕ) (t p z' : ℕ) (word : List ℕ) (r : Verdict) : Type 0 where
  pub refused : (lookup_number private public t p ≡ 0 → ⊥) → r ≡ record { number = lookup_number private public t p; checks = false }
  pub found : lookup_number private public t p ≡ 0 → WordChecked (lookup_record private public t p) z' word r
