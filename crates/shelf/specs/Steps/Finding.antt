-- What a search comes to, and what a lookup comes to inside: the octets of one shelf from `at` on, and that they are what lookup answers.
use Rattle.std.specs.Prelude.{◌≡◌, Bool, false, Option, Some, None, Result, Ok, Err, cond, List, ℕ, ◌+◌, ◌≤◌, ◌<◌, length, take, drop}
use Rattle.bits.specs.declared.number.Refusal.{Refusal}
use Rattle.bits.specs.Refusals.{refusal_number}
use Rattle.shelf.specs.Shelf.{count, offset, size}
use Rattle.shelf.specs.Lookup.{has, entry_of, lookup_number, lookup_record, into, lookup_place}
use Rattle.shelf.specs.Steps.Walking.{pair}
use Rattle.shelf.specs.declared.inner.Found.{Found}

-- the pairs before entry `low` are below the one that is asked for, and those from entry `high` on are not
pub record Parted (S : List ℕ) (asked low high : ℕ) : Type 0 where
  pub inside : high ≤ count S
  pub below : (j : ℕ) → j < low → pair S j < asked
  pub others : (j : ℕ) → high ≤ j → j < count S → asked ≤ pair S j

-- the entry of t and p, where the shelf has one
abbrev pub Entry : List ℕ → ℕ → ℕ → Option ℕ → Type 0
Entry S t p (Some k) = (k ≡ entry_of S t p) × (k < count S)
Entry S t p None = has S t p ≡ false

unfoldable pub entry_found : Bool → List ℕ → ℕ → Found
entry_found own S k = record { own = own; at = offset S k; size = size S k }

-- the octets, and where they lie where the private shelf lies at q and the public one at r
unfoldable pub stretch_of : List ℕ → List ℕ → Found → List ℕ
stretch_of private public f = take f.size (drop f.at (cond f.own private public))

unfoldable pub place_of : ℕ × ℕ → ℕ × ℕ → Found → ℕ × ℕ
place_of q r f = into (cond f.own q r) f.at

-- they are there
pub record Inside (private public : List ℕ) (f : Found) : Type 0 where
  pub short : f.at + f.size ≤ 65535
  pub within : f.at + f.size ≤ length (cond f.own private public)

-- it is what lookup answers
pub record Located (private public : List ℕ) (t p : ℕ) (f : Found) : Type 0 where
  pub done : lookup_number private public t p ≡ 0
  pub octets : stretch_of private public f ≡ lookup_record private public t p
  pub place : (q r : ℕ × ℕ) → place_of q r f ≡ lookup_place private public t p q r
  pub inside : Inside private public f

-- a place, or the number that lookup answers
abbrev pub Looked : List ℕ → List ℕ → ℕ → ℕ → Result Found Refusal → Type 0
Looked private public t p (Ok f) = Located private public t p f
Looked private public t p (Err e) = refusal_number e ≡ lookup_number private public t p
