-- What the functions promise that are told who asks for what; every other one has the promise of the call below as it is. t is the tenant and p the profile
-- number.
use Rattle.std.specs.Prelude.{◌≡◌, Bool, true, false, cond, ◌||◌, List, ℕ, ◌+◌, ◌≤◌, eqb, ltb, length, take, drop}
use Rattle.bits.specs.declared.number.Written.{Written}
use Rattle.shelf.specs.Lookup.{lookup_number, lookup_record, lookup_place}
use Rattle.abi.specs.declared.shelves.Stretch.{Stretch}

-- "All numbers here are two octets" (document 01, "Shelf and profile records"): of larger ones no shelf has a record. C hands larger ones over, and to cut one to
-- two octets would be to ask as somebody else
unfoldable pub too_large : ℕ → ℕ → Bool
too_large t p = ltb 65535 t || ltb 65535 p

-- where one is larger this, and else what the call below promises
pub record Held (t p : ℕ) (refused promised : Type 0) : Type 0 where
  pub large : too_large t p ≡ true → refused
  pub small : too_large t p ≡ false → promised

-- the number n, and nothing is written
pub record Nothing (n : ℕ) (out : List ℕ) (r : Written) (out' : List ℕ) : Type 0 where
  pub answer : r ≡ record { number = n; count = 0 }
  pub output : out' ≡ out

-- ---- lookup, where a reference cannot be handed back

-- the shelf that a number names: 1 the private one, 0 the public one
unfoldable pub named : List ℕ → List ℕ → ℕ → List ℕ
named private public s = cond (eqb s 1) private public

-- the stretch lies where `lookup` says, counted from the start of the private shelf, 1, or of the public one, 0; it is inside that shelf, and what stands there
-- is the record
pub record LookedUpAt (private public : List ℕ) (t p : ℕ) (r : Stretch) : Type 0 where
  pub number : r.number ≡ lookup_number private public t p
  pub place : (r.shelf, r.start) ≡ lookup_place private public t p (1, 0) (0, 0)
  pub inside : r.start + r.octets ≤ length (named private public r.shelf)
  pub found : take r.octets (drop r.start (named private public r.shelf)) ≡ lookup_record private public t p

-- "With a refusal it is the empty stretch at the start of the public shelf"
unfoldable pub refused_with : ℕ → Stretch
refused_with n = record { number = n; shelf = 0; start = 0; octets = 0 }
