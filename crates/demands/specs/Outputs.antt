-- What the first demand says of the octets that are lent to a call to write to (document 01, "Numbers that are answered"): out is what they held, and
-- out' what they hold when it has answered r.
use Rattle.std.specs.Prelude.{◌≡◌, List, ℕ, ◌≤◌, length, take, drop}
use Rattle.bits.specs.declared.number.Written.{Written}

-- "A refused call changes no byte lent to it; an accepted one writes only the named stretch": "Octets past that count stay as they were"
pub record Confined (out : List ℕ) (r : Written) (out' : List ℕ) : Type 0 where
  pub refused : (r.number ≡ 0 → ⊥) → (r.count ≡ 0) × (out' ≡ out)
  pub within : r.count ≤ length out
  pub past : drop r.count out' ≡ drop r.count out
  pub size : length out' ≡ length out

-- "What the output held before decides no answer and no written octet": two runs give the same answer and write the same
pub record Alike (r : Written) (out' : List ℕ) (s : Written) (other' : List ℕ) : Type 0 where
  pub answer : r ≡ s
  pub octets : take r.count out' ≡ take s.count other'
