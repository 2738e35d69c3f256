-- Where the entry of a tenant and a profile number stands on a shelf, or belongs, and what a change of the shelf comes to before it is written.
use Rattle.std.specs.Prelude.{◌≡◌, true, cond, ◌||◌, Result, Ok, Err, List, ℕ, ◌+◌, ◌-◌, ◌*◌, ◌≤◌, ◌<◌, eqb, ltb, length}
use Rattle.bits.specs.declared.number.Refusal.{Refusal}
use Rattle.bits.specs.Refusals.{refusal_number}
use Rattle.shelf.specs.Shelf.{count, size, private_shelf}
use Rattle.shelf.specs.Lookup.{has}
use Rattle.keeping.specs.Entries.{Entry, entries_from, before, after, shelf_of}
use Rattle.keeping.specs.declared.change.Change.{Change}

-- so many entries stand below the pair, and behind them the entry itself, where `gone` is 1, and then those above it
pub record Spotted (S : List ℕ) (t p at gone : ℕ) : Type 0 where
  pub inside : at + gone ≤ count S
  pub one : gone ≤ 1
  pub low : before S t p ≡ entries_from S at 0
  pub high : after S t p ≡ entries_from S (count S - (at + gone)) (at + gone)
  pub held : has S t p ≡ eqb gone 1

-- the octets of an entry that goes: its head and its record
unfoldable pub freed : List ℕ → ℕ → ℕ → ℕ
freed S at gone = gone * (8 + size S at)

-- 11 for an output that is shorter than n, else the place
abbrev pub Within : ℕ → ℕ → ℕ → ℕ → Result Change Refusal → Type 0
Within at gone n lent (Ok c) = (n ≤ lent) × (c.spot.at ≡ at) × (c.spot.gone ≡ gone) × (c.size ≡ n)
Within at gone n lent (Err e) = (lent < n) × (refusal_number e ≡ 11)

-- the octets of the new shelf, and 26 and 11 by it, where a record of m octets is put
unfoldable pub size_with : List ℕ → ℕ → ℕ → ℕ → ℕ
size_with S at gone m = length S - freed S at gone + 8 + m

unfoldable pub room_number : List ℕ → ℕ → ℕ → ℕ → ℕ → ℕ
room_number S at gone m lent =
    cond (ltb 64 (count S + 1 - gone) || ltb 65535 (size_with S at gone m)) 26 (cond (ltb lent (size_with S at gone m)) 11 0)

abbrev pub Roomed : List ℕ → ℕ → ℕ → ℕ → ℕ → Result Change Refusal → Type 0
Roomed S at gone m lent (Ok c) = (room_number S at gone m lent ≡ 0) × (c.spot.at ≡ at) × (c.spot.gone ≡ gone) × (c.size ≡ size_with S at gone m)
Roomed S at gone m lent (Err e) = refusal_number e ≡ room_number S at gone m lent

-- what is known once a change may be written: n is the octets of the new shelf
pub record Ready (S : List ℕ) (t p at gone : ℕ) (es : List Entry) (n lent : ℕ) : Type 0 where
  pub formed : private_shelf S ≡ true
  pub spot : Spotted S t p at gone
  pub few : length es ≤ 64
  pub size : n ≡ length (shelf_of es)
  pub short : n ≤ 65535
  pub room : n ≤ lent

-- the number n of a refusal, or what is known
abbrev pub Changes : List ℕ → ℕ → ℕ → List Entry → ℕ → ℕ → Result Change Refusal → Type 0
Changes S t p es lent n (Ok c) = (n ≡ 0) × Ready S t p c.spot.at c.spot.gone es c.size lent
Changes S t p es lent n (Err e) = refusal_number e ≡ n
