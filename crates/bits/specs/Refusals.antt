-- What an answer of the code says in document 01's numbers: "Where an answer is an enum, a definition gives this paper's number and values for each case".
use Rattle.std.specs.Prelude.{Result, Ok, Err, ℕ}
use Rattle.bits.specs.declared.number.Refusal.{Refusal}
use Rattle.bits.specs.declared.number.Refusal.TheVariants as r
use Rattle.bits.specs.declared.number.Written.{Written}

-- "Numbers that are answered": the number of each refusal
abbrev pub refusal_number : Refusal → ℕ
refusal_number r.TenantZero = 1
refusal_number r.PrivateShelf = 2
refusal_number r.PublicShelf = 3
refusal_number r.NoRecord = 4
refusal_number r.Profile = 5
refusal_number r.NoStaircase = 6
refusal_number r.BlockLength = 7
refusal_number r.Parameter = 8
refusal_number r.TooManyBlocks = 9
refusal_number r.TooFewPlaces = 10
refusal_number r.ShortOutput = 11
refusal_number r.NoBit = 12
refusal_number r.NoRoom = 13
refusal_number r.Unsent = 14
refusal_number r.Version = 16
refusal_number r.ControlLength = 17
refusal_number r.Edition = 19
refusal_number r.FullShelf = 26

-- "0, done", or the number of the refusal
abbrev pub number_of : {A : Type 0} → Result A Refusal → ℕ
number_of (Ok value) = 0
number_of (Err refusal) = refusal_number refusal

-- what comes with the number: "When it refuses, its other results are 0, or no"; `none` is that 0 or no
abbrev pub value_or : {A : Type 0} → A → Result A Refusal → A
value_or none (Ok value) = value
value_or none (Err refusal) = none

-- the answer of a call that writes: its number, and the count written
abbrev pub written : Result ℕ Refusal → Written
written answer = record { number = number_of answer; count = value_or 0 answer }
