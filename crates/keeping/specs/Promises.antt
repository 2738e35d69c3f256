-- What the public calls promise, for all octets, lengths and numbers: S is the private shelf, t the tenant, p the profile number, R the record, and out' the
-- output after the call.
use Rattle.std.specs.Prelude.{◌≡◌, Bool, not, ◌||◌, List, [], ◌∷◌, ◌++◌, ℕ, eqb, ltb, length, drop}
use Rattle.bits.specs.Numbers.{answered, when_done}
use Rattle.bits.specs.declared.number.Written.{Written}
use Rattle.profile.specs.Record.{well_formed}
use Rattle.profile.specs.Staircase.{staircases}
use Rattle.shelf.specs.Shelf.{private_shelf}
use Rattle.shelf.specs.Lookup.{has}
use Rattle.keeping.specs.Entries.{Entry, shelf_of, entries_put, shelf_put, shelf_left}

-- "a count n (0 to 64)", "A shelf is at most 65,535 octets"
unfoldable pub overfull : List Entry → Bool
overfull es = ltb 64 (length es) || ltb 65535 (length (shelf_of es))

-- 1 "asking tenant is 0", 2 "private shelf not well formed", 5 "profile record not well formed", 6 "a table is no staircase", 26 no room on the shelf, 11 "output
-- shorter" than the new shelf
abbrev pub put_conditions : List ℕ → ℕ → ℕ → List ℕ → ℕ → List (ℕ × Bool)
put_conditions S t p R lent =
    (1, eqb t 0)
    ∷ (2, not (private_shelf S))
    ∷ (5, not (well_formed R))
    ∷ (6, not (staircases R))
    ∷ (26, overfull (entries_put S t p R))
    ∷ (11, ltb lent (length (shelf_put S t p R)))
    ∷ []

unfoldable pub put_number : List ℕ → ℕ → ℕ → List ℕ → ℕ → ℕ
put_number S t p R lent = answered (put_conditions S t p R lent)

-- 1, 2, 4 the shelf has no such record, 11
abbrev pub remove_conditions : List ℕ → ℕ → ℕ → ℕ → List (ℕ × Bool)
remove_conditions S t p lent =
    (1, eqb t 0)
    ∷ (2, not (private_shelf S))
    ∷ (4, not (has S t p))
    ∷ (11, ltb lent (length (shelf_left S t p)))
    ∷ []

unfoldable pub remove_number : List ℕ → ℕ → ℕ → ℕ → ℕ
remove_number S t p lent = answered (remove_conditions S t p lent)

-- the number n; the new shelf in front of the output, and how many octets it has; with a refusal nothing
pub record Kept (n : ℕ) (new out : List ℕ) (r : Written) (out' : List ℕ) : Type 0 where
  pub number : r.number ≡ n
  pub count : r.count ≡ when_done n (length new) 0
  pub output : out' ≡ when_done n (new ++ drop (length new) out) out

abbrev pub RecordPut : List ℕ → ℕ → ℕ → List ℕ → List ℕ → Written → List ℕ → Type 0
RecordPut S t p R out r out' = Kept (put_number S t p R (length out)) (shelf_put S t p R) out r out'

abbrev pub RecordRemoved : List ℕ → ℕ → ℕ → List ℕ → Written → List ℕ → Type 0
RecordRemoved S t p out r out' = Kept (remove_number S t p (length out)) (shelf_left S t p) out r out'
