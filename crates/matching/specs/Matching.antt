-- Step 6 of document 01: rate matching of one coded block, from the start that document 02, CR 3, gives it.
use Rattle.std.specs.Prelude.{Bool, cond, ◌&&◌, ◌||◌, List, [], ◌∷◌, ◌++◌, ℕ, ◌*◌, ◌/◌, ◌%◌, eqb, ltb, length, get_or, take, drop}
use Rattle.bits.specs.Ranges.{list_below}

-- "filler skipped": the places that are not marked 2, in order
unfoldable pub kept : List ℕ → List ℕ
kept [] = []
kept (x ∷ coded) = cond (eqb x 2) (kept coded) (x ∷ kept coded)

-- "A block's E bits are its coded places in order from the first, filler skipped, starting again at the first after the last"
unfoldable pub matched : List ℕ → ℕ → List ℕ
matched coded e = list_below e (λ k. get_or (kept coded) (k % length (kept coded)) 0)

-- s from its k-th place on, and then its first k places
unfoldable pub turned : ℕ → List ℕ → List ℕ
turned k s = drop k s ++ take k s

-- "Type 2 starts rate matching at floor(D/4)·rv, D being the coded length": a place, filler counted. Type 1 starts at the first.
unfoldable pub start_of : ℕ → ℕ → ℕ → ℕ
start_of kind rv d = cond (eqb kind 2) (d / 4 * rv) 0

unfoldable pub matched_from : ℕ → ℕ → List ℕ → ℕ → List ℕ
matched_from kind rv coded e = matched (turned (start_of kind rv (length coded)) coded) e

-- 16: "for an rv over 3 or against the type", where "Type 1 requires rv 0"
unfoldable pub misversioned : ℕ → ℕ → Bool
misversioned kind rv = ltb 3 rv || (eqb kind 1 && ltb 0 rv)
