-- The coded block (document 01, step 4). T is a table of so many rows and columns.
use Rattle.std.specs.Prelude.{Bool, List, ◌++◌, ℕ, ◌*◌, ◌^◌}
use Rattle.bits.specs.Bits.{digits}
use Rattle.bits.specs.Ranges.{any_below, first_below}
use Rattle.parity.specs.Matrix.{checks}

-- "K systematic places" and then parity bits, by document 02, CR 3, (m+x)·z of them: the word of the places sys with the n-th choice of parity bits
unfoldable pub with_parity : ℕ → ℕ → List ℕ → ℕ → List ℕ
with_parity rows z sys n = sys ++ digits (rows * z) n

-- "It must check with filler read as 0": the n-th choice does
unfoldable pub checks_with : List ℕ → ℕ → ℕ → ℕ → List ℕ → ℕ → Bool
checks_with T rows columns z sys n = checks T rows columns z (with_parity rows z sys n)

-- there are parity bits with which the block checks: for every staircase table with its extension and all places there are, which is proved and not defined
unfoldable pub has_parity : List ℕ → ℕ → ℕ → ℕ → List ℕ → Bool
has_parity T rows columns z sys = any_below (2 ^ (rows * z)) (checks_with T rows columns z sys)

-- the coded block: the places with the first choice of parity bits with which they check (there is exactly one); "Filler places stay marked"
unfoldable pub coded : List ℕ → ℕ → ℕ → ℕ → List ℕ → List ℕ
coded T rows columns z sys = with_parity rows z sys (first_below (2 ^ (rows * z)) (checks_with T rows columns z sys))
