-- The 32-column interleaver of each of three streams of D bits, and the circular buffer (document 02, CR 5; 004, section 5.1.4.2).
use Rattle.std.specs.Prelude.{cond, List, [], ◌∷◌, ◌++◌, ℕ, ◌+◌, ◌-◌, ◌*◌, ◌%◌, ◌/◌, ltb, get_or, take, drop}
use Rattle.bits.specs.Counts.{ceil}
use Rattle.bits.specs.Ranges.{list_below}
use Rattle.matching.specs.Matching.{matched}

-- "finding minimum integer R such that: D ≤ R × C", C being 32
unfoldable pub rows : ℕ → ℕ
rows D = ceil D 32

-- "N_D = (R × C − D) dummy bits are padded", in front
unfoldable pub dummies : ℕ → ℕ
dummies D = rows D * 32 - D

-- table 5.1.4.2.1-1: "P(j) is the original column position of the j-th permuted column"
unfoldable pub columns : List ℕ
columns =
    1 ∷ 17 ∷ 9 ∷ 25 ∷ 5 ∷ 21 ∷ 13 ∷ 29 ∷ 3 ∷ 19 ∷ 11 ∷ 27 ∷ 7 ∷ 23 ∷ 15 ∷ 31
    ∷ 0 ∷ 16 ∷ 8 ∷ 24 ∷ 4 ∷ 20 ∷ 12 ∷ 28 ∷ 2 ∷ 18 ∷ 10 ∷ 26 ∷ 6 ∷ 22 ∷ 14 ∷ 30 ∷ []

-- "read out column by column": the bit of a matrix of R rows that is read k-th stands at this place of it, counted row by row
unfoldable pub matrix_place : ℕ → ℕ → ℕ
matrix_place R k = k % R * 32 + get_or columns (k / R) 0

-- "written into the matrix row by row": what stands at the place p, a dummy, marked 2 as filler is, or a bit of the stream d
unfoldable pub padded : ℕ → List ℕ → ℕ → ℕ
padded D d p = cond (ltb p (dummies D)) 2 (get_or d (p - dummies D) 0)

unfoldable pub interleaved : ℕ → List ℕ → List ℕ
interleaved D d = list_below (rows D * 32) (λ k. padded D d (matrix_place (rows D) k))

-- "The circular buffer": the three streams of S, interleaved, one behind the other
unfoldable pub buffer : ℕ → List ℕ → List ℕ
buffer D S = interleaved D (take D S) ++ (interleaved D (take D (drop D S)) ++ interleaved D (take D (drop (D + D) S)))

-- "then the circular buffer, dummies skipped": the e bits that three streams are sent as, by step 6 of document 01
unfoldable pub sent : ℕ → List ℕ → ℕ → List ℕ
sent D S e = matched (buffer D S) e
