-- The three streams of a control word without a register (document 02, CR 5): each bit is a sum of input bits modulo two, the word going round. That the register puts
-- these out is in the proofs.
use Rattle.std.specs.Prelude.{List, [], ◌∷◌, ◌++◌, ℕ, ◌+◌, ◌-◌, ◌%◌, length, get_or}
use Rattle.bits.specs.Ranges.{list_below}

-- the input bit that came j places before the k-th, indices modulo D
unfoldable pub earlier : List ℕ → ℕ → ℕ → ℕ
earlier c k j = get_or c ((k + (length c - j)) % length c) 0

unfoldable pub tap_sum : List ℕ → ℕ → List ℕ → ℕ
tap_sum c k [] = 0
tap_sum c k (j ∷ taps) = earlier c k j + tap_sum c k taps

unfoldable pub circular : List ℕ → List ℕ → List ℕ
circular taps c = list_below (length c) (λ k. tap_sum c k taps % 2)

-- the taps are the ones of the generators, the top digit at the current bit: 133 octal is 1011011, 171 is 1111001 and 165 is 1110101
unfoldable pub tapped_streams : List ℕ → List ℕ
tapped_streams c =
    circular (0 ∷ 2 ∷ 3 ∷ 5 ∷ 6 ∷ []) c ++ (circular (0 ∷ 1 ∷ 2 ∷ 3 ∷ 6 ∷ []) c ++ circular (0 ∷ 1 ∷ 2 ∷ 4 ∷ 6 ∷ []) c)
