-- The nearest control word (document 02, CR 10), by search over all words of D bits: "the input word whose tail-biting code differs in the fewest places, and that
-- number of places". heard is "3D received bits in three streams before interleaving, lying as in CR 5".
use Rattle.std.specs.Prelude.{Bool, cond, List, [], ◌∷◌, ℕ, ◌+◌, ◌^◌, eqb, leb}
use Rattle.bits.specs.Bits.{digits}
use Rattle.bits.specs.Ranges.{all_below, first_below}
use Rattle.control.specs.Register.{streams}

-- 1 where two bits differ
unfoldable pub unlike : ℕ → ℕ → ℕ
unlike x y = cond (eqb x y) 0 1

-- in how many places two lists differ
unfoldable pub differences : List ℕ → List ℕ → ℕ
differences [] t = 0
differences (x ∷ s) [] = 0
differences (x ∷ s) (y ∷ t) = unlike x y + differences s t

-- in how many places the code of the word n, "read as binary with the first bit highest", differs from what was heard
unfoldable pub away : ℕ → List ℕ → ℕ → ℕ
away D heard n = differences (streams (digits D n)) heard

-- "No word may exist with fewer differences"
unfoldable pub is_nearest : ℕ → List ℕ → ℕ → Bool
is_nearest D heard n = all_below (2 ^ D) (λ k. leb (away D heard n) (away D heard k))

-- "Among equals take the smallest"
unfoldable pub nearest : ℕ → List ℕ → ℕ
nearest D heard = first_below (2 ^ D) (is_nearest D heard)
