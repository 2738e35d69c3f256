-- Copies in a received stretch.
use Rattle.std.specs.Prelude.{Bool, List, ℕ, ◌+◌, ◌-◌, eqb, length, get_or}
use Rattle.bits.specs.Ranges.{all_below}

-- every place past the first n holds what stands n places before it
unfoldable pub copies_agree : ℕ → List ℕ → Bool
copies_agree n s = all_below (length s - n) (λ k. eqb (get_or s (n + k) 0) (get_or s k 0))
