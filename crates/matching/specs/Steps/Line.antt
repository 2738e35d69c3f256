-- A received stretch in line: as if it had been sent from the first place.
use Rattle.std.specs.Prelude.{List, ℕ, ◌+◌, ◌-◌, take}
use Rattle.matching.specs.Matching.{turned}
use Rattle.matching.specs.Steps.Places.{kept_before}

-- the first n received bits in line, where k of the n stand before the start and so were sent last
unfoldable pub in_line : ℕ → ℕ → List ℕ → List ℕ
in_line n k s = turned (n - k) (take n s)

-- the same for a word of `total` places whose filler stands from `own` to `places`
abbrev pub heard : ℕ → ℕ → ℕ → ℕ → List ℕ → List ℕ
heard own places start total s = in_line (own + (total - places)) (kept_before own places start) s
