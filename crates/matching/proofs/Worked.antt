-- Coded blocks of 12 places, with filler in one stretch, from a start before it, in it and behind it.
use mathlib.Core.Path.{◌≡◌, refl}
use mathlib.Core.List.{List, [], ◌∷◌}
use Prim.Native.Nat.{ℕ}
use Rattle.bits.specs.Ranges.{list_below}
use Rattle.matching.specs.Matching.{kept, matched, turned, start_of, matched_from}
use Rattle.matching.specs.Steps.Places.{kept_before}
use Rattle.matching.specs.Steps.Line.{in_line}

-- filler at places 4 and 5, and at places 1 to 4; floor(12/4) is 3
unfoldable pub late : List ℕ
late = 1 ∷ 1 ∷ 0 ∷ 1 ∷ 2 ∷ 2 ∷ 0 ∷ 1 ∷ 1 ∷ 0 ∷ 0 ∷ 1 ∷ []

unfoldable pub early : List ℕ
early = 1 ∷ 2 ∷ 2 ∷ 2 ∷ 2 ∷ 0 ∷ 1 ∷ 1 ∷ 0 ∷ 0 ∷ 1 ∷ 0 ∷ []

-- rv 1 starts at place 3, before the filler: the first two of the 10 kept places come again at the end
pub start_before : matched_from 2 1 late 12 ≡ 1 ∷ 0 ∷ 1 ∷ 1 ∷ 0 ∷ 0 ∷ 1 ∷ 1 ∷ 1 ∷ 0 ∷ 1 ∷ 0 ∷ []
unfolding late kept list_below matched turned start_of matched_from
start_before = refl

-- place 3 lies in the filler: the first bit is that of place 5
pub start_in : matched_from 2 1 early 9 ≡ 0 ∷ 1 ∷ 1 ∷ 0 ∷ 0 ∷ 1 ∷ 0 ∷ 1 ∷ 0 ∷ []
unfolding early kept list_below matched turned start_of matched_from
start_in = refl

-- rv 3 starts at place 9, behind the filler, which counts for the start
pub start_behind : matched_from 2 3 late 10 ≡ 0 ∷ 0 ∷ 1 ∷ 1 ∷ 1 ∷ 0 ∷ 1 ∷ 0 ∷ 1 ∷ 1 ∷ []
unfolding late kept list_below matched turned start_of matched_from
start_behind = refl

-- and in line again: 7 of the 10 kept places stand before place 9
pub back_in_line : in_line 10 (kept_before 4 6 9) (matched_from 2 3 late 10) ≡ kept late
unfolding late kept list_below matched turned start_of matched_from kept_before in_line
back_in_line = refl

-- Type 1 starts at the first place
pub type_one : matched_from 1 0 early 3 ≡ 1 ∷ 0 ∷ 1 ∷ []
unfolding early kept list_below matched turned start_of matched_from
type_one = refl
