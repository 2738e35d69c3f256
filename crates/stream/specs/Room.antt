-- What reading keeps to from turn to turn: places and counts lie within the slices that are lent.
use Rattle.std.specs.Prelude.{ℕ, ◌≤◌, List, length}
use Rattle.requests.specs.Room.{Roomy}
use Rattle.stream.specs.declared.Reading.{Reading}

-- what is held lies within the line, and what waits within the output, which has room for an answer once nothing waits
pub record Stands (r : Reading) (line lent out : List ℕ) : Type 0 where
  pub held : r.held ≤ length line
  pub waiting : r.waiting ≤ length out
  pub room : Roomy 0 lent out
