-- What answers keep to inside: they have room in the output.
use Rattle.std.specs.Prelude.{ℕ, ◌+◌, ◌*◌, ◌≤◌, List, length}

-- an answer has room in the output from `at` on: two digits for each octet that was lent, and numbers and words (`NUMBERS_ROOM`)
abbrev pub Roomy : ℕ → List ℕ → List ℕ → Type 0
Roomy at lent out = at + 2 * length lent + 128 ≤ length out
