-- What the words of a request keep to inside: their octets lie within the stores that are lent.
use Rattle.std.specs.Prelude.{ℕ, ◌-◌, ◌/◌, ◌≤◌, List, length}
use Rattle.text.specs.declared.forms.Given.{Given}

-- what the words gave lies within the halves of `records` and within the other store, and what is lent within the room for it
pub record Held (given : Given) (records bits : List ℕ) (room : ℕ) : Type 0 where
  pub in_first : given.record ≤ length records / 2
  pub in_second : given.public ≤ length records - length records / 2
  pub in_bits : given.bits ≤ length bits
  pub in_room : given.lent ≤ room
