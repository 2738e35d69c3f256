-- How many digits show octets.
use Rattle.std.specs.Prelude.{ℕ, ◌+◌, ◌*◌, ◌/◌}
use Rattle.text.specs.declared.shown.Shown.{Shown}
use Rattle.text.specs.declared.shown.Shown.TheVariants.{Places, Bits, Octets}

-- one for each octet; two for eight bits, also where the last eight are not whole; two for each octet
abbrev pub digits_of : Shown → ℕ → ℕ
digits_of Places n = n
digits_of Bits n = (n + 7) / 8 * 2
digits_of Octets n = n * 2
