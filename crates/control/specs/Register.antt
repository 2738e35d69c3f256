-- Tail-biting coding (document 02, CR 5; 004, section 5.1.3.1): "a register of six bits preset to the last six input bits, and three outputs with generators 133, 171
-- and 165 octal". A state is the six bits as one binary number, the newest highest.
use Rattle.std.specs.Prelude.{List, [], ◌∷◌, ◌++◌, ℕ, ◌+◌, ◌-◌, ◌*◌, ◌/◌, ◌%◌, length, drop}
use Rattle.std.specs.Int.Bits.{bit_and}
use Rattle.std.specs.Int.Count.{ones}

-- "Each output bit is the parity of the ones in a masked seven-bit register": g is the generator
unfoldable pub output : ℕ → ℕ → ℕ
output g r = ones (bit_and r g) % 2

-- the bits that a generator puts out from the state s on: the current bit stands above the six of the state, and the oldest falls out
unfoldable pub stream : ℕ → ℕ → List ℕ → List ℕ
stream g s [] = []
stream g s (b ∷ c) = output g (b * 64 + s) ∷ stream g ((b * 64 + s) / 2) c

-- the state after these bits
unfoldable pub after : ℕ → List ℕ → ℕ
after s [] = s
after s (b ∷ c) = after ((b * 64 + s) / 2) c

-- "preset to the last six input bits"
unfoldable pub preset : List ℕ → ℕ
preset c = after 0 (drop (length c - 6) c)

-- the three streams, "whole, one after the other, in the order of their generators"
unfoldable pub streams : List ℕ → List ℕ
streams c = stream 0o133 (preset c) c ++ (stream 0o171 (preset c) c ++ stream 0o165 (preset c) c)
