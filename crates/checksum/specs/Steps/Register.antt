-- The checksum's register: the next bit comes in at the top, at D^w, so that no zeros have to follow the message.
use Rattle.std.specs.Prelude.{List, [], ◌∷◌, ℕ, ◌*◌, ◌^◌, ◌≤◌, ◌<◌}
use Rattle.std.specs.Int.Bits.{bit_xor}
use Rattle.checksum.specs.Crc.{reduce}

-- a width that leaves a register of 32 bits room, and a generator's digits below it
pub record Generator (w g : ℕ) : Type 0 where
  pub some : 0 < w
  pub most : w ≤ 24
  pub below : g < 2 ^ w

unfoldable pub stepped : ℕ → ℕ → ℕ → ℕ → ℕ
stepped w g r b = reduce w g (bit_xor (r * 2) (b * 2 ^ w))

unfoldable pub fed : ℕ → ℕ → ℕ → List ℕ → ℕ
fed w g r [] = r
fed w g r (b ∷ a) = fed w g (stepped w g r b) a
