-- Four and eight bits at a time: the table that octets are unpacked by, and the word that they are packed from.
use Rattle.std.specs.Prelude.{◌≡◌, List, ℕ, ◌+◌, ◌*◌, ◌/◌, ◌^◌, ◌<◌, length, get_or}
use Rattle.std.specs.Int.Bits.{bit_and, bit_or}
use Rattle.bits.specs.Bits.{digits}

-- t holds the four binary digits of every number below 16, one number behind the other
pub record Fours (t : List ℕ) : Type 0 where
  pub size : length t ≡ 64
  pub at : (n k : ℕ) → n < 16 → k < 4 → get_or t (4 * n + k) 0 ≡ get_or (digits 4 n) k 0

-- a word over itself, so many places lower
unfoldable pub over : ℕ → ℕ → ℕ
over k v = bit_or v (v / 2 ^ k)

unfoldable pub folded : ℕ → ℕ
folded v = bit_and (over 28 (over 14 (over 7 v))) 255
