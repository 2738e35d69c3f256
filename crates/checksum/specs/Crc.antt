-- The checksums of section 5.1.1 of 5G.212, for any width w and any generator D^w + g, where g, below 2^w, holds its digits without the
-- top one. A number stands for the polynomial over GF(2) that has its binary digits as coefficients, so that a difference is `bit_xor`.
use Rattle.std.specs.Prelude.{List, [], ◌∷◌, ◌++◌, ℕ, ◌+◌, ◌*◌, ◌/◌, ◌%◌, ◌^◌, replicate}
use Rattle.std.specs.Int.Bits.{bit_xor}
use Rattle.bits.specs.Bits.{digits}

-- one step of the long division: x, of w + 1 digits, less the generator where x has the digit of D^w
unfoldable pub reduce : ℕ → ℕ → ℕ → ℕ
reduce w g x = bit_xor (x % 2 ^ w) (x / 2 ^ w % 2 * g)

-- the long division, going on from the remainder r: bring down the next coefficient, and reduce
unfoldable pub divide_on : ℕ → ℕ → ℕ → List ℕ → ℕ
divide_on w g r [] = r
divide_on w g r (b ∷ p) = divide_on w g (reduce w g (r * 2 + b)) p

-- the remainder of the polynomial with the coefficients p, highest first, divided by the generator: "start value zero, no reversal, no final change"
unfoldable pub remainder : ℕ → ℕ → List ℕ → ℕ
remainder w g p = divide_on w g 0 p

-- the checksum of the bits a_0 .. a_(A-1): the remainder of a_0 D^(A+w-1) + .. + a_(A-1) D^w
unfoldable pub checksum : ℕ → ℕ → List ℕ → ℕ
checksum w g a = remainder w g (a ++ replicate w 0)

-- the bits after attachment, b_0 .. b_(B-1): the a_k, and then the checksum's w bits
unfoldable pub attached : ℕ → ℕ → List ℕ → List ℕ
attached w g a = a ++ digits w (checksum w g a)

-- "The generators of 5.1.1 without their top bit are 864CFB (24A), 1021 (16) and 9B (8)"
abbrev pub gen24_a : ℕ
gen24_a = 0x864CFB

abbrev pub gen16 : ℕ
gen16 = 0x1021

abbrev pub gen8 : ℕ
gen8 = 0x9B
