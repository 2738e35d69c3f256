-- What a table holds, by which the register takes an octet at once.
use Rattle.std.specs.Prelude.{◌≡◌, List, ℕ, ◌≤◌, ◌<◌, length, get_or}
use Rattle.bits.specs.Bits.{digits}
use Rattle.checksum.specs.Steps.Register.{Generator, fed}

-- a table tells its generator: the octet 1 leaves what D^w leaves
abbrev pub generator_of : List ℕ → ℕ
generator_of t = get_or t 1 0

-- entry k is what the octet k leaves of an empty register of w bits
pub record Left (w : ℕ) (t : List ℕ) : Type 0 where
  pub fits : Generator w (generator_of t)
  pub wide : 8 ≤ w
  pub size : length t ≡ 256
  pub entry : (k : ℕ) → k < 256 → get_or t k 0 ≡ fed w (generator_of t) 0 (digits 8 k)
