-- The way back (document 02, CR 5), by a search over all three streams of D bits.
use Rattle.std.specs.Prelude.{Bool, List, ℕ, ◌+◌, ◌^◌, length}
use Rattle.bits.specs.Bits.{same, digits}
use Rattle.bits.specs.Ranges.{any_below, first_below}
use Rattle.control.specs.Interleaver.{sent}

-- the n-th three streams, 3D binary digits, are sent as these bits
unfoldable pub sent_as : ℕ → List ℕ → ℕ → Bool
sent_as D bits n = same (sent D (digits (D + D + D) n) (length bits)) bits

-- 14 is "for bits that no three streams give"
unfoldable pub some_streams : ℕ → List ℕ → Bool
some_streams D bits = any_below (2 ^ (D + D + D)) (sent_as D bits)

-- the first that are sent so; that there are no others is in the proofs
unfoldable pub streams_as : ℕ → List ℕ → List ℕ
streams_as D bits = digits (D + D + D) (first_below (2 ^ (D + D + D)) (sent_as D bits))
