-- What three streams are sent as: e bits, which lead back to them for e of 3D or more.
use mathlib.Core.Path.{◌≡◌, ap}
use mathlib.Core.Bool.{true}
use mathlib.Core.List.{List}
use Prim.Native.Nat.{ℕ, ◌+◌, ◌≤◌, ◌<◌}
use native.Mathlib.Omega.{arith}
use lib.ListN.{length}
use Rattle.bits.specs.Bits.{AreBits}
use Rattle.bits.proofs.Listed.{length_list}
use Rattle.matching.specs.Matching.{matched}
use Rattle.control.specs.Interleaver.{sent}
use Rattle.control.specs.Back.{some_streams, streams_as}
use Rattle.control.proofs.Collecting.{list_bits, kept_buffer, collected-bits}
use Rattle.control.proofs.Backwards.{some-sent, found-is}

pub length-sent : (D : ℕ) (S : List ℕ) (e : ℕ) → length (sent D S e) ≡ e
unfolding sent matched
length-sent D S e = length_list e _

module _ (D : ℕ) (some : 0 < D) (most : D ≤ 128) (S : List ℕ) (single : AreBits S) (e : ℕ) where
  pub sent-bits : AreBits (sent D S e)
  unfolding sent matched
  sent-bits = list_bits e _ (λ k. rw (kept_buffer D some most S single) (collected-bits D some most S single _))

  -- "Sending through the interleaver and back is exact for E of 3D or more"
  pub round_trip : length S ≡ D + D + D → D + D + D ≤ e → (some_streams D (sent D S e) ≡ true) × (streams_as D (sent D S e) ≡ S)
  round_trip size long =
      let again : sent D S (length (sent D S e)) ≡ sent D S e = ap (sent D S) (length-sent D S e) in
      let room : D + D + D ≤ length (sent D S e) = omega (arith, length-sent D S e) in
      (some-sent D some most (sent D S e) sent-bits room S single size again, found-is D some most (sent D S e) sent-bits room S single size again)
