-- What each block has of the transport bits: its own bits, what it carries, and their room.
use mathlib.Core.Path.{◌≡◌, ap, ◌∙◌}
use mathlib.Core.List.{List}
use Prim.Native.Nat.{ℕ, suc, ◌+◌, ◌≤◌, ◌<◌}
use native.Mathlib.Omega.{arith}
use lib.ListN.{length, drop}
use Rattle.bits.specs.Bits.{AreBits}
use Rattle.bits.specs.Ranges.{sum_below}
use Rattle.bits.proofs.Lists.{bits-take, bits-drop, length_part}
use Rattle.bits.proofs.Sums.{sum_mono}
use Rattle.cutting.specs.Plan.{sum_bits, blocks, own_bits, places, carried_bits}
use Rattle.cutting.specs.Cutting.{own_start, own, carried}
use Rattle.cutting.proofs.Summed.{is_sum, length-with-sum, with-sum-bits}
use Rattle.cutting.proofs.Plans.{Cut}

pub carried_fits : (R : List ℕ) (ed b : ℕ) → Cut R ed b → (r : ℕ) → carried_bits R ed b r ≤ places R ed b
unfolding carried_bits
carried_fits R ed b cut r = omega (arith, cut.own_most r, cut.room)

module _ (R : List ℕ) (ed b : ℕ) (u : List ℕ) where
  pub own_are_bits : AreBits u → (r : ℕ) → AreBits (own R ed b u r)
  unfolding own
  own_are_bits single r = bits-take (own_bits b (blocks R ed b) r) (drop (own_start R ed b r) u) (bits-drop (own_start R ed b r) u single)

  pub carried-bits : AreBits u → (r : ℕ) → AreBits (carried R ed b u r)
  unfolding carried
  carried-bits single r = with-sum-bits (sum_bits R ed b) (own R ed b u r) (own_are_bits single r)

  module _ (cut : Cut R ed b) (size : length u ≡ b) where
    pub own-size : (r : ℕ) → r < blocks R ed b → length (own R ed b u r) ≡ own_bits b (blocks R ed b) r
    unfolding own own_start sum_below
    own-size r l =
        let mine = own_bits b (blocks R ed b) in
        let within : suc r ≤ blocks R ed b = omega arith in
        length_part (mine r) (own_start R ed b r) u (omega (arith, size, cut.own_sum, sum_mono mine (suc r) (blocks R ed b) within))

    pub carried-size : (r : ℕ) → r < blocks R ed b → length (carried R ed b u r) ≡ carried_bits R ed b r
    unfolding carried carried_bits
    carried-size r l = length-with-sum (sum_bits R ed b) (own R ed b u r) (is_sum R ed b) ∙ ap (λ (n : ℕ). n + sum_bits R ed b) (own-size r l)
