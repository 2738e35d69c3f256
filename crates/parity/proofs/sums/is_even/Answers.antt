use mathlib.Core.Path.{◌≡◌, ap, ◌∙◌}
use mathlib.Core.Bool.{not}
use Prim.Native.Nat.{ℕ, ◌+◌, ◌-◌, ◌*◌}
use native.Mathlib.Omega.{arith}
use lib.ListN.{take, drop}
use Rattle.bits.specs.Bits.{some_over}
use Rattle.parity.specs.Steps.Runs.{lanes, even_row}
use Rattle.parity.proofs.sums.is_even.Goals as goal

pub returns : goal.returns
unfolding even_row
returns c =
    let a = c.args in
    let count : a.i * lanes + a.z - a.i * lanes ≡ a.z = omega arith in
    ap not (c.some_over.ensures ∙ ap (λ (n : ℕ). some_over 0 (take n (drop (a.i * lanes) a.sums.now))) count)
