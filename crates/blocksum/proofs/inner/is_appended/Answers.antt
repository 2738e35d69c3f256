-- the sum of the bits before the last 24, and the number that these stand for.
use mathlib.Core.Path.{◌≡◌, sym}
use Prim.Native.Nat.{◌-◌}
use native.Mathlib.Omega.{arith}
use lib.ListN.{length, take, drop, length-drop}
use lib.Seq.{length-take-le, take_all}
use borrow.Author.Rules.{rules}
use Rattle.bits.proofs.Lists.{bits-take}
use Rattle.checksum.specs.Steps.Testing.{checks}
use Rattle.blocksum.proofs.inner.is_appended.Goals as goal

pub slice_bounds-sum-end : goal.slice_bounds-sum-end
slice_bounds-sum-end c = sym (length-take-le _ c.args.bits.now (search rules))

pub sum-requires : goal.sum-requires
sum-requires c = search bits-take

-- what was read from there on is all that stands there
pub returns : goal.returns
unfolding checks
returns c =
    let b = c.args.bits.now in
    let n = length b - 24 in
    let last : take 24 (drop n b) ≡ drop n b = take_all 24 (drop n b) (omega (arith, length-drop n b)) in
    cc last
