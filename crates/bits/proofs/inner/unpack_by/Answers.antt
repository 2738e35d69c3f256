use mathlib.Core.Path.{◌≡◌}
use Prim.Native.Nat.{◌+◌, ◌*◌}
use native.Mathlib.Omega.{arith}
use Rattle.bits.proofs.Octets.{unpack_turn, unpack_end}
use Rattle.bits.proofs.inner.unpack_by.Goals as goal

pub loop-i-preserved : goal.loop-i-preserved
loop-i-preserved c =
    let a = c.args in
    let l = c.loop-i in
    let next : a.at + 8 * (l.i + 1) ≡ a.at + 8 * l.i + 8 = omega arith in
    rw next (cc (unpack_turn l.out (a.at + 8 * l.i) l.i a.octets.now (omega arith), c.put_octet.ensures, l.invariant))

pub returns : goal.returns
returns c =
    let a = c.args in
    let l = c.loop-i in
    cc (unpack_end l.out (a.at + 8 * l.i) l.i a.octets.now (omega arith), l.invariant)
