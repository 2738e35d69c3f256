use mathlib.Core.Path.{◌≡◌}
use Prim.Native.Nat.{◌+◌, ◌*◌}
use native.Mathlib.Omega.{arith}
use lib.ListN.{drop}
use Rattle.bits.proofs.Octets.{pack_turn, pack_end}
use Rattle.bits.proofs.inner.pack.Goals as goal

pub loop-i-preserved : goal.loop-i-preserved
loop-i-preserved c =
    let a = c.args in
    let l = c.loop-i in
    let next : 8 * (l.i + 1) ≡ 8 * l.i + 8 = omega arith in
    rw next (cc (pack_turn l.out l.i a.n (8 * l.i) a.bits.now (omega arith), c.octet_at.ensures, l.invariant))

pub returns : goal.returns
returns c =
    let a = c.args in
    let l = c.loop-i in
    cc (pack_end l.out l.i a.n (drop (8 * l.i) a.bits.now) (omega arith), l.invariant)
