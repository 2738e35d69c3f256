use Prim.Native.Nat.{◌+◌, ◌-◌, ◌/◌, ◌^◌}
use native.Mathlib.Omega.{arith}
use lib.Bits.{and_mask}
use Rattle.bits.proofs.Digits.{put_turn, put-end}
use Rattle.bits.proofs.inner.put_number.Goals as goal

pub loop-k-preserved : goal.loop-k-preserved
loop-k-preserved c =
    let a = c.args in
    let l = c.loop-k in
    let turn = put_turn l.out a.at l.k a.n a.x (omega arith) in
    let bit = and_mask (a.x / 2 ^ (a.n - 1 - l.k)) 1 in
    cc (turn, bit, l.invariant)

pub returns : goal.returns
returns c =
    let a = c.args in
    let l = c.loop-k in
    cc (put-end l.out (a.at + l.k) (a.n - l.k) a.x (omega arith), l.invariant)
