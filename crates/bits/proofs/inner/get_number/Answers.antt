use mathlib.Core.Path.{◌≡◌, refl, sym, ◌∙◌}
use Prim.Native.Nat.{◌+◌, ◌-◌, ◌<◌}
use native.Mathlib.Omega.{arith}
use lib.ListN.{length, get_or, take, drop}
use Rattle.bits.specs.Bits.{value_of}
use Rattle.bits.proofs.Digits.{room-first, room_turn, room_half, read_turn, read_end, pushed}
use Rattle.bits.proofs.Lists.{bits-take, bits-drop, length_part}
use Rattle.bits.proofs.inner.get_number.Goals as goal

pub loop-bit-init : goal.loop-bit-init
unfolding value_of
loop-bit-init c =
    let a = c.args in
    let n : a.at + a.n - a.at ≡ a.n = omega arith in
    let all : length (take (a.at + a.n - a.at) (drop a.at a.bits.now)) - 0 ≡ a.n = rw n (omega (arith, length_part a.n a.at a.bits.now c.requires.1)) in
    (rw all (room-first a.n c.requires.0), refl)

pub loop-bit-preserved : goal.loop-bit-preserved
loop-bit-preserved c =
    let a = c.args in
    let l = c.loop-bit in
    let p = take (a.at + a.n - a.at) (drop a.at a.bits.now) in
    let k = length p - l.bit-index in
    let left : length p - (l.bit-index + 1) ≡ k - 1 = omega arith in
    let b : get_or p l.bit-index 0 < 2 = bits-take (a.at + a.n - a.at) (drop a.at a.bits.now) (bits-drop a.at a.bits.now c.requires.2) l.bit-index in
    let push = pushed l.r (get_or p l.bit-index 0) (room_half l.r k (omega arith) l.invariant.0) b in
    let turn = read_turn l.r l.bit-index p (omega arith) in
    (rw (push, left) (room_turn l.r (get_or p l.bit-index 0) k b (omega arith) l.invariant.0), rw push (sym turn ∙ l.invariant.1))

pub returns : goal.returns
returns c =
    let a = c.args in
    let l = c.loop-bit in
    let n : a.n ≡ a.at + a.n - a.at = omega arith in
    rw n (sym (read_end l.r l.bit-index (take (a.at + a.n - a.at) (drop a.at a.bits.now)) (omega arith)) ∙ l.invariant.1)
