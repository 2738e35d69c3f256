use mathlib.Core.Path.{refl}
use lib.ListN.{get_or}
use lib.Pow.{pow_pos}
use borrow.Author.Rules.{rules}
use Rattle.checksum.proofs.Fold.{checksum-fed, stepped_lt, bit_turn, bit_end}
use Rattle.checksum.proofs.inner.sum_bits.Goals as goal

pub loop-bit-init : goal.loop-bit-init
loop-bit-init c = (pow_pos _, refl)

pub step-r-requires : goal.step-r-requires
step-r-requires c =
    let p = c.requires in
    (p.0, c.loop-bit.invariant.0, p.1 c.loop-bit.bit-index)

pub loop-bit-preserved : goal.loop-bit-preserved
loop-bit-preserved c =
    let a = c.args in
    let p = c.requires in
    let l = c.loop-bit in
    let turn = bit_turn a.w a.g l.r l.bit-index a.bits.now (search rules) in
    (rw c.step-r.ensures (stepped_lt a.w a.g l.r (get_or a.bits.now l.bit-index 0) p.0.below), cc turn)

pub returns : goal.returns
returns c =
    let a = c.args in
    let p = c.requires in
    let l = c.loop-bit in
    cc (bit_end a.w a.g l.r l.bit-index a.bits.now (search rules), checksum-fed a.w a.g p.0.some a.bits.now p.1)
