-- recompute and compare, of `Masked`.
use mathlib.Core.Path.{◌≡◌}
use Prim.Native.Nat.{◌-◌}
use native.Mathlib.Omega.{arith}
use lib.ListN.{length, take, drop, length-drop}
use lib.Seq.{take_all}
use Rattle.checksum.specs.Masked.{checksum_under}
use Rattle.checksum.specs.Promises.{generator}
use Rattle.checksum.proofs.Answers.{fits-register}
use Rattle.checksum.proofs.Masked.{compared}
use Rattle.checksum.proofs.inner.is_attached.Goals as goal

pub under-requires : goal.under-requires
under-requires c =
    let s = c.before.before.before in
    omega (arith, (fits-register s.args.w s.requires.0).most)

pub get_number-requires : goal.get_number-requires
get_number-requires c =
    let s = c.before.before.before.before in
    (omega (arith, (fits-register s.args.w s.requires.0).most), omega (arith, s.requires.1), s.requires.2)

pub returns : goal.returns
unfolding checksum_under
returns c =
    let s = c.before.before.before.before.before in
    let a = s.args in
    let b = a.bits.now in
    let n = length b - a.w in
    let last : take a.w (drop n b) ≡ drop n b = take_all a.w (drop n b) (omega (arith, length-drop n b, s.requires.1)) in
    cc (last, compared a.w (generator a.w) a.mask (fits-register a.w s.requires.0).below b s.requires.2 s.requires.1)
