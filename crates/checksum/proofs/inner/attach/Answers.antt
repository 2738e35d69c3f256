use native.Mathlib.Omega.{arith}
use borrow.Author.Rules.{rules}
use Rattle.checksum.specs.Masked.{checksum_under}
use Rattle.checksum.specs.Promises.{generator}
use Rattle.checksum.proofs.Answers.{fits-register}
use Rattle.checksum.proofs.Masked.{sets_attached_under}
use Rattle.checksum.proofs.inner.attach.Goals as goal

pub under-sum-requires : goal.under-sum-requires
under-sum-requires c =
    let s = c.before.before.before.before.before.before.before in
    omega (arith, (fits-register s.args.w s.requires.0).most)

pub put_number-requires : goal.put_number-requires
put_number-requires c =
    let s = c.before.before.before.before.before.before.before.before.before in
    (omega (arith, (fits-register s.args.w s.requires.0).most), search rules)

pub returns : goal.returns
unfolding checksum_under
returns c =
    let a = c.args in
    cc (sets_attached_under a.w (generator a.w) a.mask a.out.now a.octets.now)
