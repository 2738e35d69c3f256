use mathlib.Core.Path.{refl}
use borrow.Author.Rules.{rules}
use Rattle.bits.specs.Bits.{unpacked}
use Rattle.checksum.specs.Crc.{gen24_a}
use Rattle.checksum.specs.Promises.{other_width}
use Rattle.checksum.proofs.Masked.{attached_zero_mask}
use Rattle.cutting.specs.Plan.{block_bits}
use Rattle.cutting.specs.Transport.{transport}
use Rattle.cutting.proofs.Transported.{own_24}
use Rattle.cutting.proofs.inner.attach.Goals as goal

pub attach-requires : goal.attach-requires
unfolding block_bits other_width
attach-requires c = (refl, search rules)

pub returns : goal.returns
unfolding transport
returns c =
    let a = unpacked c.args.block.now in
    cc (own_24, attached_zero_mask 24 gen24_a a)
