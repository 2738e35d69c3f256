-- the low bits of `Machine`.
use Rattle.checksum.proofs.Machine.{ones-some, low_bits}
use Rattle.checksum.proofs.register.cut.Goals as goal

pub overflow_sub-result : goal.overflow_sub-result
overflow_sub-result c = ones-some 32 c.args.w c.requires

pub returns : goal.returns
returns c = low_bits 32 c.args.w c.requires c.args.x
