-- each of the three widths has its table, and that passes the test.
use mathlib.Core.Path.{refl}
use native.Mathlib.Omega.{arith}
use Rattle.bits.specs.Bits.{unpacked, digits}
use Rattle.checksum.specs.Crc.{gen24_a, gen16, gen8, reduce}
use Rattle.checksum.specs.Promises.{generator}
use Rattle.checksum.specs.Steps.Register.{stepped, fed}
use Rattle.checksum.proofs.Answers.{last_width, summed_with}
use Rattle.checksum.proofs.Tabled.{left_by_test}
use Rattle.checksum.proofs.inner.sum_octets.Goals as goal

pub sum_by-requires : goal.sum_by-requires
unfolding fed digits stepped reduce
sum_by-requires c = left_by_test 24 _ tt

pub sum_by-requires-in-16 : goal.sum_by-requires-in-16
unfolding fed digits stepped reduce
sum_by-requires-in-16 c = left_by_test 16 _ tt

pub sum_by-requires-in_default : goal.sum_by-requires-in_default
unfolding fed digits stepped reduce
sum_by-requires-in_default c = left_by_test 8 _ tt

pub returns-in-24 : goal.returns-in-24
unfolding generator
returns-in-24 c =
    let a = c.args in
    summed_with a.w 24 gen24_a c.sum_by.result (unpacked a.octets.now) c.in-24.is refl c.sum_by.ensures

pub returns-in-16 : goal.returns-in-16
unfolding generator
returns-in-16 c =
    let a = c.args in
    summed_with a.w 16 gen16 c.sum_by-in-16.result (unpacked a.octets.now) c.in-16.is refl c.sum_by-in-16.ensures

pub returns-in_default : goal.returns-in_default
unfolding generator
returns-in_default c =
    let a = c.args in
    let is = last_width a.w c.requires (λ e. omega (arith, e)) (λ e. omega (arith, e)) in
    summed_with a.w 8 gen8 c.sum_by-in_default.result (unpacked a.octets.now) is refl c.sum_by-in_default.ensures
