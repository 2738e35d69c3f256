use mathlib.Core.Path.{refl, sym, ap, ◌∙◌}
use Prim.Native.Nat.{ℕ}
use native.Mathlib.Omega.{arith}
use Rattle.std.proofs.lemmas.Result.{err_from_is_err_and}
use Rattle.bits.proofs.Answers.{refusal-numbered}
use Rattle.checksum.specs.Crc.{checksum}
use Rattle.checksum.proofs.Answers.{bits-done, bits-refused, bits-summed}
use Rattle.checksum.proofs.of_bits.Goals as goal

pub returns-in_err-admit_bits : goal.returns-in_err-admit_bits
returns-in_err-admit_bits c =
    let p = err_from_is_err_and c.from_residual.result c.from_residual.ensures.1 in
    rw (p.1, p.2) (bits-refused c.args.width c.args.bits.now _ c.in_err-admit_bits.ensures (refusal-numbered _))

pub overflow_cast-width : goal.overflow_cast-width
overflow_cast-width c =
    let fits = (bits-done c.args.width c.args.bits.now (sym c.in_ok-admit_bits.ensures)).0 in
    omega (arith, fits.most)

pub sum_bits-requires : goal.sum_bits-requires
sum_bits-requires c =
    let done = bits-done c.args.width c.args.bits.now (sym c.in_ok-admit_bits.ensures) in
    (rw c.generator_of.ensures done.0, done.1)

pub returns : goal.returns
returns c =
    let a = c.args in
    let sum = c.sum_bits.ensures ∙ ap (λ (g : ℕ). checksum a.width g a.bits.now) c.generator_of.ensures in
    bits-summed a.width a.bits.now 0 c.in_ok-admit_bits.ensures refl c.sum_bits.result sum
