use mathlib.Core.Path.{sym, ◌∙◌}
use native.Mathlib.Omega.{arith}
use Rattle.checksum.proofs.Answers.{fits-register, octets-refused, octets-summed}
use Rattle.checksum.proofs.of_octets.Goals as goal

pub returns-then-is_other_width : goal.returns-then-is_other_width
returns-then-is_other_width c =
    let a = c.args in
    octets-refused a.width a.octets.now (sym c.is_other_width.ensures ∙ c.if-is_other_width.true)

pub overflow_cast-width : goal.overflow_cast-width
overflow_cast-width c =
    let fits = fits-register c.args.width (sym c.is_other_width.ensures ∙ c.if-is_other_width.false) in
    omega (arith, fits.most)

pub sum_octets-requires : goal.sum_octets-requires
sum_octets-requires c = sym c.is_other_width.ensures ∙ c.if-is_other_width.false

pub returns : goal.returns
returns c =
    let u = c.before.before in
    let a = u.before.before.args in
    octets-summed a.width a.octets.now (sym u.is_other_width.ensures ∙ c.if-is_other_width.false) c.sum_octets.result c.sum_octets.ensures
