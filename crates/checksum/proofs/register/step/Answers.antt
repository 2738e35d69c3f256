-- the two ways of `Machine`.
use native.Mathlib.Omega.{arith}
use Rattle.checksum.proofs.Machine.{without_top, less-generator}
use Rattle.checksum.proofs.register.step.Goals as goal

pub cut-low-requires : goal.cut-low-requires
cut-low-requires c = omega (arith, c.requires.0.most)

pub returns-then-x-w-eq0 : goal.returns-then-x-w-eq0
returns-then-x-w-eq0 c =
    let a = c.args in
    let p = c.requires in
    without_top a.w a.g a.reg a.bit p.0.most p.1 p.2 c.cut-low.result c.cut-low.ensures c.if-x-w-eq0.true

pub returns-else-x-w-eq0 : goal.returns-else-x-w-eq0
returns-else-x-w-eq0 c =
    let a = c.args in
    let p = c.requires in
    less-generator a.w a.g a.reg a.bit p.0.most p.1 p.2 c.cut-low.result c.cut-low.ensures c.if-x-w-eq0.false
