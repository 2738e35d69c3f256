use Rattle.std.proofs.Common.{◌≡◌, get_or}
use native.Mathlib.Omega.{arith}
use borrow.Author.Rules.{rules}
use Rattle.checking.proofs.Elements.{mark_is, bit_is}
use Rattle.checking.proofs.plain.bit.Goals as goal

pub returns-in-2 : goal.returns-in-2
returns-in-2 c = (mark_is _ _ c.in-2.is, search rules)

pub returns-in_default : goal.returns-in_default
returns-in_default c =
    let other : get_or c.args.word.now c.args.place 0 ≡ 2 → ⊥ = search rules in
    (bit_is _ _ other, omega (arith, c.type_inv.word c.args.place))
