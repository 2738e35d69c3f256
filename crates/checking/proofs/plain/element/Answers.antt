use mathlib.Core.Path.{refl}
use borrow.Author.Rules.{rules}
use Rattle.checking.proofs.Elements.{element-empty, element-one, element-zero}
use Rattle.checking.proofs.plain.element.Goals as goal

pub returns-then-s : goal.returns-then-s
returns-then-s c = (element-empty _ _ _ _ _ _ refl c.if-s.true, search rules)

pub returns-then-place-z : goal.returns-then-place-z
returns-then-place-z c = (element-one _ _ _ _ _ _ refl c.if-s.false (cc), search rules)

pub returns : goal.returns
returns c = (element-zero _ _ _ _ _ _ refl c.if-s.false (λ e. c.if-place-z.false (cc)), search rules)
