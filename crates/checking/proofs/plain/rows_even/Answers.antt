use mathlib.Core.Path.{◌≡◌, refl}
use Prim.Native.Nat.{◌*◌}
use native.Mathlib.Omega.{arith}
use borrow.Author.Rules.{rules}
use borrow.Author.Tests.{tests}
use Rattle.std.proofs.lemmas.Iterator.{cases_from_all, YieldsList-from_range}
use Rattle.std.proofs.iter.Serving.{serving}
use Rattle.checking.specs.Sums.{row_sum}
use Rattle.checking.proofs.Elements.{has-row, all_checks}
use Rattle.checking.proofs.plain.rows_even.Goals as goal

pub all-requires-clause-callable : goal.all-requires-clause-callable
all-requires-clause-callable c = let h = has-row _ _ _ _ c.requires.0 in grind (arith, serving, h)

pub returns : goal.returns
returns c =
    let a = c.args in
    let n = a.rows * a.z in
    let sum = row_sum a.table.now a.columns a.z a.word.now in
    all_checks _ _ _ _ _ _
    (cases_from_all _ _ _ (λ row. sum row ≡ 0) (λ row. sum row ≡ 0 → ⊥) c.all.ensures.ran (YieldsList-from_range 0 n n refl (omega arith))
    (λ x q k. search (rules, tests)) (λ x q k. search (rules, tests)))
