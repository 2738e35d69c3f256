use mathlib.Core.Path.{◌≡◌, ◌∙◌}
use Prim.Native.Nat.{◌+◌, ◌-◌}
use native.Mathlib.Omega.{arith}
use borrow.Author.Rules.{rules}
use borrow.Author.Tests.{tests}
use lib.Dec.{eqb}
use Rattle.std.proofs.lemmas.Iterator.{YieldsList-from_slice}
use Rattle.std.proofs.lemmas.Iterator.Search.{all_from_yields_List}
use Rattle.profile.specs.Record.{empty}
use Rattle.profile.proofs.Counted.{all_in_list}
use Rattle.profile.proofs.Walk.{empty_stretch}
use Rattle.profile.proofs.staircase.are_empty.Goals as goal

pub returns : goal.returns
returns c =
    let a = c.args in
    let size : a.from + a.n - a.from ≡ a.n = omega arith in
    all_from_yields_List (λ e. eqb e empty) _ _ _ c.all.ensures.ran (YieldsList-from_slice _ c.iter.ensures.rest) (λ x b q k. search (rules, tests))
    ∙ all_in_list _ _ ∙ empty_stretch a.table.now a.from a.n _ size c.requires
