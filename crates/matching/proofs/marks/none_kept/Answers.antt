use mathlib.Core.Path.{◌∙◌}
use lib.Dec.{eqb}
use borrow.Author.Rules.{rules}
use Rattle.std.proofs.Common.{tests}
use Rattle.std.proofs.lemmas.Iterator.{YieldsList-from_slice}
use Rattle.std.proofs.lemmas.Iterator.Search.{all_from_yields_List}
use Rattle.matching.proofs.Kept.{none-kept}
use Rattle.matching.proofs.marks.none_kept.Goals as goal

pub returns : goal.returns
returns c =
    let s = c.args.coded.now in
    all_from_yields_List (λ x. eqb x 2) _ _ _ c.all.ensures.ran (YieldsList-from_slice s cc) (λ x b q k. search (rules, tests)) ∙ none-kept s
