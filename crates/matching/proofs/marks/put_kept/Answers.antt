use borrow.Author.Rules.{rules}
use Rattle.matching.proofs.Put.{put_full, kept-marked, kept_put}
use Rattle.matching.proofs.marks.put_kept.Goals.{then-x-eq2-via-then-x-eq2, then-x-eq2-via-else-x-eq2+then-k-e}
use Rattle.matching.proofs.marks.put_kept.Goals as goal

pub returns-then-x-eq2 : goal.returns-then-x-eq2
returns-then-x-eq2 c =
    elim c.then-x-eq2.branch [
      | then-x-eq2-via-then-x-eq2 w ↦ kept-marked _ _ _ _ w.if-x-eq2.true c.requires.0
      | then-x-eq2-via-else-x-eq2+then-k-e w ↦ put_full _ _ _ _ w.if-k-e.true
    ]

pub returns : goal.returns
returns c = kept_put _ _ _ _ c.if-x-eq2.false (search rules) c.requires.1
