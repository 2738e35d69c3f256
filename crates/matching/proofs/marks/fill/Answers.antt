use Prim.Native.Nat.{◌<◌}
use native.Mathlib.Omega.{arith}
use borrow.Author.Rules.{rules}
use Rattle.matching.proofs.Put.{put_enough, put_again, put_some, put_halves, asked_some}
use Rattle.matching.proofs.marks.fill.Goals as goal

pub repeat-requires : goal.repeat-requires
repeat-requires c =
    let a = c.args in
    let all = put_halves a.coded.now a.start c.requires.0 c.put_all_kept-one.ensures c.put_all_kept-all.ensures in
    let more : c.put_all_kept-all.result < a.e.0 = search rules in
    (put_some a.coded.now a.start (asked_some _ _ c.requires.2 (omega arith)) all more, all.most, omega (arith, all.len, c.requires.1))

pub returns-then-n-e : goal.returns-then-n-e
returns-then-n-e c =
    let a = c.args in
    let all = put_halves a.coded.now a.start c.requires.0 c.put_all_kept-one.ensures c.put_all_kept-all.ensures in
    let more : c.put_all_kept-all.result < a.e.0 = omega (arith, c.before.before.before.before.before) in
    put_again _ _ _ _ _ c.requires.1 all _ more (put_some a.coded.now a.start (asked_some _ _ c.requires.2 (omega arith)) all more) c.repeat.ensures

pub returns-else-n-e : goal.returns-else-n-e
returns-else-n-e c =
    let a = c.args in
    put_enough _ _ _ _ _ c.requires.1 (put_halves a.coded.now a.start c.requires.0 c.put_all_kept-one.ensures c.put_all_kept-all.ensures) (search rules)
