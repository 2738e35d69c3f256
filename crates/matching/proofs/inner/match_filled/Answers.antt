use Prim.Native.Nat.{◌<◌}
use native.Mathlib.Omega.{arith}
use borrow.Author.Rules.{rules}
use Rattle.matching.proofs.Put.{put_enough, put_again, put_some, filled-some}
use Rattle.matching.proofs.inner.match_filled.Goals as goal

pub repeat-requires : goal.repeat-requires
repeat-requires c =
    let pre = c.requires in
    let a = c.args in
    let up = c.line_up-n.ensures in
    (put_some a.coded.now a.start (filled-some _ _ _ pre.0 pre.1) up (search rules), up.most, omega (arith, up.len, pre.3))

pub returns-then-n-e : goal.returns-then-n-e
returns-then-n-e c =
    let pre = c.requires in
    let a = c.args in
    let up = c.line_up-n.ensures in
    let more : c.line_up-n.result.0 < a.e.0 = omega (arith, c.before.before.before.before.before) in
    put_again _ _ _ _ _ pre.3 up _ more (put_some a.coded.now a.start (filled-some _ _ _ pre.0 pre.1) up more) c.repeat.ensures

pub returns-else-n-e : goal.returns-else-n-e
returns-else-n-e c = put_enough _ _ _ _ _ c.requires.3 c.line_up-n.ensures (search rules)
