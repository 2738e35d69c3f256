use mathlib.Core.Bool.{true}
use Prim.Native.Nat.{◌≤◌, ◌<◌}
use native.Mathlib.Omega.{arith}
use Rattle.shelf.specs.Shelf.{count}
use Rattle.shelf.proofs.WellFormed.{formed-is}
use Rattle.keeping.proofs.Writing.{heads-turn, records-turn, heads_end, records_end}
use Rattle.keeping.proofs.write.put_heads.Goals as goal

pub loop-k-preserved : goal.loop-k-preserved
loop-k-preserved c =
    let put = c.put_entry-next in
    let a = c.args in
    let l = c.loop-k in
    let S = a.private.now in
    let f = formed-is S true c.requires.0 in
    let more : l.k < a.to = omega arith in
    let last : a.to ≤ count S = c.requires.2 in (
      omega (arith, more, l.invariant.0),
      omega (arith, put.auto, l.invariant.1),
      omega (arith, put.ensures.1, l.invariant.2, records-turn S true f a.to l.k more last),
      cc (heads-turn S true f a.to l.k more last l.out l.place l.next, put.ensures.0, put.ensures.1, l.invariant.3),
    )

pub returns : goal.returns
returns c =
    let a = c.args in
    let l = c.loop-k in
    let S = a.private.now in
    let f = formed-is S true c.requires.0 in
    let end : a.to ≤ l.k = omega arith in
    (cc (heads_end S true f a.to l.k end l.out l.place l.next, l.invariant.3), omega (arith, l.invariant.2, records_end S true f a.to l.k end))
