use native.Mathlib.Omega.{arith}
use Rattle.matching.proofs.Gathered.{gathered}
use Rattle.matching.proofs.inner.gather.Goals as goal

pub returns : goal.returns
returns c =
    let a = c.args in
    let low = c.min-low in
    let high = c.saturating_sub-high in
    gathered a.s.now a.word.now a.own a.places a.start c.requires.0 c.requires.1 c.requires.2 c.requires.3
    low.result high.result (omega (arith, low.ensures)) (omega (arith, high.ensures)) _ _ _ _ _
    c.lay.ensures c.lay-2.ensures c.mark.ensures c.lay-3.ensures c.lay-4.ensures
