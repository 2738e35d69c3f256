use mathlib.Core.List.{List, ◌++◌}
use mathlib.Core.Path.{ap, ◌∙◌}
use Prim.Native.Nat.{ℕ, ◌<◌}
use native.Mathlib.Omega.{arith}
use lib.ListN.{length, drop}
use Rattle.cutting.proofs.PlanFields.{of_fields}
use Rattle.matching.specs.Matching.{matched, turned}
use Rattle.block.proofs.PlanFields.{word_room, word-coded, word-filler}
use Rattle.block.proofs.inner.send_block.Goals as goal

pub match_filled-requires : goal.match_filled-requires
match_filled-requires c =
    let a = c.args in
    let R = a.profile.now in
    let k = of_fields R c.requires.0.edition a.plan c.requires.0.ready.of in
    let code = c.code in
    let filled = word-filler R a.bits.now a.plan k c.requires.0.ready.single a.start a.own c.requires.0.carried_fits c.requires.0.inside code.new.word code.ensures in
    let room = word_room R a.plan k in
    let tail : a.plan.places < length code.new.word = omega (arith, room, code.ensures.size) in
    (filled, tail, omega (arith, code.ensures.size, c.requires.0.fits, c.requires.1), omega (arith, c.requires.2))

pub returns : goal.returns
returns c =
    let a = c.args in
    let R = a.profile.now in
    let k = of_fields R c.requires.0.edition a.plan c.requires.0.ready.of in
    let code = c.code in
    let same = word-coded R a.bits.now a.plan k c.requires.0.ready.single a.start a.own c.requires.0.carried_fits c.requires.0.inside code.new.word code.ensures in
    c.match_filled.ensures ∙ ap (λ (w : List ℕ). matched (turned a.from w) a.e.0 ++ drop a.e.0 a.out.now) same
