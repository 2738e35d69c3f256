use mathlib.Core.Path.{◌≡◌, sym, ap, ◌∙◌}
use mathlib.Core.Bool.{true, false, true≢false}
use Prim.Native.Nat.{◌+◌, ◌-◌}
use native.Mathlib.Omega.{arith}
use lib.ListN.{length, take}
use Rattle.cutting.proofs.PlanFields.{some-fields}
use Rattle.matching.specs.Steps.Copies.{copies_agree}
use Rattle.block.specs.Steps.Blocks.{checks_by}
use Rattle.block.proofs.PlanFields.{word_room}
use Rattle.block.proofs.ReceivedBlock.{planned-sent-as, gathered-own}
use Rattle.block.proofs.inner.is_sent_as.Goals as goal

pub overflow_sub-rest : goal.overflow_sub-rest
overflow_sub-rest c =
    let a = c.args in
    let R = a.profile.now in
    omega (arith, word_room R a.plan (some-fields R a.plan c.requires.some), c.requires.fits)

pub returns-then-not-copies_agree : goal.returns-then-not-copies_agree
returns-then-not-copies_agree c =
    let a = c.args in
    let R = a.profile.now in
    let law = planned-sent-as R a.plan c.requires.some a.s.now a.carried a.from c.requires.carried_fits (omega (arith, c.requires.starts, c.requires.fits)) (omega (arith, c.requires.room, c.requires.fits)) c.requires.single (length a.word.now) c.requires.fits in
    let none : copies_agree (a.carried + (length a.word.now - a.plan.places)) a.s.now ≡ false = sym c.copies_agree.ensures ∙ c.if-not-copies_agree.true in
    record { is = rw none at law; front = λ q. absurd (true≢false (sym q)) }

pub gather-requires : goal.gather-requires
gather-requires c =
    let a = c.args in
    let R = a.profile.now in
    (c.requires.carried_fits, omega (arith, word_room R a.plan (some-fields R a.plan c.requires.some), c.requires.fits), omega (arith, c.requires.starts), c.requires.room)

pub returns : goal.returns
returns c =
    let a = c.args in
    let R = a.profile.now in
    let law = planned-sent-as R a.plan c.requires.some a.s.now a.carried a.from c.requires.carried_fits (omega (arith, c.requires.starts, c.requires.fits)) (omega (arith, c.requires.room, c.requires.fits)) c.requires.single (length a.word.now) c.requires.fits in
    let all : copies_agree (a.carried + (length a.word.now - a.plan.places)) a.s.now ≡ true = sym c.copies_agree.ensures ∙ c.if-not-copies_agree.false in
    let gather = c.gather in
    record {
      is = c.is_even.ensures ∙ ap (checks_by R a.plan) gather.ensures ∙ (rw all at law);
      front = λ q. ap (take a.carried) gather.ensures ∙ gathered-own R a.plan c.requires.some a.s.now a.carried a.from c.requires.carried_fits (omega (arith, c.requires.starts, c.requires.fits)) (omega (arith, c.requires.room, c.requires.fits)) c.requires.single (length a.word.now) c.requires.fits;
    }
