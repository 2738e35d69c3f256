use mathlib.Core.Path.{◌≡◌, refl, sym, ap, ap₂, ◌∙◌}
use mathlib.Core.List.{List, ◌++◌}
use Prim.Native.Nat.{ℕ, ◌-◌, ◌<◌}
use native.Mathlib.Omega.{arith}
use lib.ListN.{length, take, drop, length-drop}
use Rattle.bits.specs.Ranges.{sum_below}
use Rattle.bits.specs.declared.count.CodedBits.{CodedBits}
use Rattle.cutting.specs.Plan.{blocks}
use Rattle.cutting.proofs.PlanFields.{of_fields}
use Rattle.matching.proofs.Start.{versioned}
use Rattle.coding.specs.Allocation.{share}
use Rattle.coding.specs.Joining.{block_sent, joined, radio_bits}
use Rattle.coding.proofs.Joining.{joined-none, joined_more, part_rest}
use Rattle.coding.proofs.Shares.{shares_all}
use Rattle.coding.proofs.Sent.{start_none, start_turn, own_is, own-fits, carried-room, share-is, length-block, share-fits, share-turn, start_in, block-is}
use Rattle.coding.proofs.sending.send_blocks.Goals as goal

pub loop-r-init : goal.loop-r-init
unfolding sum_below
loop-r-init c =
    let a = c.args in
    (sym (start_none a.profile.now a.terms.edition a.plan.bits), refl, refl, joined-none (block_sent a.profile.now a.plan.bits a.bits.now a.terms a.g.0) a.out.now)

pub own_bits-own-requires : goal.own_bits-own-requires
own_bits-own-requires c =
    let l = c in
    let st = l.before.before.before.before.before.before in
    let a = st.args in
    let R = a.profile.now in
    let s = a.bits.now in
    let k = of_fields R a.terms.edition a.plan st.requires.0.ready.of in
    let i = l.before.loop-r in
    (k.cut.bits_high, omega (arith, k.blocks_is, k.cut.some), omega (arith, k.blocks_is, k.cut.most))

pub send_block-requires : goal.send_block-requires
send_block-requires c =
    let a = c.args in
    let R = a.profile.now in
    let s = a.bits.now in
    let k = of_fields R a.terms.edition a.plan c.requires.0.ready.of in
    let i = c.loop-r in
    let own = c.own_bits-own in
    let e = c.share_of-e in
    let order : i.r < a.plan.blocks = omega (arith, c) in
    let mine = share-is R a.plan a.terms k a.g.0 i.r e.result.0 (ap (λ (x : CodedBits). x.0) e.ensures) in
    let room = share-fits R a.plan a.terms k a.g.0 c.requires.0.allocated i.r i.at e.result.0 order i.invariant.2 mine in (
      record {
        edition = a.terms.edition;
        ready = c.requires.0.ready;
        carried_fits = carried-room R a.plan k i.r own.result own.ensures;
        inside = omega (arith, own-fits R a.plan k i.r i.start own.result order i.invariant.0 own.ensures, c.requires.0.ready.size);
        fits = i.invariant.1 ∙ c.requires.2;
      },
      omega (arith, start_in R a.plan a.terms k (versioned _ _ c.requires.0.version) a.from c.requires.1, i.invariant.1, c.requires.2),
      rw part_rest (simp length-drop (omega (arith, room, i.invariant.3.same, c.requires.0.room))),
    )

pub overflow_add-start : goal.overflow_add-start
overflow_add-start c =
    let a = c.args in
    let R = a.profile.now in
    let s = a.bits.now in
    let k = of_fields R a.terms.edition a.plan c.requires.0.ready.of in
    let i = c.loop-r in
    let own = c.own_bits-own in
    let e = c.share_of-e in
    let order : i.r < a.plan.blocks = omega (arith, c) in
    let mine = share-is R a.plan a.terms k a.g.0 i.r e.result.0 (ap (λ (x : CodedBits). x.0) e.ensures) in
    let fits = own-fits R a.plan k i.r i.start own.result order i.invariant.0 own.ensures in
    omega (arith, fits, k.cut.bits_high)

pub overflow_add-at : goal.overflow_add-at
overflow_add-at c =
    let a = c.args in
    let R = a.profile.now in
    let s = a.bits.now in
    let k = of_fields R a.terms.edition a.plan c.requires.0.ready.of in
    let i = c.loop-r in
    let own = c.own_bits-own in
    let e = c.share_of-e in
    let order : i.r < a.plan.blocks = omega (arith, c) in
    let mine = share-is R a.plan a.terms k a.g.0 i.r e.result.0 (ap (λ (x : CodedBits). x.0) e.ensures) in
    let room = share-fits R a.plan a.terms k a.g.0 c.requires.0.allocated i.r i.at e.result.0 order i.invariant.2 mine in
    let fits = own-fits R a.plan k i.r i.start own.result order i.invariant.0 own.ensures in
    omega (arith, room, fits, k.cut.bits_high, c.requires.0.allocated.most)

pub loop-r-preserved : goal.loop-r-preserved
loop-r-preserved c =
    let a = c.args in
    let R = a.profile.now in
    let s = a.bits.now in
    let k = of_fields R a.terms.edition a.plan c.requires.0.ready.of in
    let i = c.loop-r in
    let own = c.own_bits-own in
    let e = c.share_of-e in
    let order : i.r < a.plan.blocks = omega (arith, c) in
    let mine = share-is R a.plan a.terms k a.g.0 i.r e.result.0 (ap (λ (x : CodedBits). x.0) e.ensures) in
    let sent = c.send_block in
    let f = block_sent R a.plan.bits s a.terms a.g.0 in
    let turn = start_turn R a.terms.edition a.plan.bits i.r in
    let here = own_is R a.plan k i.r own.result own.ensures in
    let written = sent.ensures ∙ ap (λ (x : List ℕ). x ++ drop e.result.0 (take (length i.out - i.at) (drop i.at i.out))) (block-is R a.plan a.terms k a.g.0 s i.r i.start own.result a.from e.result.0 i.invariant.0 own.ensures c.requires.1 mine) in (
      omega (arith, turn, here, i.invariant.0),
      omega (arith, sent.auto.word, i.invariant.1),
      omega (arith, share-turn R a.plan a.terms k a.g.0 i.r i.at e.result.0 i.invariant.2 mine),
      joined_more f a.out.now i.out sent.new.out i.r i.at e.result.0 _ (omega arith) i.invariant.3 (length-block R a.plan a.terms k a.g.0 s i.r ∙ sym mine) written c.out-1.given.1,
    )

pub returns : goal.returns
unfolding radio_bits
returns c =
    let a = c.args in
    let R = a.profile.now in
    let s = a.bits.now in
    let k = of_fields R a.terms.edition a.plan c.requires.0.ready.of in
    let i = c.loop-r in
    let all : blocks R a.terms.edition a.plan.bits ≡ i.r = omega (arith, k.blocks_is, c) in
    let f = block_sent R a.plan.bits s a.terms a.g.0 in
    let given = rw k.blocks_is at c.requires.0.allocated in
    let end : i.at ≡ a.g.0 =
    i.invariant.2 ∙ ap (λ (n : ℕ). sum_below n (λ j. (share a.terms a.g.0 (blocks R a.terms.edition a.plan.bits) j).0)) (sym all)
    ∙ shares_all a.terms a.g.0 (blocks R a.terms.edition a.plan.bits) given in
    i.invariant.3.is ∙ ap₂ (λ (n at : ℕ). joined n f ++ drop at a.out.now) (sym all) end
