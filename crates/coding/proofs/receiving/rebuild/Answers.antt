use mathlib.Core.Path.{◌≡◌, refl, sym, ap, ◌∙◌}
use mathlib.Core.Bool.{true≢false}
use Prim.Native.Nat.{◌+◌, ◌-◌, ◌≤◌, ◌<◌}
use native.Mathlib.Omega.{arith}
use lib.ListN.{length, take, drop}
use Rattle.bits.specs.declared.count.CodedBits.{CodedBits}
use Rattle.bits.proofs.Lists.{bits-take, bits-drop, length_part}
use Rattle.matching.proofs.Start.{versioned}
use Rattle.block.proofs.PlanFields.{word_room}
use Rattle.coding.proofs.Rebuilt.{walk_none, walk_more, walk-done, block-other, fields, given_here, room_here}
use Rattle.coding.proofs.Sent.{own-fits, carried-room, share-is, share-fits, start_in}
use Rattle.coding.proofs.receiving.rebuild.Goals as goal

pub loop-r-init : goal.loop-r-init
loop-r-init c = let a = c.args in
    (refl, walk_none a.profile.now a.terms a.bits.now a.plan.bits a.room.now)

pub own_bits-own-requires : goal.own_bits-own-requires
own_bits-own-requires c = let l = c in
    let st = l.before.before.before.before.before.before in
    let a = st.args in
    let R = a.profile.now in
    let s = a.bits.now in
    let h = st.requires.0 in
    let k = fields R a.terms s a.plan h in
    let given = given_here R a.terms s a.plan h in
    let i = l.before.loop-r in
    let order : i.r < a.plan.blocks = omega (arith, l) in
    (k.cut.bits_high, omega (arith, order), omega (arith, k.blocks_is, k.cut.most))

pub overflow_add-at : goal.overflow_add-at
overflow_add-at c = let a = c.args in
    let R = a.profile.now in
    let s = a.bits.now in
    let h = c.requires.0 in
    let k = fields R a.terms s a.plan h in
    let given = given_here R a.terms s a.plan h in
    let i = c.loop-r in
    let order : i.r < a.plan.blocks = omega (arith, c) in
    let own = c.own_bits-own in
    let e = c.share_of-e in
    let mine = share-is R a.plan a.terms k (length s) i.r e.result.0 (ap (λ (x : CodedBits). x.0) e.ensures) in
    let fits = share-fits R a.plan a.terms k (length s) given i.r i.at e.result.0 order i.invariant.1.stands mine in
    omega (arith, fits, h.receivable.allocated.most)

pub slice_bounds-is_received-end : goal.slice_bounds-is_received-end
slice_bounds-is_received-end c = let a = c.args in
    let R = a.profile.now in
    let s = a.bits.now in
    let h = c.requires.0 in
    let k = fields R a.terms s a.plan h in
    let given = given_here R a.terms s a.plan h in
    let i = c.loop-r in
    let order : i.r < a.plan.blocks = omega (arith, c) in
    let own = c.own_bits-own in
    let e = c.share_of-e in
    let mine = share-is R a.plan a.terms k (length s) i.r e.result.0 (ap (λ (x : CodedBits). x.0) e.ensures) in
    let fits = share-fits R a.plan a.terms k (length s) given i.r i.at e.result.0 order i.invariant.1.stands mine in
    fits

pub is_received-requires : goal.is_received-requires
is_received-requires c = let a = c.args in
    let R = a.profile.now in
    let s = a.bits.now in
    let h = c.requires.0 in
    let k = fields R a.terms s a.plan h in
    let given = given_here R a.terms s a.plan h in
    let i = c.loop-r in
    let order : i.r < a.plan.blocks = omega (arith, c) in
    let own = c.own_bits-own in
    let e = c.share_of-e in
    let mine = share-is R a.plan a.terms k (length s) i.r e.result.0 (ap (λ (x : CodedBits). x.0) e.ensures) in
    let fits = share-fits R a.plan a.terms k (length s) given i.r i.at e.result.0 order i.invariant.1.stands mine in
    let whole : i.at + e.result.0 - i.at ≡ e.result.0 = omega arith in
    let size : length (take (i.at + e.result.0 - i.at) (drop i.at s)) ≡ e.result.0 = rw whole (length_part e.result.0 i.at s fits) in
    record {
      some = record { edition = a.terms.edition; of = record { octets = h.octets; taken = h.receivable.taken; plan = h.plan } };
      carried_fits = carried-room R a.plan k i.r own.result own.ensures;
      starts = omega (arith, start_in R a.plan a.terms k (versioned _ _ h.receivable.version) a.from c.requires.1, i.invariant.0, c.requires.2);
      fits = i.invariant.0 ∙ c.requires.2;
      room = omega (arith, size, i.invariant.0, c.requires.2, room_here R a.terms s a.plan h i.r own.result e.result.0 order own.ensures mine);
      single = bits-take (i.at + e.result.0 - i.at) (drop i.at s) (bits-drop i.at s h.receivable.single);
    }

pub returns-then-not-is_received : goal.returns-then-not-is_received
returns-then-not-is_received c = let a = c.args in
    let R = a.profile.now in
    let s = a.bits.now in
    let h = c.requires.0 in
    let k = fields R a.terms s a.plan h in
    let given = given_here R a.terms s a.plan h in
    let i = c.loop-r in
    let order : i.r < a.plan.blocks = omega (arith, c) in
    let own = c.own_bits-own in
    let e = c.share_of-e in
    let mine = share-is R a.plan a.terms k (length s) i.r e.result.0 (ap (λ (x : CodedBits). x.0) e.ensures) in
    let fits = share-fits R a.plan a.terms k (length s) given i.r i.at e.result.0 order i.invariant.1.stands mine in
    let whole : i.at + e.result.0 - i.at ≡ e.result.0 = omega arith in
    let is = c.is_received in
    let told = rw whole at is.ensures.is in
    record {
      sent = λ q. absurd (true≢false (sym q));
      other = λ q all.
          block-other R a.terms s a.plan h i.r i.at e.result.0 own.result a.from order i.invariant.1.stands mine own.ensures c.requires.1
          is.result told (c.if-not-is_received.true) all;
    }

pub lay-requires : goal.lay-requires
lay-requires c = let a = c.args in
    let R = a.profile.now in
    let s = a.bits.now in
    let h = c.requires.0 in
    let k = fields R a.terms s a.plan h in
    let given = given_here R a.terms s a.plan h in
    let i = c.loop-r in
    let order : i.r < a.plan.blocks = omega (arith, c) in
    let own = c.own_bits-own in
    let e = c.share_of-e in
    let mine = share-is R a.plan a.terms k (length s) i.r e.result.0 (ap (λ (x : CodedBits). x.0) e.ensures) in
    let fits = share-fits R a.plan a.terms k (length s) given i.r i.at e.result.0 order i.invariant.1.stands mine in (
      omega (arith, carried-room R a.plan k i.r own.result own.ensures, word_room R a.plan k, c.is_received.auto.word, i.invariant.0, c.requires.2),
      omega (arith, own-fits R a.plan k i.r i.start own.result order i.invariant.1.starts own.ensures, i.invariant.1.same, c.requires.3),
    )

pub overflow_add-start : goal.overflow_add-start
overflow_add-start c = let a = c.args in
    let R = a.profile.now in
    let s = a.bits.now in
    let h = c.requires.0 in
    let k = fields R a.terms s a.plan h in
    let given = given_here R a.terms s a.plan h in
    let i = c.loop-r in
    let order : i.r < a.plan.blocks = omega (arith, c) in
    let own = c.own_bits-own in
    let e = c.share_of-e in
    let mine = share-is R a.plan a.terms k (length s) i.r e.result.0 (ap (λ (x : CodedBits). x.0) e.ensures) in
    let fits = share-fits R a.plan a.terms k (length s) given i.r i.at e.result.0 order i.invariant.1.stands mine in
    omega (arith, own-fits R a.plan k i.r i.start own.result order i.invariant.1.starts own.ensures, k.cut.bits_high)

pub loop-r-preserved : goal.loop-r-preserved
loop-r-preserved c = let a = c.args in
    let R = a.profile.now in
    let s = a.bits.now in
    let h = c.requires.0 in
    let k = fields R a.terms s a.plan h in
    let given = given_here R a.terms s a.plan h in
    let i = c.loop-r in
    let order : i.r < a.plan.blocks = omega (arith, c) in
    let own = c.own_bits-own in
    let e = c.share_of-e in
    let mine = share-is R a.plan a.terms k (length s) i.r e.result.0 (ap (λ (x : CodedBits). x.0) e.ensures) in
    let fits = share-fits R a.plan a.terms k (length s) given i.r i.at e.result.0 order i.invariant.1.stands mine in
    let whole : i.at + e.result.0 - i.at ≡ e.result.0 = omega arith in
    let is = c.is_received in
    let told = rw whole at is.ensures.is in
    let yes = c.if-not-is_received.false in
    let word = is.new.word in
    let has : own.result ≤ length word = omega (arith, carried-room R a.plan k i.r own.result own.ensures, word_room R a.plan k, is.auto.word, i.invariant.0, c.requires.2) in (
      is.auto.word ∙ i.invariant.0,
      walk_more R a.terms s a.plan h i.r i.at e.result.0 own.result a.from order i.invariant.1.stands mine own.ensures c.requires.1
          is.result told a.room.now word i.room _ i.start yes c.requires.3 (rw whole at (is.ensures.front yes)) has i.invariant.1 c.lay.ensures,
    )

pub returns : goal.returns
returns c = let a = c.args in
    let i = c.loop-r in
    let last : i.r ≡ a.plan.blocks = omega (arith, c) in
    record {
      sent = λ q. walk-done a.profile.now a.terms a.bits.now a.plan c.requires.0 a.room.now i.room i.r i.start i.at last i.invariant.1;
      other = λ q. absurd (true≢false q);
    }
