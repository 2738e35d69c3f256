use mathlib.Core.Path.{◌≡◌, sym, ap, ◌∙◌}
use mathlib.Core.List.{List}
use Prim.Native.Nat.{ℕ, ◌+◌}
use native.Mathlib.Nat.{zero-add}
use native.Mathlib.Omega.{arith}
use lib.ListN.{length, get_or, take, drop}
use lib.Seq.{get_or-take}
use borrow.Author.Rules.{rules}
use Rattle.bits.proofs.Lists.{bits-take, bits-drop, length_part}
use Rattle.bits.proofs.Laid.{laid-front}
use Rattle.bits.proofs.Filler.{marked-filled}
use Rattle.cutting.specs.Cutting.{with_sum}
use Rattle.cutting.proofs.Summed.{length-with-sum}
use Rattle.cutting.proofs.inner.lay_block.Goals as goal

pub lay_sum-requires : goal.lay_sum-requires
lay_sum-requires c =
    let laid : take c.args.own c.lay.new.out
    ≡ take c.args.own (drop c.args.start c.args.bits.now) = let a = c.args in
    ap (λ (n : ℕ). take n c.lay.new.out) (sym (zero-add a.own)) ∙ laid-front a.bits.now a.word.now c.lay.new.out a.start a.own 0 c.requires.0 (omega (arith, c.requires.1, c.requires.2)) c.lay.ensures in
    let a = c.args in
    (omega (arith, c.requires.1, c.requires.2, c.lay.ensures.len), c.requires.3, rw laid (bits-take a.own (drop a.start a.bits.now) (bits-drop a.start a.bits.now c.requires.4)))

pub returns : goal.returns
returns c =
    let laid : take c.args.own c.lay.new.out
    ≡ take c.args.own (drop c.args.start c.args.bits.now) = let a = c.args in
    ap (λ (n : ℕ). take n c.lay.new.out) (sym (zero-add a.own)) ∙ laid-front a.bits.now a.word.now c.lay.new.out a.start a.own 0 c.requires.0 (omega (arith, c.requires.1, c.requires.2)) c.lay.ensures in
    let a = c.args in
    let mine = take a.own (drop a.start a.bits.now) in
    let carried = with_sum a.sums mine in
    let sum = c.lay_sum in
    let mark = c.mark in
    let long : length carried ≡ a.own + a.sums =
    length-with-sum a.sums mine c.requires.3 ∙ ap (λ (n : ℕ). n + a.sums) (length_part a.own a.start a.bits.now c.requires.0) in
    let front : take (a.own + a.sums) sum.new.word ≡ carried = sum.ensures ∙ ap (with_sum a.sums) laid in
    record {
      len = search rules;
      front = marked-filled carried sum.new.word mark.new.word a.places
          (λ p l. sym (get_or-take (a.own + a.sums) sum.new.word p 0 (omega arith)) ∙ ap (λ (s : List ℕ). get_or s p 0) front) (rw long mark.ensures);
    }
