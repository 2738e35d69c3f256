use mathlib.Core.Path.{◌≡◌, sym, ◌∙◌}
use lib.ListN.{length, take}
use lib.Seq.{length-take-le}
use Rattle.nearest.proofs.Below.{comes_before, before_value}
use Rattle.nearest.proofs.Kept.{beats-same}
use Rattle.nearest.proofs.words.is_better.Goals as goal

pub returns-then-v-best-2 : goal.returns-then-v-best-2
unfolding comes_before
returns-then-v-best-2 c =
    let a = c.args in
    let p = c.requires in
    let long : length (take a.d a.word.now) ≡ length (take a.d a.out.now) = length-take-le a.d a.word.now p.1 ∙ sym (length-take-le a.d a.out.now p.0) in
    let smaller = before_value (take a.d a.word.now) (take a.d a.out.now) long p.3 p.2 in
    c.lt.ensures ∙ smaller ∙ sym (beats-same a.best (take a.d a.out.now) a.v (take a.d a.word.now) c.if-v-best-2.true)
