use mathlib.Core.Path.{◌≡◌}
use Prim.Native.Nat.{◌-◌}
use native.Mathlib.Omega.{arith}
use borrow.Author.Tests.{lt-leb, le-leb}
use lib.ListN.{length, take, drop, length-drop}
use lib.Seq.{take_all}
use Rattle.masked.proofs.ends_in.Goals as goal

pub returns-then-word-w : goal.returns-then-word-w
returns-then-word-w c = rw (lt-leb _ _ c.if-word-w.true)

pub returns : goal.returns
returns c =
    let a = c.args in
    let b = a.word.now in
    let n = length b - a.w in
    let last : take a.w (drop n b) ≡ drop n b = take_all a.w (drop n b) (omega (arith, length-drop n b)) in
    rw (le-leb _ _ c.if-word-w.false) (cc last)
