use mathlib.Core.Path.{ap, ◌∙◌}
use mathlib.Core.List.{List, ◌++◌}
use Prim.Native.Nat.{ℕ, ◌*◌}
use native.Mathlib.Omega.{arith}
use lib.ListN.{drop}
use lib.Seq.{length-take-le}
use Rattle.control.proofs.Collecting.{collected-filled, collected-sent}
use borrow.Author.Rules.{rules}
use Rattle.control.proofs.streams.send.Goals as goal

pub match_filled-requires : goal.match_filled-requires
match_filled-requires c =
    let m = c.collect in
    let size = length-take-le (3 * c.args.d) m.new.out (omega (arith, m.auto.out, c.requires)) in
    (collected-filled c.args.d (omega (arith, c.requires)) c.requires.1 c.args.streams.now c.requires.3 _ m.ensures, omega (arith, size, c.requires), search rules, c.requires.4)

pub returns : goal.returns
returns c =
    c.match_filled.ensures ∙ ap (λ (l : List ℕ). l ++ drop c.args.e.0 c.args.out.now) (collected-sent c.args.d (omega (arith, c.requires)) c.requires.1 c.args.streams.now c.requires.3 _ c.collect.ensures c.args.e.0)
