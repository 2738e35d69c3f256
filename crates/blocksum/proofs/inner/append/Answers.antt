use mathlib.Core.Path.{sym}
use lib.Seq.{length-take-le}
use borrow.Author.Rules.{rules}
use Rattle.blocksum.proofs.inner.append.Goals as goal

pub slice_bounds-sum-end-2 : goal.slice_bounds-sum-end-2
slice_bounds-sum-end-2 c = sym (length-take-le _ c.args.word.now (search rules))

pub returns : goal.returns
returns c = cc
