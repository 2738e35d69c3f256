use borrow.Author.Tests.{le-leb, lt-leb}
use Rattle.shelf.specs.Steps.Walking.{sizes_right}
use Rattle.shelf.proofs.inner.form.sizes_right.Goals as goal

pub returns-then-shelf-lt2 : goal.returns-then-shelf-lt2
unfolding sizes_right
returns-then-shelf-lt2 c = simp (lt-leb 2 _ c.if-shelf-lt2.true)

pub returns-then-shelf-gt65535 : goal.returns-then-shelf-gt65535
unfolding sizes_right
returns-then-shelf-gt65535 c = simp (le-leb 2 _ c.if-shelf-lt2.false, lt-leb _ 65535 c.if-shelf-gt65535.true)

pub returns-then-count-gt64 : goal.returns-then-count-gt64
unfolding sizes_right
returns-then-count-gt64 c =
    rw (le-leb 2 _ c.if-shelf-lt2.false, le-leb _ 65535 c.if-shelf-gt65535.false, ← c.count-count.ensures.0, lt-leb _ 64 c.if-count-gt64.true)

pub returns : goal.returns
unfolding sizes_right
returns c =
    rw (le-leb 2 _ c.if-shelf-lt2.false, le-leb _ 65535 c.if-shelf-gt65535.false, ← c.count-count.ensures.0, le-leb _ 64 c.if-count-gt64.false)
