use mathlib.Core.Path.{◌≡◌, refl}
use native.Mathlib.Omega.{arith}
use lib.Dec.{ltb}
use lib.ListN.{length}
use borrow.Author.Rules.{rules}
use Rattle.std.proofs.lemmas.List.Sorted.{IsPartitionPoint-from_clause}
use Rattle.std.proofs.lemmas.Grind.{common_steps}
use Rattle.shelf.specs.Shelf.{count}
use Rattle.shelf.specs.Steps.Walking.{pair_in}
use Rattle.shelf.proofs.Heads.{Heads, heads-parted, parted-at}
use Rattle.shelf.proofs.inner.find.place_of.Goals as goal

pub returns : goal.returns
returns c =
    let S = c.args.shelf.now in
    let n = count S in
    let H = c.as_chunks.result.0.now in
    let l : length H ≡ n = grind (arith, common_steps) in
    let h : H ≡ Heads S n = grind (arith, common_steps) in
    let p = IsPartitionPoint-from_clause (λ y. ltb (pair_in y) c.args.asked) H c.partition_point.result c.partition_point.ensures.partitioned (heads-parted S c.args.asked n (refl) H h l c.requires.1) (λ a r q k. search rules) in
    parted-at S c.args.asked n refl H h l c.partition_point.result (omega (arith, c.partition_point.ensures.bound)) p
