use mathlib.Core.Path.{◌≡◌, ap, ap₂, ◌∙◌}
use mathlib.Core.Bool.{true}
use Prim.Native.Nat.{ℕ, ◌+◌, ◌-◌, ◌≤◌}
use native.Mathlib.Omega.{arith}
use lib.ListN.{length, take, drop}
use lib.Seq.{sets}
use Rattle.shelf.specs.Shelf.{offset_due}
use Rattle.shelf.proofs.WellFormed.{Formed, formed-is}
use Rattle.keeping.specs.Entries.{entries_from, records}
use Rattle.keeping.proofs.Writing.{laid-sets, due_part, due-within, part_is}
use Rattle.keeping.proofs.write.put_records.Goals as goal

pub due-start-requires : goal.due-start-requires
due-start-requires c =
    let formed : Formed c.args.private.now true = formed-is c.args.private.now true c.requires.0 in
    (formed.sizes.room, omega (arith, c.requires.1, c.requires.2))

pub due-end-requires : goal.due-end-requires
due-end-requires c =
    let formed : Formed c.args.private.now true = formed-is c.args.private.now true c.requires.0 in
    (formed.sizes.room, c.requires.2)

pub overflow_sub-end : goal.overflow_sub-end
overflow_sub-end c =
    let formed : Formed c.args.private.now true = formed-is c.args.private.now true c.requires.0 in
    let part : offset_due c.args.private.now c.args.from
    + length (records (entries_from c.args.private.now (c.args.to - c.args.from) c.args.from))
    ≡ offset_due c.args.private.now c.args.to = due_part c.args.private.now true formed c.args.from c.args.to c.requires.1 c.requires.2 in
    omega (arith, part, c.due-start.ensures.0, c.due-end.ensures.0)

pub lay-requires : goal.lay-requires
lay-requires c =
    let formed : Formed c.args.private.now true = formed-is c.args.private.now true c.requires.0 in
    let part : offset_due c.args.private.now c.args.from
    + length (records (entries_from c.args.private.now (c.args.to - c.args.from) c.args.from))
    ≡ offset_due c.args.private.now c.args.to = due_part c.args.private.now true formed c.args.from c.args.to c.requires.1 c.requires.2 in
    let within : offset_due c.args.private.now c.args.to ≤ length c.args.private.now = due-within c.args.private.now true formed c.args.from c.args.to c.requires.1 c.requires.2 in
    (omega (arith, part, within, c.due-start.ensures.0, c.due-end.ensures.0), omega (arith, part, c.requires.3, c.due-start.ensures.0, c.due-end.ensures.0))

pub returns : goal.returns
returns c =
    let formed : Formed c.args.private.now true = formed-is c.args.private.now true c.requires.0 in
    let part : offset_due c.args.private.now c.args.from
    + length (records (entries_from c.args.private.now (c.args.to - c.args.from) c.args.from))
    ≡ offset_due c.args.private.now c.args.to = due_part c.args.private.now true formed c.args.from c.args.to c.requires.1 c.requires.2 in
    let within : offset_due c.args.private.now c.args.to ≤ length c.args.private.now = due-within c.args.private.now true formed c.args.from c.args.to c.requires.1 c.requires.2 in
    let lay = c.lay in
    let a = c.args in
    let S = a.private.now in
    let start = c.due-start.result in
    let end = c.due-end.result in
    laid-sets S a.out.now lay.new.out start (end - start) a.at
    (omega (arith, part, within, c.due-start.ensures.0, c.due-end.ensures.0)) (omega (arith, part, c.requires.3, c.due-start.ensures.0, c.due-end.ensures.0)) lay.ensures
    ∙ ap (sets a.out.now a.at)
    (ap₂ (λ (x y : ℕ). take (y - x) (drop x S)) c.due-start.ensures.0 c.due-end.ensures.0 ∙ part_is S true formed a.from a.to c.requires.1 c.requires.2)
