use mathlib.Core.Path.{subst}
use mathlib.Core.Bool.{true}
use Prim.Native.Nat.{◌-◌}
use native.Mathlib.Omega.{arith}
use lib.ListN.{length}
use Rattle.shelf.proofs.WellFormed.{formed-is}
use Rattle.keeping.specs.Steps.Places.{Spotted}
use Rattle.keeping.proofs.Laying.{Fits, left-fits, left_laid}
use Rattle.keeping.proofs.write.without_record.Goals as goal

pub count-count-requires : goal.count-count-requires
count-count-requires c = omega (arith, (formed-is c.args.private.now true c.requires.1.formed).sizes.room)

pub put_number-requires : goal.put_number-requires
put_number-requires c =
    let fits : Fits c.args.private.now c.args.spot.at 1 c.count-count.result (c.count-count.result - 1) 0 (length c.args.out.now) = let a = c.args in
    left-fits a.private.now a.tenant a.profile a.spot.at a.spot.gone c.count-count.result a.size (length a.out.now) c.count-count.ensures.0 c.requires.0 c.requires.1 in
    let f = fits in
    let e = c.count-count.ensures.0 in
    (omega arith, omega arith)

pub put_heads-next-requires : goal.put_heads-next-requires
put_heads-next-requires c =
    let fits : Fits c.args.private.now c.args.spot.at 1 c.count-count.result (c.count-count.result - 1) 0 (length c.args.out.now) = let a = c.args in
    left-fits a.private.now a.tenant a.profile a.spot.at a.spot.gone c.count-count.result a.size (length a.out.now) c.count-count.ensures.0 c.requires.0 c.requires.1 in
    let f = fits in
    let e = c.count-count.ensures.0 in
    (c.requires.1.formed, omega arith, omega arith, omega (arith, c.put_number.auto), omega arith)

pub put_heads-requires : goal.put_heads-requires
put_heads-requires c =
    let fits : Fits c.args.private.now c.args.spot.at 1 c.count-count.result (c.count-count.result - 1) 0 (length c.args.out.now) = let a = c.args in
    left-fits a.private.now a.tenant a.profile a.spot.at a.spot.gone c.count-count.result a.size (length a.out.now) c.count-count.ensures.0 c.requires.0 c.requires.1 in
    let f = fits in
    let e = c.count-count.ensures.0 in
    let heads = c.put_heads-next in
    (c.requires.1.formed, omega arith, omega arith, omega (arith, heads.auto, c.put_number.auto), omega (arith, heads.ensures.1))

pub put_records-requires : goal.put_records-requires
put_records-requires c =
    let fits : Fits c.args.private.now c.args.spot.at 1 c.count-count.result (c.count-count.result - 1) 0 (length c.args.out.now) = let a = c.args in
    left-fits a.private.now a.tenant a.profile a.spot.at a.spot.gone c.count-count.result a.size (length a.out.now) c.count-count.ensures.0 c.requires.0 c.requires.1 in
    let f = fits in
    let e = c.count-count.ensures.0 in
    (c.requires.1.formed, omega arith, omega arith, omega (arith, c.put_heads.auto, c.put_heads-next.auto, c.put_number.auto))

pub put_records-requires-2 : goal.put_records-requires-2
put_records-requires-2 c =
    let fits : Fits c.args.private.now c.args.spot.at 1 c.count-count.result (c.count-count.result - 1) 0 (length c.args.out.now) = let a = c.args in
    left-fits a.private.now a.tenant a.profile a.spot.at a.spot.gone c.count-count.result a.size (length a.out.now) c.count-count.ensures.0 c.requires.0 c.requires.1 in
    let f = fits in
    let e = c.count-count.ensures.0 in
    (c.requires.1.formed, omega arith, omega arith, omega (arith, c.put_heads-next.ensures.1, c.put_records.auto, c.put_heads.auto, c.put_heads-next.auto, c.put_number.auto))

pub returns : goal.returns
returns c =
    let a = c.args in
    left_laid a.private.now a.tenant a.profile a.spot.at c.count-count.result c.count-count.ensures.0 c.requires.1.formed
    (subst (Spotted a.private.now a.tenant a.profile a.spot.at) c.requires.0 c.requires.1.spot) a.out.now
    _ _ _ _ _ _ _ _ c.put_heads-next.result
    c.put_number.ensures
    c.put_heads-next.ensures.0
    c.put_heads.ensures.0
    c.put_records.ensures
    c.put_records-2.ensures
    c.put_heads-next.ensures.1
    (omega arith)
    (omega arith)
    (omega arith)
