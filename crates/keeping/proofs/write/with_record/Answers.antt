use mathlib.Core.Path.{refl}
use mathlib.Core.Bool.{true}
use Prim.Native.Nat.{◌+◌, ◌-◌, ◌≤◌}
use native.Mathlib.Omega.{arith}
use lib.ListN.{length}
use Rattle.shelf.proofs.WellFormed.{formed-is}
use Rattle.keeping.proofs.Laying.{laid-all, Fits, put_fits, put_laid}
use Rattle.keeping.proofs.write.with_record.Goals as goal

pub count-count-requires : goal.count-count-requires
count-count-requires c = omega (arith, (formed-is c.args.private.now true c.requires.2.formed).sizes.room)

pub put_number-requires : goal.put_number-requires
put_number-requires c =
    let fits : Fits c.args.private.now c.args.spot.at c.args.spot.gone c.count-count.result
    (c.count-count.result + 1 - c.args.spot.gone) (length c.args.octets.now) (length c.args.out.now) = let a = c.args in
    put_fits a.private.now a.tenant a.profile a.spot.at a.spot.gone c.count-count.result a.size (length a.out.now) c.count-count.ensures.0 a.octets.now c.requires.2 in
    let f = fits in
    let e = c.count-count.ensures.0 in
    (omega arith, omega arith)

pub put_heads-mine-requires : goal.put_heads-mine-requires
put_heads-mine-requires c =
    let fits : Fits c.args.private.now c.args.spot.at c.args.spot.gone c.count-count.result
    (c.count-count.result + 1 - c.args.spot.gone) (length c.args.octets.now) (length c.args.out.now) = let a = c.args in
    put_fits a.private.now a.tenant a.profile a.spot.at a.spot.gone c.count-count.result a.size (length a.out.now) c.count-count.ensures.0 a.octets.now c.requires.2 in
    let f = fits in
    let e = c.count-count.ensures.0 in
    (c.requires.2.formed, omega arith, omega arith, omega (arith, c.put_number.auto), omega arith)

pub put_head-requires : goal.put_head-requires
put_head-requires c =
    let fits : Fits c.args.private.now c.args.spot.at c.args.spot.gone c.count-count.result
    (c.count-count.result + 1 - c.args.spot.gone) (length c.args.octets.now) (length c.args.out.now) = let a = c.args in
    put_fits a.private.now a.tenant a.profile a.spot.at a.spot.gone c.count-count.result a.size (length a.out.now) c.count-count.ensures.0 a.octets.now c.requires.2 in
    let f = fits in
    let e = c.count-count.ensures.0 in
    let heads = c.put_heads-mine in
    (c.requires.0, c.requires.1, omega (arith, heads.ensures.1), omega arith, omega (arith, heads.auto, c.put_number.auto))

pub overflow_add-mine : goal.overflow_add-mine
overflow_add-mine c =
    let fits : Fits c.args.private.now c.args.spot.at c.args.spot.gone c.count-count.result
    (c.count-count.result + 1 - c.args.spot.gone) (length c.args.octets.now) (length c.args.out.now) = let a = c.args in
    put_fits a.private.now a.tenant a.profile a.spot.at a.spot.gone c.count-count.result a.size (length a.out.now) c.count-count.ensures.0 a.octets.now c.requires.2 in
    let f = fits in
    let e = c.count-count.ensures.0 in
    omega (arith, c.put_heads-mine.ensures.1)

pub put_heads-requires : goal.put_heads-requires
put_heads-requires c =
    let fits : Fits c.args.private.now c.args.spot.at c.args.spot.gone c.count-count.result
    (c.count-count.result + 1 - c.args.spot.gone) (length c.args.octets.now) (length c.args.out.now) = let a = c.args in
    put_fits a.private.now a.tenant a.profile a.spot.at a.spot.gone c.count-count.result a.size (length a.out.now) c.count-count.ensures.0 a.octets.now c.requires.2 in
    let f = fits in
    let e = c.count-count.ensures.0 in
    let heads = c.put_heads-mine in
    (c.requires.2.formed, omega arith, omega arith, omega (arith, c.put_head.auto, heads.auto, c.put_number.auto), omega (arith, heads.ensures.1))

pub put_records-requires : goal.put_records-requires
put_records-requires c =
    let fits : Fits c.args.private.now c.args.spot.at c.args.spot.gone c.count-count.result
    (c.count-count.result + 1 - c.args.spot.gone) (length c.args.octets.now) (length c.args.out.now) = let a = c.args in
    put_fits a.private.now a.tenant a.profile a.spot.at a.spot.gone c.count-count.result a.size (length a.out.now) c.count-count.ensures.0 a.octets.now c.requires.2 in
    let f = fits in
    let e = c.count-count.ensures.0 in
    (c.requires.2.formed, omega arith, omega arith, omega (arith, c.put_heads.auto, c.put_head.auto, c.put_heads-mine.auto, c.put_number.auto))

pub lay-requires : goal.lay-requires
lay-requires c =
    let fits : Fits c.args.private.now c.args.spot.at c.args.spot.gone c.count-count.result
    (c.count-count.result + 1 - c.args.spot.gone) (length c.args.octets.now) (length c.args.out.now) = let a = c.args in
    put_fits a.private.now a.tenant a.profile a.spot.at a.spot.gone c.count-count.result a.size (length a.out.now) c.count-count.ensures.0 a.octets.now c.requires.2 in
    let f = fits in
    let e = c.count-count.ensures.0 in
    (omega arith, omega (arith, c.put_heads-mine.ensures.1, c.put_records.auto, c.put_heads.auto, c.put_head.auto, c.put_heads-mine.auto, c.put_number.auto))

pub put_records-requires-2 : goal.put_records-requires-2
put_records-requires-2 c =
    let fits : Fits c.args.private.now c.args.spot.at c.args.spot.gone c.count-count.result
    (c.count-count.result + 1 - c.args.spot.gone) (length c.args.octets.now) (length c.args.out.now) = let a = c.args in
    put_fits a.private.now a.tenant a.profile a.spot.at a.spot.gone c.count-count.result a.size (length a.out.now) c.count-count.ensures.0 a.octets.now c.requires.2 in
    let f = fits in
    let e = c.count-count.ensures.0 in
    (c.requires.2.formed, omega arith, omega arith, omega (arith, c.put_heads-mine.ensures.1, c.lay.auto, c.put_records.auto, c.put_heads.auto, c.put_head.auto, c.put_heads-mine.auto, c.put_number.auto))

pub returns : goal.returns
returns c =
    let fits : Fits c.args.private.now c.args.spot.at c.args.spot.gone c.count-count.result
    (c.count-count.result + 1 - c.args.spot.gone) (length c.args.octets.now) (length c.args.out.now) = let a = c.args in
    put_fits a.private.now a.tenant a.profile a.spot.at a.spot.gone c.count-count.result a.size (length a.out.now) c.count-count.ensures.0 a.octets.now c.requires.2 in
    let a = c.args in
    let lay = c.lay in
    let room : c.put_heads-mine.result + length a.octets.now ≤ length c.put_records.new.out =
    let f = fits in
    omega (arith, c.put_heads-mine.ensures.1, c.put_records.auto, c.put_heads.auto, c.put_head.auto, c.put_heads-mine.auto, c.put_number.auto) in
    put_laid a.private.now a.tenant a.profile a.spot.at c.count-count.result c.count-count.ensures.0 c.requires.2.formed a.spot.gone c.requires.2.spot a.octets.now a.out.now
    _ _ _ _ _ _ _ _ _ c.put_heads-mine.result _ _ _
    c.put_number.ensures
    c.put_heads-mine.ensures.0
    c.put_head.ensures
    c.put_heads.ensures.0
    c.put_records.ensures
    (laid-all a.octets.now _ _ (length a.octets.now) c.put_heads-mine.result refl room lay.ensures)
    c.put_records-2.ensures
    c.put_heads-mine.ensures.1
    (omega arith)
    (omega arith)
    (omega arith)
    (omega arith)
    (omega arith)
