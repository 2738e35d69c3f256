use Prim.Native.Nat.{◌+◌, ◌*◌}
use native.Mathlib.Omega.{arith}
use Rattle.nearest.proofs.Tolls.{price-most}
use Rattle.nearest.proofs.Loops.{price_at, stepped-pair}
use Rattle.nearest.proofs.rows.step_back.Goals as goal

pub overflow_sub-y : goal.overflow_sub-y
overflow_sub-y c =
    let a = c.args in
    let p = c.requires in
    let j = c.loop-j.j in
    omega (arith, price_at _ p.1 a.h _ j c.from.ensures p.0 (omega arith), price-most a.h (2 * j) p.0)

pub overflow_add-x : goal.overflow_add-x
overflow_add-x c =
    let a = c.args in
    let p = c.requires in
    let j = c.loop-j.j in
    omega (arith, price_at _ p.1 a.h _ j c.from.ensures p.0 (omega arith), price-most a.h (2 * j) p.0, p.2 j (omega arith), p.2 (32 + j) (omega arith))

pub overflow_add-x-in-loop-j : goal.overflow_add-x-in-loop-j
overflow_add-x-in-loop-j c =
    let a = c.args in
    let p = c.requires in
    let j = c.loop-j.j in
    omega (arith, price_at _ p.1 a.h _ j c.from.ensures p.0 (omega arith), price-most a.h (2 * j) p.0, p.2 j (omega arith), p.2 (32 + j) (omega arith))

pub loop-j-preserved : goal.loop-j-preserved
loop-j-preserved c =
    let a = c.args in
    let p = c.requires in
    let j = c.loop-j.j in
    stepped-pair a.h a.after j _ _ _ _ p.0 (omega arith) (price_at _ p.1 a.h _ j c.from.ensures p.0 (omega arith)) c.min.ensures c.min-in-loop-j.ensures c.loop-j.invariant
