use native.Mathlib.Nat.{mul-le-mul}
use native.Mathlib.Omega.{arith}
use Prim.Native.Nat.{◌*◌, ◌≤◌}
use borrow.Author.Rules.{rules}
use Rattle.bits.specs.Counts.{place_bits}
use Rattle.bits.proofs.count.inner.place_bits.Goals as goal

pub overflow_mul-result : goal.overflow_mul-result
overflow_mul-result c =
    let st = c.before in
    let h : st.args.terms.nl * st.args.terms.qm ≤ 4 * 6 = mul-le-mul st.requires.layers st.requires.order in
    omega arith

pub returns : goal.returns
unfolding place_bits
returns c = search rules
