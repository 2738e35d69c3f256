use Prim.Native.Nat.{◌*◌, ◌≤◌}
use native.Mathlib.Nat.{mul-le-mul}
use native.Mathlib.Omega.{arith}
use Rattle.bits.specs.Counts.{place_bits, coded_bits_of}
use Rattle.bits.proofs.count.inner.coded_bits.Goals as goal

pub overflow_mul-result : goal.overflow_mul-result
overflow_mul-result c =
    let st = c.before.before in
    let h : place_bits st.args.terms * st.args.places.0 ≤ 24 * 65536 = mul-le-mul st.requires.0.most st.requires.1 in
    rw c.place_bits.ensures (omega arith)

pub returns : goal.returns
unfolding coded_bits_of
returns c = cc
