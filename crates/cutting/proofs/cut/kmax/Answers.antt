use Prim.Native.Nat.{◌*◌, ◌≤◌}
use native.Mathlib.Nat.{mul-le-mul, mul-pos}
use Rattle.cutting.specs.Plan.{kmax}
use Rattle.cutting.proofs.cut.kmax.Goals as goal

pub returns : goal.returns
unfolding kmax
returns c =
    let most : c.kb.result * c.z.result ≤ 20 * 81 = mul-le-mul c.kb.ensures.2 c.z.ensures.2 in
    (cc, mul-pos c.kb.ensures.1 c.z.ensures.1, most)
