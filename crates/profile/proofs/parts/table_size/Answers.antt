use Prim.Native.Nat.{◌*◌, ◌≤◌}
use native.Mathlib.Nat.{mul-le-mul}
use Rattle.profile.specs.Record.{table_size}
use Rattle.profile.proofs.parts.table_size.Goals as goal

pub returns : goal.returns
unfolding table_size
returns c =
    let most : c.rows.result * c.columns.result ≤ 40 * 60 = mul-le-mul c.rows.ensures.2 c.columns.ensures.2 in
    (cc, most)
