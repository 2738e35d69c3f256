use mathlib.Core.Path.{◌∙◌}
use native.Mathlib.Omega.{arith}
use Rattle.nearest.proofs.Tolls.{heard-three}
use Rattle.nearest.proofs.prices.heard_at.Goals as goal

pub returns : goal.returns
returns c =
    let a = c.args in
    c.joined.ensures ∙ heard-three a.d a.heard.now a.k _ _ _ (omega arith) (omega arith) (omega arith)
