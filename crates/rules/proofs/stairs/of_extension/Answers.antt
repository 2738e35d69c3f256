use Rattle.rules.proofs.Staircase.{extension-none, extension-spotted}
use Rattle.rules.proofs.stairs.of_extension.Goals as goal

pub returns-in_err-spot : goal.returns-in_err-spot
returns-in_err-spot c =
    let a = c.args in
    rw c.from_residual.ensures (extension-none a.table.now a.kb a.m a.x a.columns c.in_err-spot.ensures)

pub returns : goal.returns
returns c =
    let a = c.args in
    let f = c.in_ok-spot.ensures in
    extension-spotted a.table.now a.kb a.m a.x a.columns _ f.1 f.0 c.in_ok-spot.spot f.2
