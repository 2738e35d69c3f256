use mathlib.Core.Path.{◌∙◌}
use Prim.Native.Nat.{ℕ}
use native.Mathlib.Omega.{arith}
use lib.ListN.{replicate, length-replicate}
use lib.Seq.{length-take-le}
use Rattle.cutting.proofs.PlanFields.{of_fields}
use Rattle.matching.proofs.Start.{versioned}
use Rattle.coding.proofs.Sent.{start_is}
use Rattle.coding.proofs.sending.send_in.Goals as goal

pub start-from-requires : goal.start-from-requires
start-from-requires g c = (record { edition = c.args.terms.edition; of = c.requires.0.ready.of }, omega (arith, versioned _ _ c.requires.0.version))

pub send_blocks-requires : goal.send_blocks-requires
send_blocks-requires g c =
    let a = c.args in
    let size = c.size-n.ensures in
    let k = of_fields a.profile.now a.terms.edition a.plan c.requires.0.ready.of in
    (c.requires.0, start_is a.profile.now a.plan a.terms k _ c.start-from.ensures.0, length-take-le {A = ℕ} _ (replicate g.row.N 0) (omega (arith, length-replicate {A = ℕ} g.row.N 0, size.0, c.requires.1)) ∙ size.0)
