use mathlib.Core.Path.{◌∙◌}
use Prim.Native.Nat.{ℕ}
use native.Mathlib.Omega.{arith}
use lib.ListN.{replicate, length-replicate}
use lib.Seq.{length-take-le}
use Rattle.matching.proofs.Start.{versioned}
use Rattle.coding.proofs.Rebuilt.{fields}
use Rattle.coding.proofs.Sent.{start_is}
use Rattle.coding.proofs.receiving.rebuild_in.Goals as goal

pub start-from-requires : goal.start-from-requires
start-from-requires g c =
    (record { edition = c.args.terms.edition; of = record { octets = c.requires.0.octets; taken = c.requires.0.receivable.taken; plan = c.requires.0.plan } }, omega (arith, versioned _ _ c.requires.0.receivable.version))

pub rebuild-requires : goal.rebuild-requires
rebuild-requires g c =
    let a = c.args in
    let size = c.size-n.ensures in
    (c.requires.0, start_is a.profile.now a.plan a.terms (fields a.profile.now a.terms a.bits.now a.plan c.requires.0) _ c.start-from.ensures.0, length-take-le {A = ℕ} _ (replicate g.row.N 0) (omega (arith, length-replicate {A = ℕ} g.row.N 0, size.0, c.requires.2)) ∙ size.0, c.requires.1)
