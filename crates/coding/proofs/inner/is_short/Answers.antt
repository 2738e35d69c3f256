use mathlib.Core.Path.{ap, ap₂, ◌∙◌}
use Prim.Native.Nat.{ℕ}
use lib.Dec.{ltb}
use Rattle.bits.specs.declared.count.CodedBits.{CodedBits}
use Rattle.cutting.proofs.PlanFields.{of_fields}
use Rattle.coding.specs.Allocation.{share}
use Rattle.coding.proofs.inner.is_short.Goals as goal

pub returns : goal.returns
returns c =
    let a = c.args in
    let k = of_fields a.profile.now a.terms.edition a.plan c.requires.0 in
    ap₂ ltb
    (ap (λ (x : CodedBits). x.0) c.share_of-e.ensures ∙ ap (λ (n : ℕ). (share a.terms a.g.0 n a.r).0) k.blocks_is)
    (c.sendable-n.ensures.0 a.terms.edition c.requires.0)
