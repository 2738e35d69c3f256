-- N_L and Q_m are multiplied only where they are ones of step 5.
use mathlib.Core.Path.{sym, ◌∙◌}
use Rattle.bits.proofs.Terms.{usable-is}
use Rattle.hosted.proofs.refusal.product.Goals as goal

pub place_bits-requires : goal.place_bits-requires
place_bits-requires c = usable-is _ (sym c.is_usable.ensures ∙ c.if-not-is_usable.false)
