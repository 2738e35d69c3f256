use Rattle.bits.specs.Counts.{symbol_places_of}
use Rattle.bits.proofs.count.inner.symbol_places.Goals as goal

pub returns : goal.returns
unfolding symbol_places_of
returns c = cc
