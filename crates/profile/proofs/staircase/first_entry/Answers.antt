use mathlib.Core.Path.{refl}
use Rattle.profile.specs.Record.{entry}
use Rattle.profile.proofs.staircase.first_entry.Goals as goal

pub returns : goal.returns
unfolding entry
returns c = refl
