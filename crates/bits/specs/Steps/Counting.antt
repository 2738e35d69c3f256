-- What the terms of a call are known to be once they were tested.
use Rattle.std.specs.Prelude.{◌≤◌, ◌<◌}
use Rattle.bits.specs.Counts.{place_bits}
use Rattle.bits.specs.declared.count.Terms.{Terms}

-- N_L and Q_m are ones of step 5, and one symbol place has some bits
pub record Usable (terms : Terms) : Type 0 where
  pub layers : terms.nl ≤ 4
  pub order : terms.qm ≤ 6
  pub some : 0 < place_bits terms
  pub most : place_bits terms ≤ 24
