use mathlib.Core.Path.{◌∙◌}
use native.Mathlib.Omega.{arith}
use Rattle.parity.proofs.Columns.{sums_word}
use Rattle.parity.proofs.Groups.{own_same}
use Rattle.parity.proofs.extension.lay_own.Goals as goal

pub add_columns-requires : goal.add_columns-requires
add_columns-requires c =
    let run = c.copy_bits.ensures in
    let adding = c.requires.0 in
    (record { shape = adding.shape; long = run.len ∙ adding.long; sums = sums_word _ _ _ _ _ _ adding.shape.z_some (own_same _ _ run) adding.sums }, omega arith, omega (arith, c.requires.2))
