-- The generator 24B in the checksum's register, for the layers above too.
use lib.Dec.{lit<, lit≤}
use Rattle.checksum.specs.Steps.Register.{Generator}
use Rattle.blocksum.specs.Blocksum.{gen24_b}

pub generator_24b : Generator 24 gen24_b
generator_24b = record { some = lit< tt; most = lit≤ tt; below = lit< tt }
