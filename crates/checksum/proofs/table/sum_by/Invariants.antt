-- The loop's invariant: the octets from i on, fed to the register, give what all of them give, and `at` is where
-- the table is looked at for octet i.
use mathlib.Core.Path.{◌≡◌}
use Prim.Native.Nat.{◌-◌, ◌/◌, ◌^◌, ◌<◌}
use lib.Bits.{bit_xor}
use lib.ListN.{get_or, drop}
use Rattle.bits.specs.Bits.{unpacked}
use Rattle.checksum.specs.Steps.Register.{fed}
use Rattle.checksum.specs.Steps.Table.{generator_of}
use Rattle.checksum.proofs.table.sum_by.Given as goal

abbrev pub invariant-loop-octet : goal.invariant-loop-octet
invariant-loop-octet l =
    (l.reg < 2 ^ l.w) × (l.at < 256) × (l.at ≡ bit_xor (l.reg / 2 ^ (l.w - 8)) (get_or l.octets l.octet-index 0))
    × (fed l.w (generator_of l.left) l.reg (unpacked (drop l.octet-index l.octets)) ≡ fed l.w (generator_of l.left) 0 (unpacked l.octets))
