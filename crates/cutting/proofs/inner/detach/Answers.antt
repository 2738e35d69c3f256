use mathlib.Core.Path.{◌≡◌, refl, ap, ◌∙◌}
use Prim.Native.Nat.{ℕ, ◌≤◌}
use native.Mathlib.Omega.{arith}
use lib.ListN.{length, take}
use borrow.Author.Rules.{rules}
use Rattle.bits.specs.Bits.{unpacked, packed}
use Rattle.checksum.specs.Crc.{gen24_a}
use Rattle.checksum.specs.Masked.{tests_under}
use Rattle.checksum.specs.Promises.{other_width}
use Rattle.checksum.specs.Steps.Testing.{checks}
use Rattle.checksum.proofs.Masked.{tests_zero_mask}
use Rattle.cutting.specs.Plan.{block_bits}
use Rattle.cutting.specs.Steps.Plans.{checked}
use Rattle.cutting.proofs.Transported.{generator_24, own_24, packed-over, unpacked-before}
use Rattle.cutting.proofs.inner.detach.Goals as goal

pub pack-requires : goal.pack-requires
unfolding block_bits
pack-requires c = search rules

pub is_attached-requires : goal.is_attached-requires
unfolding block_bits other_width
is_attached-requires c =
    let a = c.args in
    let u = a.bits.now in
    let pack = c.pack in
    let front : take a.octets pack.new.out ≡ packed a.octets u =
    ap (take a.octets) pack.ensures ∙ packed-over a.block.now u a.octets c.requires.2 in
    (refl, omega (arith, c.requires.1), c.requires.0, ap unpacked front ∙ unpacked-before a.octets u c.requires.1 c.requires.0)

pub returns : goal.returns
unfolding checked block_bits
returns c =
    let u = c.args.bits.now in
    let whole : 24 ≤ length u = omega (arith, c.requires.1) in
    let today : tests_under 24 gen24_a 0 u ≡ checks 24 gen24_a u = tests_zero_mask 24 gen24_a generator_24.below u c.requires.0 whole in
    (c.is_attached.ensures ∙ ap (λ (g : ℕ). tests_under 24 g 0 u) own_24 ∙ today, c.pack.ensures)
