-- The promise agrees: two answers that meet it for the same bits are equal.
use mathlib.Core.Path.{◌≡◌, sym, ◌∙◌}
use mathlib.Core.List.{List}
use Prim.Native.Nat.{ℕ}
use Rattle.checksum.specs.declared.Sum.{Sum}
use Rattle.checksum.proofs.Agreement.{same_sum}
use Rattle.blocksum.specs.Promises.{OfBlockBits}

pub of_block_bits_agree : {bits : List ℕ} {r r' : Sum} → OfBlockBits bits r → OfBlockBits bits r' → r ≡ r'
of_block_bits_agree {r = r} {r' = r'} a b = same_sum r r' (a.number ∙ sym b.number) (a.value ∙ sym b.value)
