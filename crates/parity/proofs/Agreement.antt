-- The promise agrees: two answers, and two outputs, that meet it for the same input are equal.
use mathlib.Core.Path.{◌≡◌, sym, ◌∙◌}
use mathlib.Core.List.{List}
use Prim.Native.Nat.{ℕ}
use Rattle.bits.specs.declared.number.Written.{Written}
use Rattle.bits.proofs.Written.{same-written}
use Rattle.parity.specs.Promises.{BlockCoded}

pub block_coded_agree : {R : List ℕ} {z : ℕ} {places out : List ℕ} {r r' : Written} {u u' : List ℕ}
    → BlockCoded R z places out r u → BlockCoded R z places out r' u' → (r ≡ r') × (u ≡ u')
block_coded_agree {r = r} {r' = r'} a b =
    (same-written r r' (a.number ∙ sym b.number) (a.count ∙ sym b.count), a.output ∙ sym b.output)
