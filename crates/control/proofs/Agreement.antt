-- The promises agree: two answers and outputs that meet one for the same input are equal.
use mathlib.Core.Path.{◌≡◌, sym, ◌∙◌}
use mathlib.Core.List.{List}
use Prim.Native.Nat.{ℕ}
use Rattle.bits.specs.declared.number.Written.{Written}
use Rattle.bits.proofs.Written.{same-written}
use Rattle.control.specs.Promises.{Wrote}

pub wrote_agree : {n size : ℕ} {new out : List ℕ} {r r' : Written} {o o' : List ℕ} → Wrote n size new out r o → Wrote n size new out r' o' → (r ≡ r') × (o ≡ o')
wrote_agree {r = r} {r' = r'} a b =
    (same-written r r' (a.number ∙ sym b.number) (a.count ∙ sym b.count), a.output ∙ sym b.output)
