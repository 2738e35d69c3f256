-- The promises agree: two answers and outputs that meet one for the same input are equal.
use mathlib.Core.Path.{◌≡◌, sym, ◌∙◌}
use mathlib.Core.List.{List}
use Prim.Native.Nat.{ℕ}
use Rattle.bits.specs.declared.number.Written.{Written}
use Rattle.bits.specs.declared.count.Terms.{Terms}
use Rattle.bits.proofs.Written.{same-written}
use Rattle.coding.specs.Promises.{Sent, Received}

pub send-agree : {R block : List ℕ} {terms : Terms} {g : ℕ} {out : List ℕ} {r r' : Written} {o o' : List ℕ}
    → Sent R block terms g out r o → Sent R block terms g out r' o' → (r ≡ r') × (o ≡ o')
send-agree {r = r} {r' = r'} a b =
    (same-written r r' (a.number ∙ sym b.number) (a.count ∙ sym b.count), a.output ∙ sym b.output)

pub receive-agree : {R : List ℕ} {a : ℕ} {terms : Terms} {bits out : List ℕ} {r r' : Written} {o o' : List ℕ}
    → Received R a terms bits out r o → Received R a terms bits out r' o' → (r ≡ r') × (o ≡ o')
receive-agree {r = r} {r' = r'} a b =
    (same-written r r' (a.number ∙ sym b.number) (a.count ∙ sym b.count), a.output ∙ sym b.output)
