-- The promises agree: two answers and outputs that meet one for the same input are equal.
use mathlib.Core.Path.{◌≡◌, sym, ◌∙◌}
use mathlib.Core.List.{List}
use Prim.Native.Nat.{ℕ}
use Rattle.bits.specs.declared.number.Written.{Written}
use Rattle.bits.proofs.Written.{same-written}
use Rattle.keeping.specs.Promises.{Kept, RecordPut, RecordRemoved}

kept-agree : (n : ℕ) (new out : List ℕ) (r r' : Written) (o o' : List ℕ) → Kept n new out r o → Kept n new out r' o' → (r ≡ r') × (o ≡ o')
kept-agree n new out r r' o o' a b =
    (same-written r r' (a.number ∙ sym b.number) (a.count ∙ sym b.count), a.output ∙ sym b.output)

pub put_agree : (S : List ℕ) (t p : ℕ) (R : List ℕ) {out : List ℕ} {r r' : Written} {o o' : List ℕ}
    → RecordPut S t p R out r o → RecordPut S t p R out r' o' → (r ≡ r') × (o ≡ o')
put_agree S t p R {out} {r} {r'} {o} {o'} a b = kept-agree _ _ out r r' o o' a b

pub remove_agree : (S : List ℕ) (t p : ℕ) {out : List ℕ} {r r' : Written} {o o' : List ℕ}
    → RecordRemoved S t p out r o → RecordRemoved S t p out r' o' → (r ≡ r') × (o ≡ o')
remove_agree S t p {out} {r} {r'} {o} {o'} a b = kept-agree _ _ out r r' o o' a b
