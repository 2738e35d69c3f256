-- The promise agrees: two answers and outputs that meet it for the same input are equal.
use mathlib.Core.Path.{◌≡◌, sym, ◌∙◌}
use mathlib.Core.List.{List}
use Prim.Native.Nat.{ℕ}
use Rattle.bits.specs.declared.number.Written.{Written}
use Rattle.bits.proofs.Written.{same-written}
use Rattle.matching.specs.Promises.{RateMatched}

pub rate_match_agree : {coded : List ℕ} {kind rv e : ℕ} {out : List ℕ} {r r' : Written} {o o' : List ℕ}
    → RateMatched coded kind rv e out r o → RateMatched coded kind rv e out r' o' → (r ≡ r') × (o ≡ o')
rate_match_agree {r = r} {r' = r'} a b =
    (same-written r r' (a.number ∙ sym b.number) (a.count ∙ sym b.count), a.output ∙ sym b.output)
