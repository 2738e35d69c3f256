-- The promise agrees: two answers and outputs that meet it for the same input are equal.
use mathlib.Core.Path.{◌≡◌, sym, ap, ap₂, ◌∙◌}
use mathlib.Core.List.{List}
use Prim.Native.Nat.{ℕ}
use Rattle.nearest.specs.Promises.{WordFound}
use Rattle.nearest.specs.declared.Found.{Found}

abbrev closest : ℕ → ℕ → ℕ → Found
closest number count differences = record { number = number; count = count; differences = differences }

same-closest : (a b : Found) → a.number ≡ b.number → a.count ≡ b.count → a.differences ≡ b.differences → a ≡ b
same-closest a b p q r = ap (λ (n : ℕ). closest n a.count a.differences) p ∙ ap₂ (closest b.number) q r

pub found-agree : {D : ℕ} {heard out : List ℕ} {r r' : Found} {o o' : List ℕ} → WordFound D heard out r o → WordFound D heard out r' o' → (r ≡ r') × (o ≡ o')
found-agree {r = r} {r' = r'} a b =
    (same-closest r r' (a.number ∙ sym b.number) (a.count ∙ sym b.count) (a.differences ∙ sym b.differences), a.output ∙ sym b.output)
