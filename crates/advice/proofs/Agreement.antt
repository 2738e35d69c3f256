-- The promise agrees: two answers that meet it for the same input are equal.
use mathlib.Core.Path.{◌≡◌, sym, ◌∙◌}
use mathlib.Core.List.{List}
use Prim.Native.Nat.{ℕ}
use Rattle.bits.specs.declared.count.Terms.{Terms}
use Rattle.advice.specs.Promises.{LeastRoom}
use Rattle.advice.specs.declared.Advised.{Advised}

-- an answer is its six numbers
made : ℕ → ℕ → ℕ → ℕ → ℕ → ℕ → Advised
made n g c s e f = record { number = n; bits = record { 0 = g }; blocks = c; larger = s; first = record { 0 = e }; last = record { 0 = f } }

same : {n n' g g' c c' s s' e e' f f' : ℕ} → n ≡ n' → g ≡ g' → c ≡ c' → s ≡ s' → e ≡ e' → f ≡ f' → made n g c s e f ≡ made n' g' c' s' e' f'
same p q r t u v = cc

pub least-agree : {R : List ℕ} {octets : ℕ} {terms : Terms} {r r' : Advised} → LeastRoom R octets terms r → LeastRoom R octets terms r' → r ≡ r'
unfolding made
least-agree a b =
    same (a.number ∙ sym b.number) (a.bits ∙ sym b.bits) (a.blocks ∙ sym b.blocks) (a.larger ∙ sym b.larger)
    (a.first ∙ sym b.first) (a.last ∙ sym b.last)
