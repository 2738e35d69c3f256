-- The promises agree: two answers, and two outputs, that meet one for the same input are equal.
use mathlib.Core.Path.{◌≡◌, sym, ap₂, ◌∙◌}
use mathlib.Core.Bool.{Bool}
use mathlib.Core.List.{List}
use Prim.Native.Nat.{ℕ}
use Rattle.bits.specs.declared.number.Written.{Written}
use Rattle.bits.proofs.Written.{same-written}
use Rattle.checksum.specs.declared.Sum.{Sum}
use Rattle.checksum.proofs.Agreement.{same_sum}
use Rattle.masked.specs.Promises.{SumUnder, Appended, WordTested}
use Rattle.masked.specs.declared.Tested.{Tested}

tested : ℕ → Bool → Tested
tested n b = record { number = n; holds = b }

same-tested : (a b : Tested) → a.number ≡ b.number → a.holds ≡ b.holds → a ≡ b
unfolding tested
same-tested a b p q = ap₂ tested p q

pub sum_under_agree : {w m : ℕ} {bits : List ℕ} {r r' : Sum} → SumUnder w m bits r → SumUnder w m bits r' → r ≡ r'
sum_under_agree {r = r} {r' = r'} a b = same_sum r r' (a.number ∙ sym b.number) (a.value ∙ sym b.value)

pub append-agree : {w m : ℕ} {bits out : List ℕ} {r r' : Written} {o o' : List ℕ}
    → Appended w m bits out r o → Appended w m bits out r' o' → (r ≡ r') × (o ≡ o')
append-agree {r = r} {r' = r'} a b =
    (same-written r r' (a.number ∙ sym b.number) (a.count ∙ sym b.count), a.output ∙ sym b.output)

pub test-agree : {w m : ℕ} {word : List ℕ} {r r' : Tested} → WordTested w m word r → WordTested w m word r' → r ≡ r'
test-agree {r = r} {r' = r'} a b = same-tested r r' (a.number ∙ sym b.number) (a.holds ∙ sym b.holds)
