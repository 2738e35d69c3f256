-- The promises agree: two answers that meet one for the same input are equal.
use mathlib.Core.Path.{◌≡◌, sym, ap₂, ◌∙◌}
use mathlib.Core.List.{List}
use Prim.Native.Nat.{ℕ}
use Rattle.checksum.specs.Promises.{OfBits, OfOctets}
use Rattle.checksum.specs.declared.Sum.{Sum}

made : ℕ → ℕ → Sum
made n v = record { number = n; value = v }

pub same_sum : (a b : Sum) → a.number ≡ b.number → a.value ≡ b.value → a ≡ b
unfolding made
same_sum a b p q = ap₂ made p q

pub of_bits_agree : {w : ℕ} {bits : List ℕ} {r r' : Sum} → OfBits w bits r → OfBits w bits r' → r ≡ r'
of_bits_agree {r = r} {r' = r'} a b = same_sum r r' (a.number ∙ sym b.number) (a.value ∙ sym b.value)

pub of_octets_agree : {w : ℕ} {octets : List ℕ} {r r' : Sum} → OfOctets w octets r → OfOctets w octets r' → r ≡ r'
of_octets_agree {r = r} {r' = r'} a b = same_sum r r' (a.number ∙ sym b.number) (a.value ∙ sym b.value)
