-- The promises agree: two answers, and two outputs, that meet one for the same input are equal. Neither says which checker was asked, so what the
-- quick and the plain one say is equal too, for every profile, z and word (document 02, CR 4).
use mathlib.Core.Path.{◌≡◌, sym, ap₂, ◌∙◌}
use mathlib.Core.Bool.{Bool}
use mathlib.Core.List.{List}
use Prim.Native.Nat.{ℕ}
use Rattle.bits.specs.declared.number.Written.{Written}
use Rattle.bits.proofs.Written.{same-written}
use Rattle.checking.specs.Promises.{WordChecked, RowsSummed}
use Rattle.checking.specs.declared.Verdict.{Verdict}

verdict : ℕ → Bool → Verdict
verdict n b = record { number = n; checks = b }

same-verdict : (a b : Verdict) → a.number ≡ b.number → a.checks ≡ b.checks → a ≡ b
unfolding verdict
same-verdict a b p q = ap₂ verdict p q

pub word_checked_agree : {R : List ℕ} {z : ℕ} {word : List ℕ} {r r' : Verdict} → WordChecked R z word r → WordChecked R z word r' → r ≡ r'
word_checked_agree {r = r} {r' = r'} a b = same-verdict r r' (a.number ∙ sym b.number) (a.checks ∙ sym b.checks)

pub rows_summed_agree : {R : List ℕ} {z : ℕ} {word out : List ℕ} {r r' : Written} {u u' : List ℕ}
    → RowsSummed R z word out r u → RowsSummed R z word out r' u' → (r ≡ r') × (u ≡ u')
rows_summed_agree {r = r} {r' = r'} a b =
    (same-written r r' (a.number ∙ sym b.number) (a.count ∙ sym b.count), a.output ∙ sym b.output)
