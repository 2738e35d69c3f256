-- Agreement of the promises that are this crate's own: of a stretch, and of whatever is promised where a number may be too large. Every other is that of the
-- call below, with its agreement there.
use mathlib.Core.Path.{◌≡◌, refl, sym, ◌∙◌, ap, ap₂}
use mathlib.Core.Bool.{Bool, true, false}
use mathlib.Core.List.{List}
use Prim.Native.Nat.{ℕ, ◌+◌, ◌≤◌}
use native.Mathlib.Omega.{arith}
use lib.ListN.{length, take, drop, length-take, length-drop}
use Rattle.shelf.specs.Lookup.{lookup_record}
use Rattle.bits.specs.declared.number.Written.{Written}
use Rattle.abi.specs.Promises.{too_large, Held, Nothing, LookedUpAt}
use Rattle.abi.specs.declared.shelves.Stretch.{Stretch}

-- a stretch inside a shelf has as many octets as its place says
sized : (S R : List ℕ) (start octets : ℕ) → start + octets ≤ length S → take octets (drop start S) ≡ R → octets ≡ length R
sized S R start octets h e =
    let k : length (take octets (drop start S)) ≡ octets = simp (length-take, length-drop) (omega arith) in
    sym k ∙ ap length e

-- so many octets as the record has
counted : {private public : List ℕ} {t p : ℕ} {r : Stretch} → LookedUpAt private public t p r → r.octets ≡ length (lookup_record private public t p)
counted a = sized _ _ _ _ a.inside a.found

abbrev stretch : ℕ → ℕ × ℕ → ℕ → Stretch
stretch number at octets = record { number = number; shelf = at.0; start = at.1; octets = octets }

pub lookup_at_agree : {private public : List ℕ} {t p : ℕ} {r r' : Stretch}
    → LookedUpAt private public t p r → LookedUpAt private public t p r' → r ≡ r'
lookup_at_agree {r = r} {r' = r'} a b =
    ap (λ (n : ℕ). stretch n (r.shelf, r.start) r.octets) (a.number ∙ sym b.number)
    ∙ ap₂ (stretch r'.number) (a.place ∙ sym b.place) (counted a ∙ sym (counted b))

-- where both refusals agree and both promises do
pub held-agree : {t p : ℕ} {refused refused' promised promised' same : Type 0}
    → (refused → refused' → same) → (promised → promised' → same) → Held t p refused promised → Held t p refused' promised' → same
held-agree {t} {p} {same = same} large small a b = by_size (too_large t p) refl
  where
    by_size : (large? : Bool) → too_large t p ≡ large? → same
    by_size true e = large (a.large e) (b.large e)
    by_size false e = small (a.small e) (b.small e)

pub nothing-agree : {n : ℕ} {out : List ℕ} {r r' : Written} {o o' : List ℕ} → Nothing n out r o → Nothing n out r' o' → (r ≡ r') × (o ≡ o')
nothing-agree a b = (a.answer ∙ sym b.answer, a.output ∙ sym b.output)
