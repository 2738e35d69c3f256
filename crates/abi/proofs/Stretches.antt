-- What a lookup comes to inside is what crosses: the shelf by its number in the place of a yes or no.
use mathlib.Core.Path.{◌≡◌, sym, ◌∙◌}
use mathlib.Core.Bool.{Bool, true, false, cond}
use mathlib.Core.List.{List}
use Prim.Native.Nat.{ℕ}
use native.Mathlib.Nat.{add-zero}
use native.Mathlib.Omega.{arith}
use Rattle.bits.specs.declared.number.Refusal.{Refusal}
use Rattle.bits.specs.Refusals.{refusal_number}
use Rattle.bits.proofs.Answers.{refusal-numbered}
use Rattle.shelf.specs.Lookup.{into, lookup_number, lookup_place}
use Rattle.shelf.specs.Steps.Finding.{stretch_of, place_of, Located}
use Rattle.shelf.specs.declared.inner.Found.{Found}
use Rattle.shelf.proofs.Finding.{none-found}
use Rattle.abi.specs.Promises.{named, LookedUpAt, refused_with}

abbrev found : Bool → ℕ → ℕ → Found
found own at size = record { own = own; at = at; size = size }

-- counted from the start of its shelf
place-of : {private public : List ℕ} {t p : ℕ} (own : Bool) (at size : ℕ)
    → Located private public t p (found own at size) → (cond own 1 0, at) ≡ lookup_place private public t p (1, 0) (0, 0)
unfolding place_of into
place-of true at size l = rw add-zero at (l.place (1, 0) (0, 0))
place-of false at size l = rw add-zero at (l.place (1, 0) (0, 0))

by_shelf : {private public : List ℕ} {t p : ℕ} (own : Bool) (at size : ℕ)
    → Located private public t p (found own at size)
    → LookedUpAt private public t p (record { number = 0; shelf = cond own 1 0; start = at; octets = size })
unfolding named stretch_of
by_shelf true at size l =
    record { number = sym l.done; place = place-of true at size l; inside = l.inside.within; found = l.octets }
by_shelf false at size l =
    record { number = sym l.done; place = place-of false at size l; inside = l.inside.within; found = l.octets }

pub crosses : {private public : List ℕ} {t p : ℕ} (f : Found)
    → Located private public t p f
    → LookedUpAt private public t p (record { number = 0; shelf = cond f.own 1 0; start = f.at; octets = f.size })
crosses f l = by_shelf f.own f.at f.size l

-- and a refusal crosses as the empty stretch
pub none_crosses : {private public : List ℕ} {t p : ℕ} (e : Refusal)
    → refusal_number e ≡ lookup_number private public t p
    → LookedUpAt private public t p (refused_with (refusal_number e))
unfolding refused_with named
none_crosses {private} {public} {t} {p} e n =
    let none = none-found private public t p (λ z. refusal-numbered e (n ∙ z)) in
    record { number = n; place = none.1 (1, 0) (0, 0); inside = omega arith; found = none.0 }
