-- "What is handed back is that stretch of one shelf or the other, not a copy" (document 01, "Shelf and profile records"), also where a reference cannot cross:
-- the place that the library answers to C and Rust is that of the stretch that lookup hands back.
use mathlib.Core.Path.{◌≡◌, sym, ◌∙◌, ap}
use mathlib.Core.Bool.{Bool, true, false, cond}
use mathlib.Core.List.{List}
use Prim.Native.Nat.{ℕ, zero, suc}
use native.Mathlib.Nat.{add-zero, zero-add}
use lib.Dec.{eqb}
use lib.ListN.{take, drop}
use denote.Ref.{Bor}
use Rattle.bits.specs.Numbers.{when_done}
use Rattle.shelf.specs.Shelf.{offset}
use Rattle.shelf.specs.Lookup.{has, entry_of, lookup_number, into, lookup_place}
use Rattle.shelf.specs.Promises.{LookedUp}
use Rattle.abi.specs.Promises.{named, LookedUpAt}
use Rattle.abi.specs.declared.shelves.Stretch.{Stretch}

-- a place on one of two shelves, by the shelf's number: 1 the one that lies at q, 0 the one at r
abbrev on : ℕ × ℕ → ℕ × ℕ → ℕ × ℕ → ℕ × ℕ
on q r at = into (cond (eqb at.0 1) q r) at.1

-- a stretch from o on where one shelf has it, from u on where the other has, and none at r with a refusal, wherever the shelves lie
anywhere : (n : ℕ) (own : Bool) (o u : ℕ) (q r : ℕ × ℕ)
    → when_done n (cond own (into q o) (into r u)) r ≡ on q r (when_done n (cond own (into (1, 0) o) (into (0, 0) u)) (0, 0))
unfolding when_done into
anywhere zero true o u q r = rw add-zero
anywhere zero false o u q r = rw add-zero
anywhere (suc n) own o u q r = rw zero-add

placed : (private public : List ℕ) (t p : ℕ) (q r : ℕ × ℕ) → lookup_place private public t p q r ≡ on q r (lookup_place private public t p (1, 0) (0, 0))
unfolding lookup_place
placed private public t p q r =
    anywhere (lookup_number private public t p) (has private t p) (offset private (entry_of private t p)) (offset public (entry_of public 0 p)) q r

-- the octets there are those that lookup hands back, and they lie where lookup's lie: so many octets from `start` on of the shelf that is named
pub lookup-crosses : {private public : Bor (List ℕ)} {t p : ℕ} {r : Bor (List ℕ)} {q : Stretch}
    → LookedUp private public t p r
    → LookedUpAt private.now public.now t p q
    → (r.now ≡ take q.octets (drop q.start (named private.now public.now q.shelf)))
    × (r.ref_ptr ≡ into (cond (eqb q.shelf 1) private.ref_ptr public.ref_ptr) q.start)
lookup-crosses {private} {public} {t} {p} a b = (
  a.octets ∙ sym b.found,
  a.place
      ∙ placed private.now public.now t p private.ref_ptr public.ref_ptr
      ∙ ap (λ (at : ℕ × ℕ). on private.ref_ptr public.ref_ptr at) (sym b.place),
)
