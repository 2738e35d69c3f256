-- The shelf of entries, piece by piece: how long it is, and that it falls apart where the entries do.
use mathlib.Core.Path.{◌≡◌, refl, sym, ap, ◌∙◌}
use mathlib.Core.List.{List, [], ◌∷◌, ◌++◌, append_assoc}
use Prim.Native.Nat.{ℕ, ◌+◌, ◌*◌}
use native.Mathlib.Nat.{add-zero}
use native.Mathlib.Omega.{arith}
use lib.ListN.{length, length-append}
use Rattle.keeping.specs.Entries.{Entry, two_octets, head, heads, records, shelf_of}

-- ---- lengths

pub length-head : (t p at n : ℕ) → length (head t p at n) ≡ 8
unfolding head two_octets
length-head t p at n = refl

pub length-heads : (at : ℕ) (es : List Entry) → length (heads at es) ≡ 8 * length es
unfolding heads
length-heads at [] = refl
length-heads at (e ∷ es) =
    let n = length e.octets in
    omega (arith, length-append (head e.owner e.number at n) (heads (at + n) es), length-head e.owner e.number at n, length-heads (at + n) es)

pub length-shelf : (es : List Entry) → length (shelf_of es) ≡ 2 + 8 * length es + length (records es)
unfolding shelf_of two_octets
length-shelf es =
    let o = 2 + 8 * length es in
    omega (arith, length-append (heads o es) (records es), length-heads o es)

-- ---- entries in two parts

pub records-append : (a b : List Entry) → records (a ++ b) ≡ records a ++ records b
unfolding records
records-append [] b = refl
records-append (e ∷ a) b = ap (λ (l : List ℕ). e.octets ++ l) (records-append a b) ∙ sym (append_assoc e.octets (records a) (records b))

pub heads-append : (at : ℕ) (a b : List Entry) → heads at (a ++ b) ≡ heads at a ++ heads (at + length (records a)) b
unfolding heads records
heads-append at [] b = ap (λ (n : ℕ). heads n b) (sym (add-zero at))
heads-append at (e ∷ a) b =
    let n = length e.octets in
    let h = head e.owner e.number at n in
    let on : at + n + length (records a) ≡ at + length (e.octets ++ records a) = omega (arith, length-append e.octets (records a)) in
    ap (λ (l : List ℕ). h ++ l) (heads-append (at + n) a b ∙ ap (λ (m : ℕ). heads (at + n) a ++ heads m b) on)
    ∙ sym (append_assoc h (heads (at + n) a) (heads (at + length (e.octets ++ records a)) b))
