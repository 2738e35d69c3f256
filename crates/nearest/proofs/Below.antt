-- Of two words of as many bits, the one that comes first in the order of lists is the smaller number.
use mathlib.Core.Path.{◌≡◌, sym}
use mathlib.Core.Bool.{Bool}
use mathlib.Core.List.{List, [], ◌∷◌}
use Prim.Native.Nat.{ℕ, suc, ◌+◌, ◌*◌}
use native.Mathlib.Omega.{arith}
use borrow.Author.Tests.{lt-ltb, le-ltb, eq-eqb, ne_eqb}
use lib.Dec.{ltb}
use lib.ListN.{length}
use Rattle.std.specs.Prelude.{Some}
use Rattle.std.specs.Cmp.Lexicographic.{slice_partial_cmp}
use Rattle.std.specs.Ordering.{nat_cmp, is_lt, is_some_and}
use Rattle.bits.specs.Bits.{AreBits, read_on, value_of}
use Rattle.bits.proofs.Ranges.{below_or}
use Rattle.nearest.proofs.Trellis.{read_less}

-- whether p comes before q
unfoldable pub comes_before : List ℕ → List ℕ → Bool
comes_before p q = is_some_and is_lt (slice_partial_cmp (λ x y. Some (nat_cmp x y)) p q)

-- read on from the same number
before-less : (p q : List ℕ) (x : ℕ) → length p ≡ length q → AreBits p → AreBits q → comes_before p q ≡ ltb (read_on x p) (read_on x q)
unfolding comes_before read_on
before-less [] [] x e hp hq = sym (le-ltb x x (omega arith))
before-less [] (b ∷ q) x e hp hq = absurd (omega arith)
before-less (a ∷ p) [] x e hp hq = absurd (omega arith)
before-less (a ∷ p) (b ∷ q) x e hp hq =
    let long : length p ≡ length q = omega arith in
    let bits : AreBits p = λ k. hp (suc k) in
    let bits' : AreBits q = λ k. hq (suc k) in
    below_or a b
    (λ l. rw (lt-ltb a b l) (sym (lt-ltb _ _ (read_less p q (x * 2 + a) (x * 2 + b) long bits bits' (omega arith)))))
    (λ g.
    below_or b a
    (λ l.
    let less = read_less q p (x * 2 + b) (x * 2 + a) (sym long) bits' bits (omega arith) in
    rw (le-ltb a b g, ne_eqb a b (λ q. omega arith)) (sym (le-ltb _ _ (omega (arith, less)))))
    (λ h.
    let same : a ≡ b = omega arith in
    rw (le-ltb a b g, eq-eqb a b same, same) (before-less p q (x * 2 + b) long bits bits')))

pub before_value : (p q : List ℕ) → length p ≡ length q → AreBits p → AreBits q → comes_before p q ≡ ltb (value_of p) (value_of q)
unfolding value_of
before_value p q = before-less p q 0
