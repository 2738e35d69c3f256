-- In a list whose numbers rise by rank what comes before is what is below, so the lowest number that applies is answered.
use mathlib.Core.Path.{◌≡◌, ap}
use mathlib.Core.Bool.{Bool, true, ◌&&◌}
use mathlib.Core.List.{List, [], ◌∷◌}
use mathlib.Core.Logic.{inl, inr}
use Prim.Native.Nat.{ℕ, ◌*◌, ◌≤◌, ◌<◌}
use native.Mathlib.Omega.{arith}
use borrow.Author.Tests.{ltb-true, ne_eqb}
use lib.Dec.{ltb, lit<}
use Rattle.bits.proofs.Ranges.{both}
use Rattle.demands.specs.Numbers.{rank, First, Answers, Applies, NoneBelow, Lowest}

-- ---- the ranks

-- a number that no request puts elsewhere
abbrev pub Counted : ℕ → Type 0
Counted n = (n ≡ 16 → ⊥) × (n ≡ 17 → ⊥) × (n ≡ 19 → ⊥) × (n ≡ 26 → ⊥)

ranked : (n : ℕ) → Counted n → rank n ≡ 2 * n
unfolding rank
ranked n other = rw (ne_eqb n 16 other.0, ne_eqb n 17 other.1, ne_eqb n 19 other.2, ne_eqb n 26 other.3)

-- all numbers but 16, 17, 19 and 26 keep their order, those of document 01 among them
module _ (a b : ℕ) (other : Counted a) (other' : Counted b) where
  pub ranks_rise : a < b → rank a < rank b
  ranks_rise h = omega (arith, ranked a other, ranked b other')

  pub ranks_only : rank a < rank b → a < b
  ranks_only h = omega (arith, ranked a other, ranked b other')

-- "16, between 7 and 8"
pub between : (rank 7 < rank 16) × (rank 16 < rank 8)
unfolding rank
between = (lit< tt, lit< tt)

-- "19, before 7": behind 5 and 6
pub before_seven : (rank 6 < rank 19) × (rank 19 < rank 7)
unfolding rank
before_seven = (lit< tt, lit< tt)

-- 26, before 11: behind all that stand before it
pub before_eleven : (rank 10 < rank 26) × (rank 26 < rank 11)
unfolding rank
before_eleven = (lit< tt, lit< tt)

-- 17 "for a length outside 6 to 128, then 8": before all others
pub before-all : rank 17 < rank 1
unfolding rank
before-all = lit< tt

-- ---- lists

-- the ranks strictly rise, and are all above b
unfoldable pub rising : ℕ → List (ℕ × Bool) → Bool
rising b [] = true
rising b ((k, c) ∷ l) = ltb b (rank k) && rising (rank k) l

-- a number that applies is above those that the list rises from
applies-above : (l : List (ℕ × Bool)) (b n : ℕ) → rising b l ≡ true → Applies n l → b < rank n
unfolding rising Applies
applies-above [] b n up h = absurd h
applies-above ((k, c) ∷ l) b n up (inl h) = omega (arith, ltb-true b (rank k) (both (ltb b (rank k)) (rising (rank k) l) up).0, ap rank h.0)
applies-above ((k, c) ∷ l) b n up (inr h) =
    let parts = both (ltb b (rank k)) (rising (rank k) l) up in
    omega (arith, ltb-true b (rank k) parts.0, applies-above l (rank k) n parts.1 h)

-- and nothing is below what it rises from
none_below : (l : List (ℕ × Bool)) (b n : ℕ) → rank n ≤ b → rising b l ≡ true → NoneBelow n l
unfolding rising NoneBelow
none_below [] b n h up = tt
none_below ((k, c) ∷ l) b n h up =
    let parts = both (ltb b (rank k)) (rising (rank k) l) up in
    let over = ltb-true b (rank k) parts.0 in
    (λ (q : rank k < rank n). absurd (omega arith), none_below l (rank k) n (omega arith) parts.1)

lowest-is : (l : List (ℕ × Bool)) (b n : ℕ) → rising b l ≡ true → First n l → (Applies n l) × (NoneBelow n l)
unfolding rising First Applies NoneBelow
lowest-is [] b n up h = absurd h
lowest-is ((k, c) ∷ l) b n up (inl h) =
    let parts = both (ltb b (rank k)) (rising (rank k) l) up in
    let same = ap rank h.0 in
    (inl h, (λ (q : rank k < rank n). absurd (omega arith), none_below l (rank k) n (omega arith) parts.1))
lowest-is ((k, c) ∷ l) b n up (inr h) =
    let parts = both (ltb b (rank k)) (rising (rank k) l) up in
    let rest = lowest-is l (rank k) n parts.1 h.1 in
    (inr rest.0, (λ (q : rank k < rank n). h.0, rest.1))

is-lowest : (l : List (ℕ × Bool)) (b n : ℕ) → rising b l ≡ true → Applies n l → NoneBelow n l → First n l
unfolding rising First Applies NoneBelow
is-lowest [] b n up h low = absurd h
is-lowest ((k, c) ∷ l) b n up (inl h) low = inl h
is-lowest ((k, c) ∷ l) b n up (inr h) low =
    let parts = both (ltb b (rank k)) (rising (rank k) l) up in
    inr (low.0 (applies-above l (rank k) n parts.1 h), is-lowest l (rank k) n parts.1 h low.1)

pub lowest : (l : List (ℕ × Bool)) → rising 0 l ≡ true → {number : ℕ} → Answers number l → Lowest number l
lowest l up a =
    record {
      given = λ n h low. a.given n (is-lowest l 0 n up h low);
      only = λ n some q. lowest-is l 0 n up (a.only n some q);
    }
