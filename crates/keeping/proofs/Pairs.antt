-- Pairs by their order, and what is kept of a list of entries.
use mathlib.Core.Path.{◌≡◌, refl, ap}
use mathlib.Core.Bool.{Bool, true, false, cond, ◌&&◌, ◌||◌}
use mathlib.Core.List.{List, [], ◌∷◌, ◌++◌}
use mathlib.Core.Logic.{◌⊎◌, inl, inr}
use Prim.Native.Nat.{ℕ, zero, suc, ◌+◌, ◌≤◌, ◌<◌}
use native.Mathlib.Omega.{arith}
use lib.Dec.{eqb, ltb}
use borrow.Author.Tests.{ltb-true, eqb-true, lt-ltb, le-ltb, eq-eqb}
use Rattle.bits.proofs.Ranges.{both, equal_or}
use Rattle.keeping.specs.Entries.{Entry, entry_at, entries_from, below, keep}

-- ---- pairs

-- the pair of t and p stands below that of t' and p'
pub record Lower (t p t' p' : ℕ) : Type 0 where
  pub owners : t ≤ t'
  pub numbers : t ≡ t' → p < p'

pub below-lower : (t p t' p' : ℕ) → below t p t' p' ≡ true → Lower t p t' p'
unfolding below
below-lower t p t' p' e = by_value (ltb t t') refl e
  where
    by_value : (b : Bool) → ltb t t' ≡ b → (b || (eqb t t' && ltb p p')) ≡ true → Lower t p t' p'
    by_value true q e = let l = ltb-true t t' q in record { owners = omega arith; numbers = λ z. absurd (omega arith) }
    by_value false q e =
        let parts = both (eqb t t') (ltb p p') e in
        let z = eqb-true t t' parts.0 in
        let l = ltb-true p p' parts.1 in
        record { owners = omega arith; numbers = λ y. l }

pub lower-below : (t p t' p' : ℕ) → Lower t p t' p' → below t p t' p' ≡ true
unfolding below
lower-below t p t' p' l =
    equal_or t t'
    (λ e. rw (le-ltb t t' (omega (arith, l.owners, e)), eq-eqb t t' e, lt-ltb p p' (l.numbers e)))
    (λ n. rw (lt-ltb t t' (omega (arith, l.owners, n))))

-- ---- what is in a list

unfoldable pub In : Entry → List Entry → Type 0
In e [] = ⊥
In e (f ∷ es) = (e ≡ f) ⊎ In e es

-- ---- what is kept

module _ (f : Entry → Bool) where
  pub keep_append : (a b : List Entry) → keep f (a ++ b) ≡ keep f a ++ keep f b
  unfolding keep
  keep_append [] b = refl
  keep_append (e ∷ a) b = by_value (f e) (keep_append a b)
    where
      by_value : (c : Bool) → keep f (a ++ b) ≡ keep f a ++ keep f b
          → cond c (e ∷ keep f (a ++ b)) (keep f (a ++ b)) ≡ cond c (e ∷ keep f a) (keep f a) ++ keep f b
      by_value true later = ap (λ (l : List Entry). e ∷ l) later
      by_value false later = later

  pub keep_all : (es : List Entry) → ((e : Entry) → In e es → f e ≡ true) → keep f es ≡ es
  unfolding In keep
  keep_all [] h = refl
  keep_all (e ∷ es) h = rw (h e (inl refl)) (ap (λ (l : List Entry). e ∷ l) (keep_all es (λ g i. h g (inr i))))

  pub keep-none : (es : List Entry) → ((e : Entry) → In e es → f e ≡ false) → keep f es ≡ []
  unfolding In keep
  keep-none [] h = refl
  keep-none (e ∷ es) h = rw (h e (inl refl)) (keep-none es (λ g i. h g (inr i)))

-- ---- what is in some of a shelf's entries

pub record Place (S : List ℕ) (n k : ℕ) (e : Entry) : Type 0 where
  pub place : ℕ
  pub least : k ≤ place
  pub most : place < k + n
  pub there : e ≡ entry_at S place

module _ (S : List ℕ) where
  pub in_from : (n k : ℕ) (e : Entry) → In e (entries_from S n k) → Place S n k e
  unfolding In entries_from
  in_from zero k e h = absurd h
  in_from (suc n) k e (inl z) = record { place = k; least = omega arith; most = omega arith; there = z }
  in_from (suc n) k e (inr h) =
      let p = in_from n (suc k) e h in
      record { place = p.place; least = omega (arith, p.least); most = omega (arith, p.most); there = p.there }
