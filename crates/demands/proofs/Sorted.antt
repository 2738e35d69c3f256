-- Entries in their order: what is in a list of them, what is kept of it, and that pairs rise.
use mathlib.Core.Path.{◌≡◌, refl, sym, ap, ◌∙◌}
use mathlib.Core.Bool.{Bool, true, false, cond}
use mathlib.Core.List.{List, [], ◌∷◌, ◌++◌}
use mathlib.Core.Logic.{◌⊎◌, inl, inr, ⊎_elim}
use Prim.Native.Nat.{ℕ, zero, suc, ◌+◌, ◌≤◌, ◌<◌}
use native.Mathlib.Omega.{arith}
use lib.ListN.{length, length-append}
use Rattle.bits.proofs.Ranges.{equal_or, below_or}
use Rattle.shelf.specs.Shelf.{count}
use Rattle.shelf.proofs.WellFormed.{Formed, below as pairs_below}
use Rattle.keeping.specs.Entries.{Entry, entry_at, entries_from, entries, keep, records}
use Rattle.keeping.proofs.Pairs.{Lower, In, in_from}
use Rattle.demands.proofs.Placed.{at}

-- ---- pairs

pub lower-later : {t p t' p' t'' p'' : ℕ} → Lower t p t' p' → Lower t' p' t'' p'' → Lower t p t'' p''
lower-later {t} {p} {t'} {p'} {t''} {p''} a b =
    record {
      owners = omega (arith, a.owners, b.owners);
      numbers = λ z.
          let one : t ≡ t' = omega (arith, a.owners, b.owners) in
          let two : t' ≡ t'' = omega (arith, a.owners, b.owners) in
          omega (arith, a.numbers one, b.numbers two);
    }

-- two pairs are the same, or one stands below the other
pub compared : {A : Type 0} (t p t' p' : ℕ) → (Lower t p t' p' → A) → (t ≡ t' → p ≡ p' → A) → (Lower t' p' t p → A) → A
compared t p t' p' low same high =
    equal_or t t'
    (λ e. equal_or p p'
    (λ f. same e f)
    (λ n. below_or p p'
    (λ l. low (record { owners = omega (arith, e); numbers = λ z. l }))
    (λ l. high (record { owners = omega (arith, e); numbers = λ z. omega arith }))))
    (λ n. below_or t t'
    (λ l. low (record { owners = omega arith; numbers = λ z. absurd (n z) }))
    (λ l. high (record { owners = omega arith; numbers = λ z. absurd (n (sym z)) })))

pub record Under (e f : Entry) : Type 0 where
  pub lower : Lower e.owner e.number f.owner f.number

-- ---- what is in a list

pub in_left : (e : Entry) (a b : List Entry) → In e a → In e (a ++ b)
unfolding In
in_left e [] b h = absurd h
in_left e (f ∷ a) b (inl z) = inl z
in_left e (f ∷ a) b (inr h) = inr (in_left e a b h)

pub in_right : (e : Entry) (a b : List Entry) → In e b → In e (a ++ b)
unfolding In
in_right e [] b h = h
in_right e (f ∷ a) b h = inr (in_right e a b h)

pub in_either : (e : Entry) (a b : List Entry) → In e (a ++ b) → In e a ⊎ In e b
unfolding In
in_either e [] b h = inr h
in_either e (f ∷ a) b (inl z) = inl (inl z)
in_either e (f ∷ a) b (inr h) = ⊎_elim (λ l. inl (inr l)) (λ r. inr r) (in_either e a b h)

pub at_in : (es : List Entry) (k : ℕ) → k < length es → In (at es k) es
unfolding In
at_in [] k h = absurd (omega arith)
at_in (e ∷ es) zero h = inl refl
at_in (e ∷ es) (suc k) h = inr (at_in es k (omega arith))

pub record At (es : List Entry) (e : Entry) : Type 0 where
  pub place : ℕ
  pub inside : place < length es
  pub there : at es place ≡ e

pub in_at : (es : List Entry) (e : Entry) → In e es → At es e
unfolding In
in_at [] e h = absurd h
in_at (f ∷ es) e (inl z) = record { place = 0; inside = omega arith; there = sym z }
in_at (f ∷ es) e (inr h) =
    let later = in_at es e h in
    record { place = suc later.place; inside = omega (arith, later.inside); there = later.there }

-- ---- what is kept

module _ (f : Entry → Bool) where
  pub in_keep : (e : Entry) (es : List Entry) → f e ≡ true → In e es → In e (keep f es)
  unfolding In keep
  in_keep e [] t h = absurd h
  in_keep e (g ∷ es) t (inl z) = rw (sym (ap f z) ∙ t) (inl z)
  in_keep e (g ∷ es) t (inr h) = by_value (f g) (in_keep e es t h)
    where
      by_value : (b : Bool) → In e (keep f es) → In e (cond b (g ∷ keep f es) (keep f es))
      by_value true h = inr h
      by_value false h = h

  pub keep_in : (e : Entry) (es : List Entry) → In e (keep f es) → (f e ≡ true) × In e es
  unfolding In keep
  keep_in e [] h = absurd h
  keep_in e (g ∷ es) h = by_value (f g) refl (keep_in e es) h
    where
      by_value : (b : Bool) → f g ≡ b → (In e (keep f es) → (f e ≡ true) × In e es) → In e (cond b (g ∷ keep f es) (keep f es))
          → (f e ≡ true) × In e (g ∷ es)
      by_value true q later (inl z) = (ap f z ∙ q, inl z)
      by_value true q later (inr h) = ((later h).0, inr (later h).1)
      by_value false q later h = ((later h).0, inr (later h).1)

-- two tests that never both hold keep no more than there is
pub record Fewer (f g : Entry → Bool) (es : List Entry) : Type 0 where
  pub entries : length (keep f es) + length (keep g es) ≤ length es
  pub octets : length (records (keep f es)) + length (records (keep g es)) ≤ length (records es)

module _ (f g : Entry → Bool) (apart : (e : Entry) → f e ≡ true → g e ≡ true → ⊥) where
  pub keep_fewer : (es : List Entry) → Fewer f g es
  unfolding keep records
  keep_fewer [] = record { entries = omega arith; octets = omega arith }
  keep_fewer (e ∷ es) = by_value (f e) (g e) refl refl (keep_fewer es)
    where
      by_value : (b c : Bool) → f e ≡ b → g e ≡ c → Fewer f g es → Fewer f g (e ∷ es)
      by_value true true p q later = absurd (apart e p q)
      by_value true false p q later =
          record {
            entries = rw (p, q) (omega (arith, later.entries));
            octets = rw (p, q) (omega (arith, later.octets, length-append e.octets (records (keep f es)), length-append e.octets (records es)));
          }
      by_value false true p q later =
          record {
            entries = rw (p, q) (omega (arith, later.entries));
            octets = rw (p, q) (omega (arith, later.octets, length-append e.octets (records (keep g es)), length-append e.octets (records es)));
          }
      by_value false false p q later =
          record {
            entries = rw (p, q) (omega (arith, later.entries));
            octets = rw (p, q) (omega (arith, later.octets, length-append e.octets (records es)));
          }

-- ---- pairs rise

unfoldable pub Sorted : List Entry → Type 0
Sorted [] = Unit
Sorted (e ∷ es) = ((f : Entry) → In f es → Under e f) × Sorted es

pub sorted_keep : (f : Entry → Bool) (es : List Entry) → Sorted es → Sorted (keep f es)
unfolding Sorted keep
sorted_keep f [] s = tt
sorted_keep f (e ∷ es) s = by_value (f e) (sorted_keep f es s.1)
  where
    by_value : (b : Bool) → Sorted (keep f es) → Sorted (cond b (e ∷ keep f es) (keep f es))
    by_value true later = (λ g h. s.0 g (keep_in f g es h).1, later)
    by_value false later = later

pub sorted_append : (a b : List Entry) → Sorted a → Sorted b → ((e f : Entry) → In e a → In f b → Under e f) → Sorted (a ++ b)
unfolding Sorted In
sorted_append [] b s r h = r
sorted_append (e ∷ a) b s r h = (
  λ f i. ⊎_elim (λ l. s.0 f l) (λ m. h e f (inl refl) m) (in_either f a b i),
  sorted_append a b s.1 r (λ g f i m. h g f (inr i) m),
)

pub sorted_next : (es : List Entry) (k : ℕ) → Sorted es → suc k < length es → Under (at es k) (at es (suc k))
unfolding Sorted
sorted_next [] k s h = absurd (omega arith)
sorted_next (e ∷ es) zero s h = s.0 (at es 0) (at_in es 0 (omega arith))
sorted_next (e ∷ es) (suc k) s h = sorted_next es k s.1 (omega arith)

-- ---- the entries of a shelf

module _ (S : List ℕ) where
  module _ (private : Bool) (f : Formed S private) where
    pub under-later : (j k : ℕ) → j < k → k < count S → Under (entry_at S j) (entry_at S k)
    unfolding entry_at
    under-later j k h l =
        let b = pairs_below S (λ i m. (f.entries i m).rising) j k h l in
        record { lower = record { owners = b.tenants; numbers = b.profiles } }

    pub sorted-from : (n k : ℕ) → k + n ≤ count S → Sorted (entries_from S n k)
    unfolding Sorted entries_from
    sorted-from zero k h = tt
    sorted-from (suc n) k h = (
      λ g i.
          let p = in_from S n (suc k) g i in
          rw p.there (under-later k p.place (omega (arith, p.least)) (omega (arith, p.most))),
      sorted-from n (suc k) (omega arith),
    )

    pub sorted_entries : Sorted (entries S)
    unfolding entries
    sorted_entries = sorted-from (count S) 0 (omega arith)
