-- Where a search ends, the entries below the pair that is asked for stand before those above it.
use mathlib.Core.Path.{◌≡◌, refl, ap, ap₂, ◌∙◌}
use mathlib.Core.Bool.{Bool, true, false}
use mathlib.Core.List.{List, [], ◌++◌, append-nil}
use mathlib.Core.Logic.{⊎_elim}
use Prim.Native.Nat.{ℕ, ◌+◌, ◌-◌, ◌*◌, ◌≤◌, ◌<◌}
use native.Mathlib.Nat.{eq-or-lt_of_le}
use native.Mathlib.Omega.{arith}
use Rattle.bits.specs.Bits.{AreOctets}
use Rattle.shelf.specs.Shelf.{count, tenant, profile}
use Rattle.shelf.specs.Steps.Walking.{pair, PairsRise}
use Rattle.shelf.specs.Steps.Finding.{Parted}
use Rattle.shelf.proofs.WellFormed.{Formed, profile-small, pairs-rise}
use Rattle.shelf.proofs.Finding.{entry-is_found, entry-none, has_it}
use Rattle.keeping.specs.Entries.{Entry, entry_at, entries_from, entries, below, keep, before, after}
use Rattle.keeping.specs.Steps.Places.{Spotted}
use Rattle.keeping.proofs.Pairs.{below-lower, lower-below, in_from, keep_append, keep_all, keep-none}
use Rattle.keeping.proofs.Stretches.{from_append}

-- ---- pairs as one number

is_below : (a b t p : ℕ) → b < 65536 → p < 65536 → a * 65536 + b < t * 65536 + p → below a b t p ≡ true
is_below a b t p h s l = lower-below a b t p (record { owners = omega arith; numbers = λ e. omega arith })

not_below : (a b t p : ℕ) → b < 65536 → p < 65536 → t * 65536 + p ≤ a * 65536 + b → below a b t p ≡ false
not_below a b t p h s l = by_value (below a b t p) refl
  where
    by_value : (v : Bool) → below a b t p ≡ v → v ≡ false
    by_value true e =
        let w = below-lower a b t p e in
        let same : a ≡ t = omega (arith, w.owners) in
        absurd (omega (arith, w.numbers same))
    by_value false e = refl

module _ (S : List ℕ) (octets : AreOctets S) (f : Formed S true) (t p : ℕ) (short : p < 65536) (k g : ℕ)
    (h : Parted S (t * 65536 + p) k k) (inside : k + g ≤ count S)
    (same : (j : ℕ) → k ≤ j → j < k + g → pair S j ≡ t * 65536 + p)
    (above : (j : ℕ) → k + g ≤ j → j < count S → t * 65536 + p < pair S j) where
  abbrev asked : ℕ
  asked = t * 65536 + p

  abbrev low : Entry → Bool
  low e = below e.owner e.number t p

  abbrev high : Entry → Bool
  high e = below t p e.owner e.number

  low-is : (j : ℕ) → pair S j < asked → low (entry_at S j) ≡ true
  unfolding entry_at pair
  low-is j l = is_below (tenant S j) (profile S j) t p (profile-small S octets j) short l

  low-not : (j : ℕ) → asked ≤ pair S j → low (entry_at S j) ≡ false
  unfolding entry_at pair
  low-not j l = not_below (tenant S j) (profile S j) t p (profile-small S octets j) short l

  high_is : (j : ℕ) → asked < pair S j → high (entry_at S j) ≡ true
  unfolding entry_at pair
  high_is j l = is_below t p (tenant S j) (profile S j) short (profile-small S octets j) l

  high-not : (j : ℕ) → pair S j ≤ asked → high (entry_at S j) ≡ false
  unfolding entry_at pair
  high-not j l = not_below t p (tenant S j) (profile S j) short (profile-small S octets j) l

  abbrev left : ℕ
  left = count S - (k + g)

  parts : entries S ≡ entries_from S k 0 ++ (entries_from S g k ++ entries_from S left (k + g))
  unfolding entries
  parts =
      let all : count S ≡ k + (g + left) = omega arith in
      let zero-k : 0 + k ≡ k = omega arith in
      ap (λ (n : ℕ). entries_from S n 0) all
      ∙ from_append S k (g + left) 0
      ∙ ap (λ (n : ℕ). entries_from S k 0 ++ entries_from S (g + left) n) zero-k
      ∙ ap (λ (l : List Entry). entries_from S k 0 ++ l) (from_append S g left k)

  -- a test that is the same at every place of a part
  module _ (test : Entry → Bool) (n from : ℕ) where
    all-kept : ((j : ℕ) → from ≤ j → j < from + n → test (entry_at S j) ≡ true) → keep test (entries_from S n from) ≡ entries_from S n from
    all-kept law =
        keep_all test (entries_from S n from)
        (λ e i. let q = in_from S n from e i in ap test q.there ∙ law q.place q.least q.most)

    none_kept : ((j : ℕ) → from ≤ j → j < from + n → test (entry_at S j) ≡ false) → keep test (entries_from S n from) ≡ []
    none_kept law =
        keep-none test (entries_from S n from)
        (λ e i. let q = in_from S n from e i in ap test q.there ∙ law q.place q.least q.most)

  kept-parts : (test : Entry → Bool)
      → keep test (entries S) ≡ keep test (entries_from S k 0) ++ (keep test (entries_from S g k) ++ keep test (entries_from S left (k + g)))
  kept-parts test =
      ap (keep test) parts
      ∙ keep_append test (entries_from S k 0) (entries_from S g k ++ entries_from S left (k + g))
      ∙ ap (λ (l : List Entry). keep test (entries_from S k 0) ++ l) (keep_append test (entries_from S g k) (entries_from S left (k + g)))

  pub before-is : before S t p ≡ entries_from S k 0
  unfolding before
  before-is =
      kept-parts low
      ∙ ap₂ (λ (x y : List Entry). x ++ y)
      (all-kept low k 0 (λ j a b. low-is j (h.below j (omega arith))))
      (ap₂ (λ (x y : List Entry). x ++ y)
      (none_kept low g k (λ j a b. low-not j (omega (arith, same j a b))))
      (none_kept low left (k + g) (λ j a b. low-not j (omega (arith, above j a (omega arith))))))
      ∙ append-nil (entries_from S k 0)

  pub after_is : after S t p ≡ entries_from S left (k + g)
  unfolding after
  after_is =
      kept-parts high
      ∙ ap₂ (λ (x y : List Entry). x ++ y)
      (none_kept high k 0 (λ j a b. high-not j (omega (arith, h.below j (omega arith)))))
      (ap₂ (λ (x y : List Entry). x ++ y)
      (none_kept high g k (λ j a b. high-not j (omega (arith, same j a b))))
      (all-kept high left (k + g) (λ j a b. high_is j (above j a (omega arith)))))

-- ---- what a search says

module _ (S : List ℕ) (octets : AreOctets S) (f : Formed S true) (t p : ℕ) (short : p < 65536) (k : ℕ) (h : Parted S (t * 65536 + p) k k) where
  abbrev sought : ℕ
  sought = t * 65536 + p

  up : PairsRise S
  up = pairs-rise S octets true f

  pub spotted_none : (k < count S → pair S k ≡ sought → ⊥) → Spotted S t p k 0
  spotted_none n =
      let over : (j : ℕ) → k + 0 ≤ j → j < count S → sought < pair S j =
      λ j a b.
      ⊎_elim
      (λ e. let on : pair S k ≡ pair S j = ap (pair S) e in omega (arith, h.others j (omega arith) b, on, n (omega arith)))
      (λ l. omega (arith, up k j l b, h.others k (omega arith) (omega arith)))
      (eq-or-lt_of_le (let z : k ≤ j = omega arith in z)) in
      record {
        inside = omega (arith, h.inside);
        one = omega arith;
        low = before-is S octets f t p short k 0 h (omega (arith, h.inside)) (λ j a b. absurd (omega arith)) over;
        high = after_is S octets f t p short k 0 h (omega (arith, h.inside)) (λ j a b. absurd (omega arith)) over;
        held = entry-none S octets t p short k h up n;
      }

  pub spotted_one : k < count S → pair S k ≡ sought → Spotted S t p k 1
  spotted_one l e =
      let here : (j : ℕ) → k ≤ j → j < k + 1 → pair S j ≡ sought = λ j a b. ap (pair S) (let z : j ≡ k = omega arith in z) ∙ e in
      let over : (j : ℕ) → k + 1 ≤ j → j < count S → sought < pair S j = λ j a b. omega (arith, up k j (omega arith) b, e) in
      record {
        inside = omega arith;
        one = omega arith;
        low = before-is S octets f t p short k 1 h (omega arith) here over;
        high = after_is S octets f t p short k 1 h (omega arith) here over;
        held = has_it S t p k (entry-is_found S octets t p short k h l e) l;
      }
