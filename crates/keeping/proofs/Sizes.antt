-- How long the new shelf is, and the numbers of a change by its tests.
use mathlib.Core.Path.{◌≡◌, refl, sym, ap, ap₂, ◌∙◌}
use mathlib.Core.Bool.{Bool, true, false, cond, ◌||◌}
use Rattle.std.specs.Prelude.{Result, Ok, Err}
use Rattle.bits.specs.declared.number.Refusal.{Refusal}
use mathlib.Core.List.{List, [], ◌∷◌, ◌++◌}
use Prim.Native.Nat.{ℕ, zero, suc, ◌+◌, ◌-◌, ◌*◌, ◌≤◌, ◌<◌}
use native.Mathlib.Nat.{add-zero}
use native.Mathlib.Omega.{arith}
use lib.Dec.{ltb}
use lib.ListN.{length, length-append}
use borrow.Author.Tests.{eqb-true, ne_eqb, lt-ltb, le-ltb, ltb-false}
use Rattle.bits.specs.Numbers.{answered}
use Rattle.bits.proofs.Answers.{first_part, last_part, Refusals}
use Rattle.bits.proofs.Ranges.{equal_or, neither}
use Rattle.profile.specs.Promises.{judged, judge_conditions}
use Rattle.shelf.specs.Shelf.{count, size, offset_due, private_shelf}
use Rattle.shelf.specs.Lookup.{has}
use Rattle.shelf.proofs.WellFormed.{Formed, formed-is, record_within}
use Rattle.keeping.specs.Entries.{Entry, before, after, entries_put, entries_left, shelf_put, shelf_left, records}
use Rattle.keeping.specs.Promises.{overfull, put_number, remove_number}
use Rattle.keeping.specs.Steps.Places.{Spotted, freed, Within, size_with, room_number, Roomed, Ready, Changes}
use Rattle.keeping.specs.declared.change.Change.{Change}
use Rattle.keeping.proofs.Spelled.{length-shelf, records-append}
use Rattle.keeping.proofs.Stretches.{length_from, span}

module _ (S : List ℕ) (t p at gone : ℕ) (formed : private_shelf S ≡ true) (s : Spotted S t p at gone) where
  f : Formed S true
  f = formed-is S true formed

  abbrev left : ℕ
  left = count S - (at + gone)

  pub many-before : length (before S t p) ≡ at
  many-before = ap length s.low ∙ length_from S at 0

  pub many-after : length (after S t p) ≡ left
  many-after = ap length s.high ∙ length_from S left (at + gone)

  -- where the first records end on the old shelf, and where the last ones begin
  pub octets-before : 2 + 8 * count S + length (records (before S t p)) ≡ offset_due S at
  unfolding offset_due
  octets-before =
      let on : offset_due S (0 + at) ≡ offset_due S at = ap (offset_due S) (let z : 0 + at ≡ at = omega arith in z) in
      omega (arith, span S true f at 0 (omega (arith, s.inside)), on, ap (λ (l : List Entry). length (records l)) s.low)

  pub octets-after : offset_due S (at + gone) + length (records (after S t p)) ≡ length S
  octets-after =
      let all : at + gone + left ≡ count S = omega (arith, s.inside) in
      let on : offset_due S (at + gone + left) ≡ offset_due S (count S) = ap (offset_due S) all in
      omega (arith, span S true f left (at + gone) (omega (arith, s.inside)), on, f.ends, ap (λ (l : List Entry). length (records l)) s.high)

  -- the record that goes stands between them
  between : offset_due S (at + gone) + 8 * gone ≡ offset_due S at + freed S at gone
  unfolding freed offset_due
  between = by-gone gone s.one s.inside
    where
      by-gone : (g : ℕ) → g ≤ 1 → at + g ≤ count S → offset_due S (at + g) + 8 * g ≡ offset_due S at + g * (8 + size S at)
      by-gone zero h l = let on : offset_due S (at + 0) ≡ offset_due S at = ap (offset_due S) (add-zero at) in omega (arith, on)
      by-gone (suc zero) h l =
          let on : offset_due S (at + 1) ≡ offset_due S (suc at) = ap (offset_due S) (let z : at + 1 ≡ suc at = omega arith in z) in
          omega (arith, on, (f.entries at (omega arith)).chain)
      by-gone (suc (suc g)) h l = absurd (omega arith)

  pub size_put : (R : List ℕ) → length (shelf_put S t p R) ≡ size_with S at gone (length R)
  unfolding entries_put size_with records
  size_put R =
      let a = before S t p in
      let b = after S t p in
      let e : Entry = record { owner = t; number = p; octets = R } in
      omega (
        arith,
        length-shelf (a ++ (e ∷ b)),
        length-append a (e ∷ b),
        ap length (records-append a (e ∷ b)),
        length-append (records a) (R ++ records b),
        length-append R (records b),
        many-before,
        many-after,
        octets-before,
        octets-after,
        between,
        s.one,
        s.inside,
      )

  pub many_put : (R : List ℕ) → length (entries_put S t p R) ≡ count S + 1 - gone
  unfolding entries_put
  many_put R =
      let e : Entry = record { owner = t; number = p; octets = R } in
      omega (arith, length-append (before S t p) (e ∷ after S t p), many-before, many-after, s.one, s.inside)

  -- the heads that go are counted once in each
  pub size-left : length (shelf_left S t p) + freed S at gone ≡ length S
  unfolding entries_left
  size-left =
      let a = before S t p in
      let b = after S t p in
      omega (
        arith,
        length-shelf (a ++ b),
        length-append a b,
        ap length (records-append a b),
        length-append (records a) (records b),
        many-before,
        many-after,
        octets-before,
        octets-after,
        between,
        s.one,
        s.inside,
      )

  pub many-left : length (entries_left S t p) ≡ count S - gone
  unfolding entries_left
  many-left = omega (arith, length-append (before S t p) (after S t p), many-before, many-after, s.one, s.inside)

  pub overfull-is : (R : List ℕ) → overfull (entries_put S t p R) ≡ (ltb 64 (count S + 1 - gone) || ltb 65535 (size_with S at gone (length R)))
  unfolding overfull
  overfull-is R = ap₂ (λ (a b : ℕ). ltb 64 a || ltb 65535 b) (many_put R) (size_put R)

-- an entry that goes is on the shelf, whatever its pair
pub freed-inside : (S : List ℕ) (at gone : ℕ) → private_shelf S ≡ true → gone ≤ 1 → at + gone ≤ count S → freed S at gone ≤ length S
unfolding freed offset_due
freed-inside S at gone formed = by-gone gone
  where
    by-gone : (g : ℕ) → g ≤ 1 → at + g ≤ count S → g * (8 + size S at) ≤ length S
    by-gone zero h l = omega arith
    by-gone (suc zero) h l =
        let f = formed-is S true formed in
        let below : at < count S = omega arith in
        let on : offset_due S (0 + at) ≡ offset_due S at = ap (offset_due S) (let z : 0 + at ≡ at = omega arith in z) in
        omega (arith, span S true f at 0 (omega arith), on, (f.entries at below).chain, record_within S true f at below)
    by-gone (suc (suc g)) h l = absurd (omega arith)

-- ---- the numbers by their tests

module _ (S : List ℕ) (t p : ℕ) (R : List ℕ) (lent : ℕ) where
  pub put_zero : t ≡ 0 → put_number S t p R lent ≡ 1
  unfolding put_number answered
  put_zero e = rw e

  module _ (asked : t ≡ 0 → ⊥) where
    pub put-unformed : private_shelf S ≡ false → put_number S t p R lent ≡ 2
    unfolding put_number answered
    put-unformed e = rw (ne_eqb t 0 asked, e)

    module _ (formed : private_shelf S ≡ true) where
      abbrev later : List (ℕ × Bool)
      later = (26, overfull (entries_put S t p R)) ∷ (11, ltb lent (length (shelf_put S t p R))) ∷ []

      begun : put_number S t p R lent ≡ answered (judge_conditions R ++ later)
      unfolding put_number answered
      begun = rw (ne_eqb t 0 asked, formed)

      pub put-judged : (judged R ≡ 0 → ⊥) → put_number S t p R lent ≡ judged R
      unfolding judged
      put-judged n = begun ∙ first_part (judge_conditions R) later n

      pub put-roomed : judged R ≡ 0 → (at gone : ℕ) → Spotted S t p at gone → put_number S t p R lent ≡ room_number S at gone (length R) lent
      unfolding judged room_number answered Refusals
      put-roomed z at gone s =
          begun
          ∙ last_part (judge_conditions R) later tt z
          ∙ ap₂ (λ (b : Bool) (n : ℕ). cond b 26 (cond (ltb lent n) 11 0)) (overfull-is S t p at gone formed s R) (size_put S t p at gone formed s R)

module _ (S : List ℕ) (t p lent : ℕ) where
  pub remove_zero : t ≡ 0 → remove_number S t p lent ≡ 1
  unfolding remove_number answered
  remove_zero e = rw e

  module _ (asked : t ≡ 0 → ⊥) where
    pub remove-unformed : private_shelf S ≡ false → remove_number S t p lent ≡ 2
    unfolding remove_number answered
    remove-unformed e = rw (ne_eqb t 0 asked, e)

    module _ (formed : private_shelf S ≡ true) where
      pub remove_none : has S t p ≡ false → remove_number S t p lent ≡ 4
      unfolding remove_number answered
      remove_none e = rw (ne_eqb t 0 asked, formed, e)

      pub remove-room : has S t p ≡ true → remove_number S t p lent ≡ cond (ltb lent (length (shelf_left S t p))) 11 0
      unfolding remove_number answered
      remove-room e = rw (ne_eqb t 0 asked, formed, e)

-- what is removed is there
pub one_gone : (S : List ℕ) (t p lent at gone : ℕ) → private_shelf S ≡ true → Spotted S t p at gone → remove_number S t p lent ≡ 0 → gone ≡ 1
one_gone S t p lent at gone formed s z =
    equal_or t 0
    (λ e. absurd (omega (arith, remove_zero S t p lent e, z)))
    (λ n. by_value (has S t p) refl n)
  where
    by_value : (b : Bool) → has S t p ≡ b → (t ≡ 0 → ⊥) → gone ≡ 1
    by_value true e n = eqb-true gone 1 (sym s.held ∙ e)
    by_value false e n = absurd (omega (arith, remove_none S t p lent n formed e, z))

-- ---- room on the shelf, and in the output

module _ (S : List ℕ) (at gone m lent : ℕ) where
  pub room-entries : 64 < count S + 1 - gone → room_number S at gone m lent ≡ 26
  unfolding room_number
  room-entries h = rw (lt-ltb 64 (count S + 1 - gone) h)

  pub room-octets : 65535 < size_with S at gone m → room_number S at gone m lent ≡ 26
  unfolding room_number
  room-octets h = rw (lt-ltb 65535 (size_with S at gone m) h) (by_value (ltb 64 (count S + 1 - gone)))
    where
      by_value : (b : Bool) → ◌≡◌ {A = ℕ} (cond (b || true) 26 (cond (ltb lent (size_with S at gone m)) 11 0)) 26
      by_value true = refl
      by_value false = refl

  pub within_roomed : (r : Result Change Refusal) (n : ℕ) → n ≡ size_with S at gone m → count S + 1 - gone ≤ 64 → n ≤ 65535 → Within at gone n lent r
      → Roomed S at gone m lent r
  unfolding room_number
  within_roomed (Ok c) n e few short w = (
    rw (le-ltb 64 (count S + 1 - gone) few, le-ltb 65535 (size_with S at gone m) (omega arith), le-ltb lent (size_with S at gone m) (omega (arith, w.0))),
    w.1,
    w.2,
    w.3 ∙ e,
  )
  within_roomed (Err x) n e few short w =
      rw (le-ltb 64 (count S + 1 - gone) few, le-ltb 65535 (size_with S at gone m) (omega arith), lt-ltb lent (size_with S at gone m) (omega (arith, w.0))) w.1

-- ---- a change by its number

ready-there : (S : List ℕ) (t p : ℕ) (es : List Entry) (lent at gone n at' gone' n' : ℕ) → Ready S t p at gone es n lent
    → (at' ≡ at) × (gone' ≡ gone) × (n' ≡ n) → Ready S t p at' gone' es n' lent
ready-there S t p es lent at gone n at' gone' n' r q = rw (q.0, q.1, q.2) r

module _ (S : List ℕ) (t p at gone : ℕ) (formed : private_shelf S ≡ true) (s : Spotted S t p at gone) (lent : ℕ) where
  put-ready : (R : List ℕ) → room_number S at gone (length R) lent ≡ 0 → Ready S t p at gone (entries_put S t p R) (size_with S at gone (length R)) lent
  unfolding room_number
  put-ready R = by_value (ltb 64 (count S + 1 - gone) || ltb 65535 (size_with S at gone (length R))) (ltb lent (size_with S at gone (length R))) refl refl
    where
      by_value : (a b : Bool) → (ltb 64 (count S + 1 - gone) || ltb 65535 (size_with S at gone (length R))) ≡ a → ltb lent (size_with S at gone (length R)) ≡ b
          → ◌≡◌ {A = ℕ} (cond a 26 (cond b 11 0)) 0 → Ready S t p at gone (entries_put S t p R) (size_with S at gone (length R)) lent
      by_value true b x y z = absurd (omega arith)
      by_value false true x y z = absurd (omega arith)
      by_value false false x y z =
          let parts = neither (ltb 64 (count S + 1 - gone)) (ltb 65535 (size_with S at gone (length R))) x in
          record {
            formed = formed;
            spot = s;
            few = omega (arith, many_put S t p at gone formed s R, ltb-false 64 (count S + 1 - gone) parts.0);
            size = sym (size_put S t p at gone formed s R);
            short = ltb-false 65535 (size_with S at gone (length R)) parts.1;
            room = ltb-false lent (size_with S at gone (length R)) y;
          }

  pub put_changes : (R : List ℕ) (n : ℕ) (r : Result Change Refusal) → n ≡ room_number S at gone (length R) lent → Roomed S at gone (length R) lent r
      → Changes S t p (entries_put S t p R) lent n r
  put_changes R n (Ok c) e r = (
    e ∙ r.0,
    ready-there S t p (entries_put S t p R) lent at gone (size_with S at gone (length R)) c.spot.at c.spot.gone c.size (put-ready R r.0) (r.1, r.2, r.3),
  )
  put_changes R n (Err x) e r = r ∙ sym e

  left-ready : (n : ℕ) → n ≡ length (shelf_left S t p) → ltb lent n ≡ false → Ready S t p at gone (entries_left S t p) n lent
  left-ready n e b =
      let f = formed-is S true formed in
      record {
        formed = formed;
        spot = s;
        few = omega (arith, many-left S t p at gone formed s, f.sizes.few);
        size = e;
        short = omega (arith, size-left S t p at gone formed s, f.sizes.short);
        room = ltb-false lent n b;
      }

  pub left_changes : (m n : ℕ) (r : Result Change Refusal) → m ≡ length S - freed S at gone → n ≡ cond (ltb lent (length (shelf_left S t p))) 11 0 → Within at gone m lent r
      → Changes S t p (entries_left S t p) lent n r
  left_changes m n (Ok c) d e w =
      let long : m ≡ length (shelf_left S t p) = omega (arith, size-left S t p at gone formed s) in (
        rw (le-ltb lent (length (shelf_left S t p)) (omega (arith, w.0))) at e,
        ready-there S t p (entries_left S t p) lent at gone m c.spot.at c.spot.gone c.size (left-ready m long (le-ltb lent m w.0)) (w.1, w.2, w.3),
      )
  left_changes m n (Err x) d e w =
      let long : m ≡ length (shelf_left S t p) = omega (arith, size-left S t p at gone formed s) in
      w.1 ∙ sym (rw (lt-ltb lent (length (shelf_left S t p)) (omega (arith, w.0))) at e)
