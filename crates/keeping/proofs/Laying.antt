-- The new shelf, laid piece behind piece: the pieces fit into the output, and together they are the shelf.
use mathlib.Core.Path.{◌≡◌, sym, ap, ◌∙◌}
use mathlib.Core.Bool.{true}
use mathlib.Core.List.{List, ◌∷◌, ◌++◌}
use Prim.Native.Nat.{ℕ, ◌+◌, ◌-◌, ◌*◌, ◌≤◌}
use native.Mathlib.Omega.{arith}
use lib.ListN.{length, take, drop, length-append}
use lib.Seq.{sets, take-length}
use Rattle.bits.specs.Steps.Places.{Laid}
use Rattle.bits.specs.declared.number.Written.{Written}
use Rattle.bits.proofs.Answers.{when-done, when_refused}
use Rattle.shelf.specs.Shelf.{count, private_shelf}
use Rattle.keeping.specs.Entries.{Entry, entries_from, before, after, entries_put, entries_left, shelf_put, shelf_left, two_octets, head, heads, records}
use Rattle.keeping.specs.Promises.{Kept}
use Rattle.keeping.specs.Steps.Places.{Spotted, Ready}
use Rattle.keeping.proofs.Spelled.{length-shelf, records-append}
use Rattle.keeping.proofs.Writing.{laid-sets, put_whole, left-whole, set_front}
use Rattle.keeping.proofs.Sizes.{many-before, many_put, many-left}

-- a whole list laid over another
pub laid-all : (s a b : List ℕ) (n at : ℕ) → n ≡ length s → at + n ≤ length a → Laid s 0 n a at b → b ≡ sets a at s
laid-all s a b n at e l w =
    laid-sets s a b 0 n at (omega arith) l w ∙ ap (λ (k : ℕ). sets a at (take k s)) e ∙ ap (sets a at) (take-length s)

-- ---- the entries as the code walks them: c is the count

module _ (S : List ℕ) (t p at gone c : ℕ) (s : Spotted S t p at gone) (e : c ≡ count S) where
  abbrev low : List Entry
  low = entries_from S (at - 0) 0

  abbrev high : List Entry
  high = entries_from S (c - (at + gone)) (at + gone)

  low-is : low ≡ before S t p
  low-is = ap (λ (n : ℕ). entries_from S n 0) (let z : at - 0 ≡ at = omega arith in z) ∙ sym s.low

  high_is : high ≡ after S t p
  high_is = ap (λ (n : ℕ). entries_from S (n - (at + gone)) (at + gone)) e ∙ sym s.high

-- the pieces fit: m octets are put between those that stay
pub record Fits (S : List ℕ) (at gone c kept m lent : ℕ) : Type 0 where
  pub inside : at + gone ≤ c
  pub one : gone ≤ 1
  pub few : kept ≤ 64
  pub short : 2 + 8 * kept + length (records (entries_from S (at - 0) 0)) + m + length (records (entries_from S (c - (at + gone)) (at + gone))) ≤ 65535
  pub room : 2 + 8 * kept + length (records (entries_from S (at - 0) 0)) + m + length (records (entries_from S (c - (at + gone)) (at + gone))) ≤ lent

module _ (S : List ℕ) (t p at gone c n lent : ℕ) (e : c ≡ count S) where
  pub put_fits : (R : List ℕ) → Ready S t p at gone (entries_put S t p R) n lent → Fits S at gone c (c + 1 - gone) (length R) lent
  unfolding entries_put records
  put_fits R r =
      let s = r.spot in
      let a = before S t p in
      let b = after S t p in
      let new : Entry = record { owner = t; number = p; octets = R } in
      let first = ap (λ (l : List Entry). length (records l)) (low-is S t p at gone c s e) in
      let last = ap (λ (l : List Entry). length (records l)) (high_is S t p at gone c s e) in
      let many : length (a ++ (new ∷ b)) ≡ count S + 1 - gone = many_put S t p at gone r.formed s R in
      let long : length (records (a ++ (new ∷ b))) ≡ length (records a) + (length R + length (records b)) =
      ap length (records-append a (new ∷ b)) ∙ omega (arith, length-append (records a) (R ++ records b), length-append R (records b)) in
      let all = length-shelf (a ++ (new ∷ b)) in
      record {
        inside = omega (arith, s.inside);
        one = s.one;
        few = omega (arith, r.few);
        short = omega (arith, r.size, r.short);
        room = omega (arith, r.size, r.room);
      }

  pub left-fits : gone ≡ 1 → Ready S t p at gone (entries_left S t p) n lent → Fits S at 1 c (c - 1) 0 lent
  unfolding entries_left
  left-fits g r =
      let s : Spotted S t p at 1 = rw g at r.spot in
      let a = before S t p in
      let b = after S t p in
      let first = ap (λ (l : List Entry). length (records l)) (low-is S t p at 1 c s e) in
      let last = ap (λ (l : List Entry). length (records l)) (high_is S t p at 1 c s e) in
      let many : length (a ++ b) ≡ count S - 1 = many-left S t p at 1 r.formed s in
      let long : length (records (a ++ b)) ≡ length (records a) + length (records b) =
      ap length (records-append a b) ∙ length-append (records a) (records b) in
      let all = length-shelf (a ++ b) in
      record {
        inside = omega (arith, s.inside);
        one = omega arith;
        few = omega (arith, r.few);
        short = omega (arith, r.size, r.short);
        room = omega (arith, r.size, r.room);
      }

-- ---- together they are the new shelf

module _ (S : List ℕ) (t p at c : ℕ) (e : c ≡ count S) (formed : private_shelf S ≡ true) where
  pub put_laid : (gone : ℕ) (s : Spotted S t p at gone) (R out o1 o2 o3 o4 o5 o6 o7 : List ℕ) (kept first mine own behind next : ℕ)
      → o1 ≡ sets out 0 (two_octets kept)
      → o2 ≡ sets o1 2 (heads first (entries_from S (at - 0) 0))
      → o3 ≡ sets o2 own (head t p mine (length R))
      → o4 ≡ sets o3 behind (heads next (entries_from S (c - (at + gone)) (at + gone)))
      → o5 ≡ sets o4 first (records (entries_from S (at - 0) 0))
      → o6 ≡ sets o5 mine R
      → o7 ≡ sets o6 next (records (entries_from S (c - (at + gone)) (at + gone)))
      → mine ≡ first + length (records (entries_from S (at - 0) 0))
      → kept ≡ c + 1 - gone → first ≡ 2 + 8 * kept → own ≡ 2 + 8 * at → behind ≡ 10 + 8 * at → next ≡ mine + length R
      → o7 ≡ sets out 0 (shelf_put S t p R)
  unfolding entries_put
  put_laid gone s R out o1 o2 o3 o4 o5 o6 o7 kept first mine own behind next e1 e2 e3 e4 e5 e6 e7 m k f g b n =
      let x = before S t p in
      let y = after S t p in
      let new : Entry = record { owner = t; number = p; octets = R } in
      let low = low-is S t p at gone c s e in
      let high = high_is S t p at gone c s e in
      let many : length (x ++ (new ∷ y)) ≡ count S + 1 - gone = many_put S t p at gone formed s R in
      let place : length x ≡ at = many-before S t p at gone formed s in
      let whole = put_whole x y new kept first mine next (omega arith) f (m ∙ ap (λ (l : List Entry). first + length (records l)) low) n out in
      cc whole

  pub left_laid : (s : Spotted S t p at 1) (out o1 o2 o3 o4 o5 : List ℕ) (kept first behind next : ℕ)
      → o1 ≡ sets out 0 (two_octets kept)
      → o2 ≡ sets o1 2 (heads first (entries_from S (at - 0) 0))
      → o3 ≡ sets o2 behind (heads next (entries_from S (c - (at + 1)) (at + 1)))
      → o4 ≡ sets o3 first (records (entries_from S (at - 0) 0))
      → o5 ≡ sets o4 next (records (entries_from S (c - (at + 1)) (at + 1)))
      → next ≡ first + length (records (entries_from S (at - 0) 0))
      → kept ≡ c - 1 → first ≡ 2 + 8 * kept → behind ≡ 2 + 8 * at
      → o5 ≡ sets out 0 (shelf_left S t p)
  unfolding entries_left
  left_laid s out o1 o2 o3 o4 o5 kept first behind next e1 e2 e3 e4 e5 m k f b =
      let x = before S t p in
      let y = after S t p in
      let low = low-is S t p at 1 c s e in
      let high = high_is S t p at 1 c s e in
      let many : length (x ++ y) ≡ count S - 1 = many-left S t p at 1 formed s in
      let place : length x ≡ at = many-before S t p at 1 formed s in
      let whole = left-whole x y kept first next (omega arith) f (m ∙ ap (λ (l : List Entry). first + length (records l)) low) out in
      cc whole

-- ---- what is promised

module _ (n : ℕ) (new out : List ℕ) (r : Written) where
  pub kept-refused : r.number ≡ n → (n ≡ 0 → ⊥) → r.count ≡ 0 → Kept n new out r out
  kept-refused e h c =
      record { number = e; count = c ∙ sym (when_refused n (length new) 0 h); output = sym (when_refused n (new ++ drop (length new) out) out h) }

  pub kept-done : (out' : List ℕ) → r.number ≡ n → n ≡ 0 → r.count ≡ length new → length new ≤ length out → out' ≡ sets out 0 new → Kept n new out r out'
  kept-done out' e z c h w =
      record {
        number = e;
        count = c ∙ sym (when-done n (length new) 0 z);
        output = w ∙ set_front out new h ∙ sym (when-done n (new ++ drop (length new) out) out z);
      }
