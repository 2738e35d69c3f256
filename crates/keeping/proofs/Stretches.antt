-- The records of neighbouring entries are one stretch of the shelf.
use mathlib.Core.Path.{◌≡◌, refl, sym, ap, ap₂, ◌∙◌}
use mathlib.Core.Bool.{Bool}
use mathlib.Core.List.{List, ◌∷◌, ◌++◌}
use Prim.Native.Nat.{ℕ, zero, suc, ◌+◌, ◌≤◌, ◌<◌}
use native.Mathlib.Nat.{add-zero}
use native.Mathlib.Omega.{arith}
use lib.ListN.{length, take, drop, length-append}
use lib.Seq.{take-add, drop-drop}
use Rattle.bits.proofs.Lists.{length_part}
use Rattle.shelf.specs.Shelf.{count, offset, size, record_at, offset_due}
use Rattle.shelf.proofs.WellFormed.{Formed, record_within}
use Rattle.keeping.specs.Entries.{entry_at, entries_from, records}

pub length_from : (S : List ℕ) (n k : ℕ) → length (entries_from S n k) ≡ n
unfolding entries_from
length_from S zero k = refl
length_from S (suc n) k = ap suc (length_from S n (suc k))

pub from_append : (S : List ℕ) (a b k : ℕ) → entries_from S (a + b) k ≡ entries_from S a k ++ entries_from S b (k + a)
unfolding entries_from
from_append S zero b k = ap₂ (entries_from S) (let z : 0 + b ≡ b = omega arith in z) (sym (add-zero k))
from_append S (suc a) b k =
    let one : suc a + b ≡ suc (a + b) = omega arith in
    let two : suc k + a ≡ k + suc a = omega arith in
    ap (λ (n : ℕ). entries_from S n k) one
    ∙ ap (λ l. entry_at S k ∷ l) (from_append S a b (suc k) ∙ ap (λ (n : ℕ). entries_from S a (suc k) ++ entries_from S b n) two)

module _ (S : List ℕ) (private : Bool) (f : Formed S private) where
  pub record_size : (k : ℕ) → k < count S → length (record_at S k) ≡ size S k
  unfolding record_at
  record_size k l = length_part (size S k) (offset S k) S (record_within S private f k l)

  begins : (k : ℕ) → k < count S → record_at S k ≡ take (size S k) (drop (offset_due S k) S)
  unfolding record_at
  begins k l = ap (λ (o : ℕ). take (size S k) (drop o S)) (f.entries k l).chain

  -- where the next one begins
  next-due : (k : ℕ) → k < count S → offset_due S (suc k) ≡ offset_due S k + size S k
  unfolding offset_due
  next-due k l = omega (arith, (f.entries k l).chain)

  pub span : (n k : ℕ) → k + n ≤ count S → offset_due S k + length (records (entries_from S n k)) ≡ offset_due S (k + n)
  unfolding entries_from records entry_at
  span zero k h = omega (arith, ap (offset_due S) (add-zero k))
  span (suc n) k h =
      let l : k < count S = omega arith in
      let rest = records (entries_from S n (suc k)) in
      let on : offset_due S (suc k + n) ≡ offset_due S (k + suc n) = ap (offset_due S) (let z : suc k + n ≡ k + suc n = omega arith in z) in
      omega (arith, length-append (record_at S k) rest, record_size k l, next-due k l, span n (suc k) (omega arith), on)

  pub stretch : (n k : ℕ) → k + n ≤ count S → records (entries_from S n k) ≡ take (length (records (entries_from S n k))) (drop (offset_due S k) S)
  unfolding entries_from records entry_at
  stretch zero k h = refl
  stretch (suc n) k h =
      let l : k < count S = omega arith in
      let rest = records (entries_from S n (suc k)) in
      let s = size S k in
      let o = offset_due S k in
      let first : record_at S k ≡ take s (drop o S) = begins k l in
      let behind : rest ≡ take (length rest) (drop s (drop o S)) =
      stretch n (suc k) (omega arith) ∙ ap (take (length rest)) (ap (λ (m : ℕ). drop m S) (next-due k l) ∙ sym (drop-drop s o S)) in
      let long : length (record_at S k ++ rest) ≡ s + length rest = length-append (record_at S k) rest ∙ ap (λ (m : ℕ). m + length rest) (record_size k l) in
      ap₂ (λ (a b : List ℕ). a ++ b) first behind
      ∙ sym (take-add s (length rest) (drop o S))
      ∙ ap (λ (m : ℕ). take m (drop o S)) (sym long)
