-- What the calls answer: what has passed where the number is 0, and the whole answer.
use mathlib.Core.Path.{◌≡◌, refl, sym, ◌∙◌}
use mathlib.Core.Bool.{Bool, true, false, not, ◌||◌}
use mathlib.Core.List.{List, [], ◌∷◌, ◌++◌}
use Prim.Native.Nat.{ℕ, ◌+◌, ◌≤◌}
use native.Mathlib.Omega.{arith}
use borrow.Author.Tests.{ltb-false, le-ltb, eqb-true, not-true, not-false}
use lib.Dec.{eqb, ltb, lit<}
use lib.ListN.{length, drop}
use Rattle.bits.specs.Bits.{AreBits, some_over}
use Rattle.bits.specs.Numbers.{answered}
use Rattle.bits.specs.Ranges.{within}
use Rattle.bits.proofs.Answers.{passed, when-done, when_refused}
use Rattle.bits.proofs.Over.{over_none_bits, bits_not_over}
use Rattle.bits.proofs.Ranges.{neither, within-is}
use Rattle.matching.specs.Steps.Copies.{copies_agree}
use Rattle.control.specs.Back.{some_streams}
use Rattle.control.specs.Promises.{code_word_number, match_streams_number, send_word_number, streams_of_number, Wrote}
use Rattle.control.proofs.Backwards.{decided}

-- ---- what has passed

taken-within : (least most n : ℕ) → not (within least most n) ≡ false → (least ≤ n) × (n ≤ most)
taken-within least most n e = within-is least most n (not-false (within least most n) e)

-- a word of the right length, of single bits
pub record Word (c : List ℕ) : Type 0 where
  pub six : 6 ≤ length c
  pub most : length c ≤ 128
  pub bits : AreBits c

pub code_taken : (c : List ℕ) (lent : ℕ) → code_word_number c lent ≡ 0 → Word c × (length c + length c + length c ≤ lent)
unfolding code_word_number
code_taken c lent e =
    let a = passed 17 _ (not (within 6 128 (length c))) (lit< tt) e in
    let b = passed 11 _ (ltb lent (length c + length c + length c)) (lit< tt) a.1 in
    let d = passed 12 _ (some_over 1 c) (lit< tt) b.1 in
    let w = taken-within 6 128 (length c) a.0 in
    (record { six = w.0; most = w.1; bits = over_none_bits c d.0 }, ltb-false lent (length c + length c + length c) b.0)

pub send-taken : (c : List ℕ) (e lent : ℕ) → send_word_number c e lent ≡ 0 → Word c × (e ≤ lent)
unfolding send_word_number
send-taken c e lent q =
    let a = passed 17 _ (not (within 6 128 (length c))) (lit< tt) q in
    let b = passed 8 _ (not (within 1 65536 e)) (lit< tt) a.1 in
    let d = passed 11 _ (ltb lent e) (lit< tt) b.1 in
    let f = passed 12 _ (some_over 1 c) (lit< tt) d.1 in
    let w = taken-within 6 128 (length c) a.0 in
    (record { six = w.0; most = w.1; bits = over_none_bits c f.0 }, ltb-false lent e d.0)

pub record Matching (D : ℕ) (S : List ℕ) (e lent : ℕ) : Type 0 where
  pub six : 6 ≤ D
  pub most : D ≤ 128
  pub size : length S ≡ D + D + D
  pub bits : AreBits S
  pub fits : e ≤ lent

pub match_taken : (D : ℕ) (S : List ℕ) (e lent : ℕ) → match_streams_number D S e lent ≡ 0 → Matching D S e lent
unfolding match_streams_number
match_taken D S e lent q =
    let a = passed 17 _ (not (within 6 128 D)) (lit< tt) q in
    let b = passed 8 _ (not (within 1 65536 e) || not (eqb (length S) (D + D + D))) (lit< tt) a.1 in
    let d = passed 11 _ (ltb lent e) (lit< tt) b.1 in
    let f = passed 12 _ (some_over 1 S) (lit< tt) d.1 in
    let w = taken-within 6 128 D a.0 in
    let n = neither (not (within 1 65536 e)) (not (eqb (length S) (D + D + D))) b.0 in
    record {
      six = w.0;
      most = w.1;
      size = eqb-true (length S) (D + D + D) (not-false (eqb (length S) (D + D + D)) n.1);
      bits = over_none_bits S f.0;
      fits = ltb-false lent e d.0;
    }

pub record Hearing (D : ℕ) (bits : List ℕ) (lent : ℕ) : Type 0 where
  pub six : 6 ≤ D
  pub most : D ≤ 128
  pub single : AreBits bits
  pub long : D + D + D ≤ length bits
  pub fits : D + D + D ≤ lent
  pub found : some_streams D bits ≡ true

pub back_taken : (D : ℕ) (bits : List ℕ) (lent : ℕ) → streams_of_number D bits lent ≡ 0 → Hearing D bits lent
unfolding streams_of_number
back_taken D bits lent q =
    let a = passed 17 _ (not (within 6 128 D)) (lit< tt) q in
    let b = passed 8 _ (not (within 1 65536 (length bits))) (lit< tt) a.1 in
    let d = passed 11 _ (ltb lent (D + D + D)) (lit< tt) b.1 in
    let f = passed 12 _ (some_over 1 bits) (lit< tt) d.1 in
    let g = passed 13 _ (ltb (length bits) (D + D + D)) (lit< tt) f.1 in
    let h = passed 14 _ (not (some_streams D bits)) (lit< tt) g.1 in
    let w = taken-within 6 128 D a.0 in
    record {
      six = w.0;
      most = w.1;
      single = over_none_bits bits f.0;
      long = ltb-false (length bits) (D + D + D) g.0;
      fits = ltb-false lent (D + D + D) d.0;
      found = not-false (some_streams D bits) h.0;
    }

-- the tests of E, which the way back makes again
pub match_asked : (D : ℕ) (S : List ℕ) (e lent : ℕ) → match_streams_number D S e lent ≡ 0 → (within 6 128 D ≡ true) × (within 1 65536 e ≡ true)
unfolding match_streams_number
match_asked D S e lent q =
    let a = passed 17 _ (not (within 6 128 D)) (lit< tt) q in
    let b = passed 8 _ (not (within 1 65536 e) || not (eqb (length S) (D + D + D))) (lit< tt) a.1 in
    (not-false (within 6 128 D) a.0, not-false (within 1 65536 e) (neither (not (within 1 65536 e)) (not (eqb (length S) (D + D + D))) b.0).0)

pub send_asked : (c : List ℕ) (e lent : ℕ) → send_word_number c e lent ≡ 0 → (within 6 128 (length c) ≡ true) × (within 1 65536 e ≡ true)
unfolding send_word_number
send_asked c e lent q =
    let a = passed 17 _ (not (within 6 128 (length c))) (lit< tt) q in
    let b = passed 8 _ (not (within 1 65536 e)) (lit< tt) a.1 in
    (not-false (within 6 128 (length c)) a.0, not-false (within 1 65536 e) b.0)

pub back_done : (D : ℕ) (bits : List ℕ) (lent : ℕ) → within 6 128 D ≡ true → within 1 65536 (length bits) ≡ true → D + D + D ≤ lent → AreBits bits
    → D + D + D ≤ length bits → some_streams D bits ≡ true → streams_of_number D bits lent ≡ 0
unfolding streams_of_number answered
back_done D bits lent h e room single long found =
    rw (h, e, le-ltb lent (D + D + D) room, bits_not_over bits single, le-ltb (length bits) (D + D + D) long, found)

pub back_refused : (D : ℕ) (bits : List ℕ) (lent : ℕ) → within 6 128 D ≡ true → within 1 65536 (length bits) ≡ true → D + D + D ≤ lent → AreBits bits
    → D + D + D ≤ length bits → some_streams D bits ≡ false → streams_of_number D bits lent ≡ 14
unfolding streams_of_number answered
back_refused D bits lent h e room single long none =
    rw (h, e, le-ltb lent (D + D + D) room, bits_not_over bits single, le-ltb (length bits) (D + D + D) long, none)

-- what 14 says
six_tests : (a b c d e f : Bool) → answered ((17, a) ∷ (8, b) ∷ (11, c) ∷ (12, d) ∷ (13, e) ∷ (14, f) ∷ []) ≡ 14
    → (a ≡ false) × (b ≡ false) × (c ≡ false) × (d ≡ false) × (e ≡ false) × (f ≡ true)
unfolding answered
six_tests true b c d e f q = absurd (omega arith)
six_tests false true c d e f q = absurd (omega arith)
six_tests false false true d e f q = absurd (omega arith)
six_tests false false false true e f q = absurd (omega arith)
six_tests false false false false true f q = absurd (omega arith)
six_tests false false false false false false q = absurd (omega arith)
six_tests false false false false false true q = (refl, refl, refl, refl, refl, refl)

pub record Unsent (D : ℕ) (bits : List ℕ) : Type 0 where
  pub six : 6 ≤ D
  pub most : D ≤ 128
  pub single : AreBits bits
  pub long : D + D + D ≤ length bits
  pub none : some_streams D bits ≡ false

pub back_unsent : (D : ℕ) (bits : List ℕ) (lent : ℕ) → streams_of_number D bits lent ≡ 14 → Unsent D bits
unfolding streams_of_number
back_unsent D bits lent q =
    let t = six_tests _ _ _ _ _ _ q in
    let w = taken-within 6 128 D t.0 in
    record {
      six = w.0;
      most = w.1;
      single = over_none_bits bits t.3;
      long = ltb-false (length bits) (D + D + D) t.4;
      none = not-true (some_streams D bits) t.5;
    }

-- ---- 14 by the copies, where 17, 12 and 13 have passed

pub streams_decided : (D : ℕ) (bits : List ℕ) → within 6 128 D ≡ true → some_over 1 bits ≡ false → D + D + D ≤ length bits
    → some_streams D bits ≡ copies_agree (D + D + D) bits
streams_decided D bits h o long =
    let w = within-is 6 128 D h in
    decided D (omega arith) w.1 bits (over_none_bits bits o) long

-- ---- the whole answer

module _ (n size : ℕ) (new out : List ℕ) (r : ℕ) (found : r ≡ n) where
  pub wrote_refused : (r ≡ 0 → ⊥) → Wrote n size new out (record { number = r; count = 0 }) out
  wrote_refused h =
      let refused : n ≡ 0 → ⊥ = λ q. h (found ∙ q) in
      record { number = found; count = sym (when_refused n size 0 refused); output = sym (when_refused n (new ++ drop size out) out refused) }

  pub wrote_done : r ≡ 0 → (count : ℕ) → count ≡ size → (out' : List ℕ) → out' ≡ new ++ drop size out → Wrote n size new out (record { number = r; count = count }) out'
  wrote_done h count e out' w =
      let done = sym found ∙ h in
      record { number = found; count = e ∙ sym (when-done n size 0 done); output = w ∙ sym (when-done n (new ++ drop size out) out done) }
