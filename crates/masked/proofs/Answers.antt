-- What the calls answer, by their tests.
use mathlib.Core.Path.{◌≡◌, refl, sym, ap, ◌∙◌}
use mathlib.Core.Bool.{Bool, true, false, cond, ◌&&◌, ◌||◌}
use mathlib.Core.List.{List, [], ◌∷◌, ◌++◌}
use Prim.Native.Nat.{ℕ, ◌+◌, ◌-◌, ◌^◌, ◌≤◌, ◌<◌}
use native.Mathlib.Omega.{arith}
use borrow.Author.Tests.{ltb-false, lt-leb, le-leb}
use lib.Dec.{eqb, leb, ltb, lit<}
use lib.ListN.{length, take, drop, take-append-drop}
use lib.Seq.{sets, sets-eq}
use Rattle.bits.specs.Bits.{AreBits, some_over, value_of}
use Rattle.bits.specs.Numbers.{answered, when_done}
use Rattle.bits.proofs.Answers.{passed, when-done, when_refused}
use Rattle.bits.proofs.Over.{over-append}
use Rattle.bits.proofs.Ranges.{below_or}
use Rattle.checksum.specs.Masked.{under, checksum_under, attached_under, tests_under}
use Rattle.checksum.specs.Promises.{generator, other_width, bits_number, OfBits}
use Rattle.checksum.specs.declared.Sum.{Sum}
use Rattle.checksum.proofs.Masked.{length_attached_under, short_fails, compared}
use Rattle.masked.specs.Promises.{SumUnder, append_number, Appended, WordTested}

-- ---- the sum

module _ (w m : ℕ) (bits : List ℕ) where
  module _ (r : Sum) (of-bits : OfBits w bits r) where
    pub sum-refused : (r.number ≡ 0 → ⊥) → SumUnder w m bits r
    sum-refused h =
        let refused : bits_number w bits ≡ 0 → ⊥ = λ z. h (of-bits.number ∙ z) in
        record { number = of-bits.number; value = of-bits.value ∙ when_refused (bits_number w bits) _ 0 refused ∙ sym (when_refused (bits_number w bits) _ 0 refused) }

    pub sum_done : r.number ≡ 0 → (v : ℕ) → v ≡ under w m r.value → SumUnder w m bits (record { number = 0; value = v })
    unfolding checksum_under
    sum_done h v e =
        let done : bits_number w bits ≡ 0 = sym of-bits.number ∙ h in
        record { number = sym done; value = e ∙ ap (under w m) (of-bits.value ∙ when-done (bits_number w bits) _ 0 done) ∙ sym (when-done (bits_number w bits) _ 0 done) }

  pub sum_is : {r : Sum} → SumUnder w m bits r → bits_number w bits ≡ 0 → r.value ≡ checksum_under w (generator w) m bits
  sum_is a done = a.value ∙ when-done (bits_number w bits) _ 0 done

-- ---- appending: 11 between the numbers of the sum

module _ (w : ℕ) (bits : List ℕ) where
  pub append_number_is : (n lent : ℕ) → n ≡ bits_number w bits
      → cond (eqb n 8) 8 (cond (ltb lent (length bits + w)) 11 n) ≡ append_number w bits lent
  unfolding bits_number append_number answered
  append_number_is n lent e = rw e (by_tests (other_width w) (ltb lent (length bits + w)) (some_over 1 bits))
    where
      by_tests : (a b c : Bool)
          → ◌≡◌ {A = ℕ} (cond (eqb (cond a 8 (cond c 12 0)) 8) 8 (cond b 11 (cond a 8 (cond c 12 0)))) (cond a 8 (cond b 11 (cond c 12 0)))
      by_tests true b c = refl
      by_tests false true true = refl
      by_tests false true false = refl
      by_tests false false true = refl
      by_tests false false false = refl

  pub append-passed : (lent : ℕ) → append_number w bits lent ≡ 0 → (bits_number w bits ≡ 0) × (length bits + w ≤ lent)
  unfolding append_number bits_number answered
  append-passed lent z =
      let over : List (ℕ × Bool) = (12, some_over 1 bits) ∷ [] in
      let first = passed 8 ((11, ltb lent (length bits + w)) ∷ over) (other_width w) (lit< tt) z in
      let second = passed 11 over (ltb lent (length bits + w)) (lit< tt) first.1 in
      (rw first.0 second.1, ltb-false lent (length bits + w) second.0)

module _ (w m : ℕ) (bits out : List ℕ) (n : ℕ) (found : n ≡ append_number w bits (length out)) where
  pub append-refused : (n ≡ 0 → ⊥) → Appended w m bits out (record { number = n; count = 0 }) out
  append-refused h =
      let refused : append_number w bits (length out) ≡ 0 → ⊥ = λ z. h (found ∙ z) in
      record { number = found; count = sym (when_refused _ _ 0 refused); output = sym (when_refused _ _ out refused) }

  pub append-done : n ≡ 0 → (out' : List ℕ) → out' ≡ sets out 0 (attached_under w (generator w) m bits)
      → Appended w m bits out (record { number = n; count = length bits + w }) out'
  append-done h out' e =
      let done : append_number w bits (length out) ≡ 0 = sym found ∙ h in
      let word = attached_under w (generator w) m bits in
      let long : 0 + length word ≡ length bits + w = omega (arith, length_attached_under w (generator w) m bits) in
      let room : 0 + length word ≤ length out = omega (arith, (append-passed w bits (length out) done).1) in
      record {
        number = found;
        count = sym (when-done _ _ 0 done);
        output = e ∙ sets-eq word out 0 room ∙ ap (λ (k : ℕ). word ++ drop k out) long ∙ sym (when-done _ _ out done);
      }

-- ---- testing: a word's number from that of its front and the octets behind that

module _ (w : ℕ) (word : List ℕ) (a : ℕ) where
  parts-number : bits_number w word ≡ when_done (bits_number w (take a word)) (cond (some_over 1 (drop a word)) 12 0) (bits_number w (take a word))
  unfolding bits_number answered when_done
  parts-number =
      let parts : some_over 1 word ≡ some_over 1 (take a word) || some_over 1 (drop a word) =
      ap (some_over 1) (sym (take-append-drop a word)) ∙ over-append 1 (take a word) (drop a word) in
      rw parts (by_tests (other_width w) (some_over 1 (take a word)) (some_over 1 (drop a word)))
    where
      by_tests : (o f r : Bool)
          → ◌≡◌ {A = ℕ} (cond o 8 (cond (f || r) 12 0)) (when_done (cond o 8 (cond f 12 0)) (cond r 12 0) (cond o 8 (cond f 12 0)))
      by_tests true f r = refl
      by_tests false true r = refl
      by_tests false false r = refl

  pub front_refuses : (bits_number w (take a word) ≡ 0 → ⊥) → bits_number w (take a word) ≡ bits_number w word
  front_refuses h = sym (parts-number ∙ when_refused (bits_number w (take a word)) _ _ h)

  pub rest_refuses : bits_number w (take a word) ≡ 0 → some_over 1 (drop a word) ≡ true → 12 ≡ bits_number w word
  rest_refuses done over = sym (parts-number ∙ when-done (bits_number w (take a word)) _ _ done ∙ ap (λ (b : Bool). cond b 12 0) over)

  pub neither_refuses : bits_number w (take a word) ≡ 0 → some_over 1 (drop a word) ≡ false → bits_number w word ≡ 0
  neither_refuses done over = parts-number ∙ when-done (bits_number w (take a word)) _ _ done ∙ ap (λ (b : Bool). cond b 12 0) over

module _ (w m : ℕ) (word : List ℕ) where
  pub test-refused : (n : ℕ) → n ≡ bits_number w word → (n ≡ 0 → ⊥) → WordTested w m word (record { number = n; holds = false })
  test-refused n found h = record { number = found; holds = sym (when_refused (bits_number w word) _ false (λ z. h (found ∙ z))) }

  pub test-done : bits_number w word ≡ 0 → (b : Bool) → b ≡ tests_under w (generator w) m word → WordTested w m word (record { number = 0; holds = b })
  test-done done b e = record { number = sym done; holds = e ∙ sym (when-done (bits_number w word) _ false done) }

  -- a word that is long enough and ends in its sum is one that tests
  pub ends_tests : (g : ℕ) → g < 2 ^ w → AreBits word
      → leb w (length word) && eqb (checksum_under w g m (take (length word - w) word)) (value_of (drop (length word - w) word)) ≡ tests_under w g m word
  ends_tests g below h =
      below_or (length word) w
      (λ short. rw (lt-leb w (length word) short) (sym (short_fails w g m word short)))
      (λ long. rw (le-leb w (length word) long) (compared w g m below word h long))
