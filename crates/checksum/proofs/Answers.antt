-- What the public calls answer, by their tests.
use mathlib.Core.Path.{◌≡◌, refl, sym, ap, ap₂, ◌∙◌}
use mathlib.Core.Bool.{Bool, true, false, cond, not, ◌||◌, true≢false}
use mathlib.Core.List.{List, [], ◌∷◌}
use Prim.Native.Nat.{ℕ}
use native.Mathlib.Omega.{arith}
use borrow.Author.Tests.{eqb-true, ne_eqb}
use lib.Dec.{eqb, lit<, lit≤}
use Rattle.bits.specs.Bits.{AreBits, some_over, unpacked}
use Rattle.bits.specs.Numbers.{answered}
use Rattle.bits.proofs.Answers.{applies, passes, passed, when-done, when_refused}
use Rattle.bits.proofs.Over.{over_none_bits}
use Rattle.checksum.specs.Crc.{checksum, gen24_a, gen16, gen8}
use Rattle.checksum.specs.Promises.{generator, other_width, bits_number, octets_number, OfBits, OfOctets}
use Rattle.checksum.specs.Steps.Register.{Generator}

-- the code's test of a width: it has no generator
pub no_generator : (w : ℕ) → eqb (generator w) 0 ≡ other_width w
unfolding generator other_width
no_generator w = by_tests (eqb w 24) (eqb w 16) (eqb w 8)
  where
    by_tests : (a b c : Bool) → eqb (cond a gen24_a (cond b gen16 (cond c gen8 0))) 0 ≡ not (c || b || a)
    by_tests true true true = refl
    by_tests true true false = refl
    by_tests true false true = refl
    by_tests true false false = refl
    by_tests false true true = refl
    by_tests false true false = refl
    by_tests false false true = refl
    by_tests false false false = refl

-- a width of 5.1.1 fits the register, and so does its generator
pub fits-register : (w : ℕ) → other_width w ≡ false → Generator w (generator w)
unfolding generator other_width
fits-register w e = by_tests (eqb w 24) (eqb w 16) (eqb w 8) refl refl refl e
  where
    by_tests : (a b c : Bool) → eqb w 24 ≡ a → eqb w 16 ≡ b → eqb w 8 ≡ c → not (c || b || a) ≡ false
        → Generator w (cond a gen24_a (cond b gen16 (cond c gen8 0)))
    by_tests true b c p q r e = rw (eqb-true w 24 p) (record { some = lit< tt; most = lit≤ tt; below = lit< tt })
    by_tests false true c p q r e = rw (eqb-true w 16 q) (record { some = lit< tt; most = lit≤ tt; below = lit< tt })
    by_tests false false true p q r e = rw (eqb-true w 8 r) (record { some = lit< tt; most = lit≤ tt; below = lit< tt })
    by_tests false false false p q r e = absurd (let z : ◌≡◌ {A = ℕ} 0 1 = cc in omega arith)

-- of the three widths only 8 is neither 24 nor 16
pub last_width : (w : ℕ) → other_width w ≡ false → (w ≡ 24 → ⊥) → (w ≡ 16 → ⊥) → w ≡ 8
unfolding other_width
last_width w e not-24 not_16 = eqb-true w 8 (by_tests (eqb w 8) (eqb w 16) (eqb w 24) e (ne_eqb w 16 not_16) (ne_eqb w 24 not-24))
  where
    by_tests : (a b c : Bool) → not (a || b || c) ≡ false → b ≡ false → c ≡ false → a ≡ true
    by_tests true b c e p q = refl
    by_tests false b c e p q = absurd (true≢false (ap₂ (λ (x y : Bool). not (x || y)) (sym p) (sym q) ∙ e))

-- the sum with a width's own generator
pub summed_with : (w n g v : ℕ) (bits : List ℕ) → w ≡ n → generator n ≡ g → v ≡ checksum n g bits → v ≡ checksum w (generator w) bits
summed_with w n g v bits is own e = e ∙ ap (λ (x : ℕ). checksum n x bits) (sym own) ∙ ap (λ (x : ℕ). checksum x (generator x) bits) (sym is)

-- number 0 of bits: both tests were passed
pub bits-done : (w : ℕ) (bits : List ℕ) → bits_number w bits ≡ 0 → Generator w (generator w) × AreBits bits
unfolding bits_number
bits-done w bits e =
    let first = passed 8 ((12, some_over 1 bits) ∷ []) (other_width w) (lit< tt) e in
    let second = passed 12 [] (some_over 1 bits) (lit< tt) first.1 in
    (fits-register w first.0, over_none_bits bits second.0)

-- what is answered with the number n that was found
module _ (w : ℕ) (bits : List ℕ) (n : ℕ) (found : n ≡ bits_number w bits) where
  pub bits-refused : (n ≡ 0 → ⊥) → OfBits w bits (record { number = n; value = 0 })
  bits-refused h = record { number = found; value = sym (when_refused (bits_number w bits) _ 0 (λ z. h (found ∙ z))) }

  pub bits-summed : n ≡ 0 → (v : ℕ) → v ≡ checksum w (generator w) bits → OfBits w bits (record { number = n; value = v })
  bits-summed h v e = record { number = found; value = e ∙ sym (when-done (bits_number w bits) _ 0 (sym found ∙ h)) }

module _ (w : ℕ) (octets : List ℕ) where
  pub octets-refused : other_width w ≡ true → OfOctets w octets (record { number = 8; value = 0 })
  unfolding octets_number
  octets-refused other =
      let n : answered ((8, other_width w) ∷ []) ≡ 8 = applies 8 [] other in
      record { number = sym n; value = rw n (sym (when_refused 8 _ 0 (λ z. omega arith))) }

  pub octets-summed : other_width w ≡ false → (v : ℕ) → v ≡ checksum w (generator w) (unpacked octets) → OfOctets w octets (record { number = 0; value = v })
  unfolding octets_number answered
  octets-summed other v e =
      let n : answered ((8, other_width w) ∷ []) ≡ 0 = passes 8 [] other in
      record { number = sym n; value = rw n (e ∙ sym (when-done 0 _ 0 refl)) }
