-- Runs of places: one turn of a loop that makes one, and the groups that runs make.
use mathlib.Core.Path.{◌≡◌, refl, sym, ap, ◌∙◌, subst}
use mathlib.Core.List.{List}
use Prim.Native.Nat.{ℕ, zero, suc, ◌+◌, ◌-◌, ◌%◌, ◌≤◌, ◌<◌}
use native.Mathlib.Nat.{le_antisymm, mod-eq_of_lt}
use native.Mathlib.Omega.{arith}
use lib.Bits.{bit_and, bit_xor, and_mask, xor_lt}
use lib.ListN.{length, get_or, take, set, replicate, length-set}
use lib.Seq.{get_or-set_same, get_or-set_other}
use borrow.Author.Tests.{lt-ltb, le-ltb}
use Rattle.bits.specs.Bits.{AreBits}
use Rattle.bits.proofs.Ranges.{last_or, below_or}
use Rattle.bits.proofs.Xor.{xor_sum}
use Rattle.parity.specs.Steps.Grouped.{low_bit}
use Rattle.parity.specs.Steps.Runs.{lanes, span, Run, copied, added}

-- how many lanes are added: z of them and more, and no more than there are
module _ (z : ℕ) where
  pub span-all : 16 < z → span z ≡ lanes
  unfolding span
  span-all h = rw (lt-ltb 16 z h)

  pub span-few : z ≤ 16 → span z ≡ z
  unfolding span
  span-few h = rw (le-ltb 16 z h)

  pub span-wide : z ≤ 81 → z ≤ span z
  span-wide h = below_or 16 z (λ l. omega (arith, span-all l)) (λ l. omega (arith, span-few l))

  pub span_fits : z ≤ 81 → span z ≤ lanes
  span_fits h = below_or 16 z (λ l. omega (arith, span-all l)) (λ l. omega (arith, span-few l))

-- a list of zeros
pub zeros-at : (n k : ℕ) → ◌≡◌ {A = ℕ} (get_or (replicate n 0) k 0) 0
zeros-at zero k = refl
zeros-at (suc n) zero = refl
zeros-at (suc n) (suc k) = zeros-at n k

pub zeros-take : (n l k : ℕ) → ◌≡◌ {A = ℕ} (get_or (take n (replicate l 0)) k 0) 0
zeros-take zero l k = refl
zeros-take (suc n) zero k = refl
zeros-take (suc n) (suc l) zero = refl
zeros-take (suc n) (suc l) (suc k) = zeros-take n l k

module _ (f : ℕ → ℕ) (a : List ℕ) (at : ℕ) where
  pub run_none : Run 0 f a at a
  run_none = record { len = refl; inside = λ k l. absurd (omega arith); below = λ p l. refl; above = λ p l. refl }

  -- one place more, whatever was stored there, if it is what is due
  pub run_more : (k : ℕ) (b : List ℕ) (v : ℕ) → Run k f a at b → at + k < length a → v ≡ f k → Run (k + 1) f a at (set b (at + k) v)
  run_more k b v r h e =
      record {
        len = length-set b (at + k) v ∙ r.len;
        inside = λ j l.
            last_or j k (omega arith) (λ m. get_or-set_other b (at + k) (at + j) v 0 (λ q. omega arith) ∙ r.inside j m)
            (λ q. ap (λ (x : ℕ). get_or (set b (at + k) v) (at + x) 0) q ∙ get_or-set_same b (at + k) v 0 (omega (arith, r.len)) ∙ e ∙ ap f (sym q));
        below = λ p l. get_or-set_other b (at + k) p v 0 (λ q. omega arith) ∙ r.below p l;
        above = λ p l. get_or-set_other b (at + k) p v 0 (λ q. omega arith) ∙ r.above p (omega arith);
      }

  pub run_all : {k n : ℕ} {b : List ℕ} → k ≤ n → n ≤ k → Run k f a at b → Run n f a at b
  run_all {k} {n} {b} h l r = subst (λ (x : ℕ). Run x f a at b) (le_antisymm h l) r

  -- a run of bits over bits
  pub run_bits : (n : ℕ) (b : List ℕ) → Run n f a at b → ((k : ℕ) → k < n → f k < 2) → AreBits a → AreBits b
  run_bits n b r low h p =
      below_or p at (λ l. omega (arith, r.below p l, h p))
      (λ g. below_or p (at + n)
      (λ l.
      let e : at + (p - at) ≡ p = omega arith in
      omega (arith, ap (λ (x : ℕ). get_or b x 0) e, r.inside (p - at) (omega arith), low (p - at) (omega arith)))
      (λ l. omega (arith, r.above p l, h p)))

-- the lowest digit, and what `& 1` stores
pub copied-low : (g : List ℕ) (from k : ℕ) → copied g from k ≡ get_or g (from + k) 0 % 2
unfolding copied low_bit
copied-low g from k = refl

pub copied_is : (g : List ℕ) (from k : ℕ) → bit_and (get_or g (from + k) 0) 1 ≡ copied g from k
unfolding copied low_bit
copied_is g from k = and_mask (get_or g (from + k) 0) 1

-- what `^` stores, of two bits
xor_bits : (x y : ℕ) → x < 2 → y < 2 → bit_xor x y ≡ (x + y) % 2
xor_bits x y hx hy =
    let low : bit_xor x y < 2 = xor_lt 1 x y hx hy in
    sym (and_mask (bit_xor x y) 1 ∙ mod-eq_of_lt low) ∙ xor_sum x y

pub added_is : (a : List ℕ) (at : ℕ) (g : List ℕ) (from k : ℕ) (b : List ℕ) → AreBits a → AreBits g → Run k (added a at g from) a at b
    → bit_xor (get_or b (at + k) 0) (get_or g (from + k) 0) ≡ added a at g from k
unfolding added
added_is a at g from k b ha hg r =
    ap (λ (x : ℕ). bit_xor x (get_or g (from + k) 0)) (r.above (at + k) (omega arith)) ∙ xor_bits _ _ (ha (at + k)) (hg (from + k))

pub copied_lt : (g : List ℕ) (from k : ℕ) → copied g from k < 2
copied_lt g from k = omega (arith, copied-low g from k)

pub run_same : {n : ℕ} {f g : ℕ → ℕ} {a : List ℕ} {at : ℕ} {b : List ℕ} → ((k : ℕ) → k < n → f k ≡ g k) → Run n f a at b → Run n g a at b
run_same h r = record { len = r.len; inside = λ k l. r.inside k l ∙ h k l; below = r.below; above = r.above }

pub run_long : {n k : ℕ} {f : ℕ → ℕ} {a : List ℕ} {at : ℕ} {b : List ℕ} → n ≡ k → Run k f a at b → Run n f a at b
run_long {n} {k} {f} {a} {at} {b} e r = subst (λ (x : ℕ). Run x f a at b) (sym e) r
