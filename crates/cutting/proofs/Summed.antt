-- A block's checksum: whether there is one, how many bits it takes, and what own bits are with it.
use mathlib.Core.Path.{◌≡◌, refl, sym, ap, ◌∙◌}
use mathlib.Core.Bool.{Bool, true, false, cond, ◌&&◌, ◌||◌, true≢false}
use mathlib.Core.List.{List, ◌++◌}
use Prim.Native.Nat.{ℕ, ◌+◌, ◌-◌, ◌≤◌, ◌<◌}
use native.Mathlib.Omega.{arith}
use borrow.Author.Tests.{eq-eqb, ne_eqb, lt-ltb, le-ltb, ltb-false, le-leb, lt-leb, leb-false}
use lib.Dec.{eqb, leb, ltb}
use lib.ListN.{length, take, length-append}
use lib.Seq.{sets, sets-eq, take_all, take_at, length-take-le}
use Rattle.bits.specs.Bits.{AreBits, digits}
use Rattle.bits.proofs.Lists.{bits-append}
use Rattle.bits.proofs.Digits.{length_digits, digits-bits}
use Rattle.bits.proofs.Ranges.{equal_or}
use Rattle.checksum.specs.Crc.{checksum, attached}
use Rattle.checksum.specs.Steps.Testing.{checks}
use Rattle.checksum.proofs.Attachment.{checks_sound, checks-complete}
use Rattle.blocksum.specs.Blocksum.{gen24_b}
use Rattle.blocksum.proofs.Generator.{generator_24b}
use Rattle.cutting.specs.Plan.{kmax, summed, sum_bits, blocks, too_many_blocks}
use Rattle.cutting.specs.Cutting.{with_sum}
use Rattle.cutting.specs.Steps.Plans.{IsSum, sum_holds}

-- ---- whether there is one

-- it takes 24 bits, or none
pub no_sum : IsSum 0
no_sum n = absurd (n refl)

module _ (R : List ℕ) (ed b : ℕ) where
  -- not in another edition than 2, and not where one block is enough
  pub sum-none : (ed ≡ 2 → ⊥) → sum_bits R ed b ≡ 0
  unfolding sum_bits summed
  sum-none n = rw (ne_eqb ed 2 n)

  pub sum-single : b ≤ kmax R → sum_bits R ed b ≡ 0
  unfolding sum_bits summed
  sum-single h = rw (le-ltb (kmax R) b h) (by-edition (eqb ed 2))
    where
      by-edition : (e : Bool) → ◌≡◌ {A = ℕ} (cond (e && false) 24 0) 0
      by-edition true = refl
      by-edition false = refl

  pub sum-there : ed ≡ 2 → kmax R < b → sum_bits R ed b ≡ 24
  unfolding sum_bits summed
  sum-there e h = rw (eq-eqb ed 2 e, lt-ltb (kmax R) b h)

  pub is_sum : IsSum (sum_bits R ed b)
  unfolding sum_bits
  is_sum = by-test (summed R ed b)
    where
      by-test : (s : Bool) → IsSum (cond s 24 0)
      by-test true n = refl
      by-test false n = no_sum n

  -- ---- 9, both ways

  pub few-blocks : too_many_blocks R ed b ≡ false → blocks R ed b ≤ 64
  unfolding too_many_blocks
  few-blocks e = by-test (summed R ed b && leb (kmax R) 24) e
    where
      by-test : (s : Bool) → s || ltb 64 (blocks R ed b) ≡ false → blocks R ed b ≤ 64
      by-test true q = absurd (true≢false q)
      by-test false q = ltb-false 64 (blocks R ed b) q

  -- a block has room for more than its checksum
  pub sum_fits : 0 < kmax R → too_many_blocks R ed b ≡ false → sum_bits R ed b < kmax R
  unfolding too_many_blocks sum_bits
  sum_fits some e = by-test (summed R ed b) (leb (kmax R) 24) refl e
    where
      by-test : (s l : Bool) → leb (kmax R) 24 ≡ l → (s && l) || ltb 64 (blocks R ed b) ≡ false → cond s 24 0 < kmax R
      by-test true true q f = absurd (true≢false f)
      by-test true false q f = leb-false (kmax R) 24 q
      by-test false l q f = some

  pub too_many_over : 64 < blocks R ed b → too_many_blocks R ed b ≡ true
  unfolding too_many_blocks
  too_many_over h = rw (lt-ltb 64 (blocks R ed b) h) (by-test (summed R ed b && leb (kmax R) 24))
    where
      by-test : (s : Bool) → s || true ≡ true
      by-test true = refl
      by-test false = refl

  pub too_many_full : 0 < kmax R → kmax R ≤ sum_bits R ed b → too_many_blocks R ed b ≡ true
  unfolding too_many_blocks sum_bits
  too_many_full some h = by-test (summed R ed b) h
    where
      by-test : (s : Bool) → kmax R ≤ cond s 24 0 → (s && leb (kmax R) 24) || ltb 64 (blocks R ed b) ≡ true
      by-test true q = rw (le-leb (kmax R) 24 q)
      by-test false q = absurd (omega arith)

  pub few-enough : sum_bits R ed b < kmax R → blocks R ed b ≤ 64 → too_many_blocks R ed b ≡ false
  unfolding too_many_blocks sum_bits
  few-enough h few = rw (le-ltb 64 (blocks R ed b) few) (by-test (summed R ed b) h)
    where
      by-test : (s : Bool) → cond s 24 0 < kmax R → (s && leb (kmax R) 24) || false ≡ false
      by-test true q = rw (lt-leb (kmax R) 24 q)
      by-test false q = refl

-- ---- own bits with it

module _ (l : ℕ) where
  pub without_sum : (mine : List ℕ) → l ≡ 0 → with_sum l mine ≡ mine
  unfolding with_sum
  without_sum mine e = rw (eq-eqb l 0 e)

  pub with_its_sum : (mine : List ℕ) → (l ≡ 0 → ⊥) → with_sum l mine ≡ attached 24 gen24_b mine
  unfolding with_sum
  with_its_sum mine n = rw (ne_eqb l 0 n)

  pub sum_unasked : (w : List ℕ) → l ≡ 0 → sum_holds l w ≡ true
  unfolding sum_holds
  sum_unasked w e = rw (eq-eqb l 0 e)

  pub sum_asked : (w : List ℕ) → (l ≡ 0 → ⊥) → sum_holds l w ≡ checks 24 gen24_b w
  unfolding sum_holds
  sum_asked w n = rw (ne_eqb l 0 n)

  -- written behind own bits that stand in front of a word
  pub put-sum : (w : List ℕ) (own : ℕ) → IsSum l → (l ≡ 0 → ⊥) → own + l ≤ length w
      → take (own + l) (sets w own (digits 24 (checksum 24 gen24_b (take own w)))) ≡ with_sum l (take own w)
  unfolding attached
  put-sum w own h n room =
      let p = digits 24 (checksum 24 gen24_b (take own w)) in
      let is : l ≡ 24 = h n in
      let size : length p ≡ 24 = length_digits 24 (checksum 24 gen24_b (take own w)) in
      let front : length (take own w) ≡ own = length-take-le own w (omega arith) in
      let long : length (take own w ++ p) ≡ own + l = length-append (take own w) p ∙ omega arith in
      ap (take (own + l)) (sets-eq p w own (omega arith))
      ∙ take_at (take own w ++ p) _ (own + l) long ∙ sym (with_its_sum (take own w) n)

  module _ (mine : List ℕ) where
    attached-long : length (attached 24 gen24_b mine) ≡ length mine + 24
    unfolding attached
    attached-long = length-append mine _ ∙ ap (λ (n : ℕ). length mine + n) (length_digits 24 (checksum 24 gen24_b mine))

    pub length-with-sum : IsSum l → length (with_sum l mine) ≡ length mine + l
    length-with-sum h =
        equal_or l 0 (λ e. ap length (without_sum mine e) ∙ omega arith)
        (λ n. ap length (with_its_sum mine n) ∙ attached-long ∙ ap (λ (k : ℕ). length mine + k) (sym (h n)))

    pub with-sum-bits : AreBits mine → AreBits (with_sum l mine)
    unfolding attached
    with-sum-bits single =
        equal_or l 0 (λ e. rw (without_sum mine e) single)
        (λ n. rw (with_its_sum mine n) (bits-append mine _ single (digits-bits 24 (checksum 24 gen24_b mine))))

    -- the own bits stand in front
    pub with-sum-front : take (length mine) (with_sum l mine) ≡ mine
    unfolding attached
    with-sum-front =
        equal_or l 0 (λ e. rw (without_sum mine e) (take_all (length mine) mine (omega arith)))
        (λ n. rw (with_its_sum mine n) (take_at mine _ (length mine) refl))

    -- and what has its checksum passes the test
    pub with-sum-holds : sum_holds l (with_sum l mine) ≡ true
    with-sum-holds =
        equal_or l 0 (λ e. sum_unasked (with_sum l mine) e)
        (λ n. sum_asked (with_sum l mine) n ∙ ap (checks 24 gen24_b) (with_its_sum mine n) ∙ checks-complete 24 gen24_b generator_24b.below mine)

  -- nothing else does
  pub holds_with_sum : (w : List ℕ) → IsSum l → AreBits w → l ≤ length w → sum_holds l w ≡ true → w ≡ with_sum l (take (length w - l) w)
  holds_with_sum w h single long holds =
      equal_or l 0
      (λ e. sym (without_sum (take (length w - l) w) e ∙ take_all (length w - l) w (omega arith)))
      (λ n.
      let is : l ≡ 24 = h n in
      checks_sound 24 gen24_b w single (omega arith) (sym (sum_asked w n) ∙ holds)
      ∙ ap (λ (k : ℕ). attached 24 gen24_b (take (length w - k) w)) (sym is) ∙ sym (with_its_sum (take (length w - l) w) n))
