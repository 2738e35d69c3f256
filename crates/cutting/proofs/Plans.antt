-- What is known of a block that is cut: the count of its code blocks, their own bits, and the size that is chosen.
use mathlib.Core.Path.{◌≡◌, refl, sym, ap, ◌∙◌}
use mathlib.Core.Bool.{Bool, false, not}
use mathlib.Core.List.{List, [], ◌∷◌}
use Rattle.std.specs.Prelude.{Result, Ok, Err}
use Prim.Native.Nat.{ℕ, zero, suc, ◌+◌, ◌-◌, ◌*◌, ◌≤◌, ◌<◌}
use native.Mathlib.Nat.{mul-le-mul, mul-pos, mul_comm, le-mul_of_pos_right}
use native.Mathlib.Omega.{arith}
use lib.Dec.{leb, lit<}
use borrow.Author.Tests.{leb-true, leb-false, not-false, le-leb}
use Rattle.bits.specs.Ranges.{sum_below, first_below, within}
use Rattle.bits.specs.Numbers.{when_done}
use Rattle.bits.specs.Counts.{ceil}
use Rattle.bits.proofs.Ranges.{equal_or, below_or, any_of, any_none, First, first_some, first-none, first-is, within-is}
use Rattle.bits.proofs.Answers.{passed}
use Rattle.bits.proofs.Rounding.{ceil_covers, ceil-least, ceil-some}
use Rattle.profile.specs.Record.{kb, t, z, columns}
use Rattle.profile.specs.Promises.{judged}
use Rattle.profile.proofs.Accepted.{Accepted, accepted}
use Rattle.cutting.specs.Plan.{block_bits, kmax, other_edition, sum_bits, blocks, too_many_blocks, own_bits, size_index_for, size_index, places}
use Rattle.cutting.specs.Promises.{plan_number, cutting, refusal, done_plan, answer_planned, planned}
use Rattle.bits.specs.declared.number.Refusal.{Refusal}
use Rattle.bits.specs.Refusals.{number_of}
use Rattle.cutting.specs.declared.Plan.{Plan}
use Rattle.cutting.specs.declared.Planned.{Planned}
use Rattle.cutting.specs.Steps.Plans.{plan_for}
use Rattle.cutting.proofs.Answers.{plan_unjudged, plan-judged, cutting-planned}
use Rattle.cutting.proofs.Rounding.{own_sum, own_most, own_some}
use Rattle.cutting.proofs.Summed.{few-blocks, sum_fits}

module _ (R : List ℕ) (known : Accepted R) where
  pub kmax-low : 0 < kmax R
  unfolding kmax
  kmax-low = mul-pos known.kb_low (known.z_low (t R - 1) (omega (arith, known.t_low)))

  -- the last size gives Kmax places, so where that is enough there is a first that is enough
  pub size-first : (need : ℕ) → need ≤ kmax R → First (t R) (λ i. leb need (kb R * z R i)) (size_index_for R need)
  unfolding kmax size_index_for
  size-first need h =
      let enough : ℕ → Bool = λ i. leb need (kb R * z R i) in
      let last : t R - 1 < t R = omega (arith, known.t_low) in
      first_some (t R) enough (any_of (t R) enough (t R - 1) last (le-leb need (kb R * z R (t R - 1)) h))

  -- where no size before the last is enough, it is the last
  pub size-last : (need : ℕ) → need ≤ kmax R → first_below (t R - 1) (λ i. leb need (kb R * z R i)) ≡ size_index_for R need
  size-last need h =
      let enough : ℕ → Bool = λ i. leb need (kb R * z R i) in
      let f = size-first need h in
      below_or (size_index_for R need) (t R - 1)
      (λ l. first-is (t R - 1) enough (size_index_for R need) (record { below = l; holds = f.holds; none = f.none }))
      (λ g. first-none (t R - 1) enough (any_none (t R - 1) enough (λ k l. f.none k (omega arith))) ∙ omega (arith, f.below))

  module _ (ed b : ℕ) (some : 0 < b) (fits : sum_bits R ed b < kmax R) where
    -- the places of a block that are left for own bits
    abbrev left : ℕ
    left = kmax R - sum_bits R ed b

    pub blocks-some : 0 < blocks R ed b
    unfolding blocks
    blocks-some = ceil-some b left (omega arith) some

    pub blocks-fewer : blocks R ed b ≤ b
    unfolding blocks
    blocks-fewer = ceil-least b left (omega arith) b (le-mul_of_pos_right b (omega arith))

    pub blocks-cover : b ≤ blocks R ed b * left
    unfolding blocks
    blocks-cover = ceil_covers b left (omega arith)

    -- C blocks of so many own bits are enough for B bits, so no block needs more than Kmax
    pub need-most : ceil b (blocks R ed b) + sum_bits R ed b ≤ kmax R
    need-most =
        omega (arith, ceil-least b (blocks R ed b) blocks-some left (omega (arith, blocks-cover, mul_comm left (blocks R ed b))))

-- the plan by the numbers that were found
pub plan-for : (R : List ℕ) (ed b most sums count : ℕ) → most ≡ kmax R → sums ≡ sum_bits R ed b → count ≡ blocks R ed b → plan_for R b most sums count ≡ cutting R ed b
unfolding plan_for cutting places size_index
plan-for R ed b most sums count p q r = rw (p, q, r)

-- B bits, cut in this edition by a record that is accepted into no more than 64 blocks
pub record Cut (R : List ℕ) (ed b : ℕ) : Type 0 where
  pub known : Accepted R
  pub bits_low : 32 ≤ b
  pub bits_high : b ≤ 16408
  pub some : 1 ≤ blocks R ed b
  pub most : blocks R ed b ≤ 64
  pub size : size_index R ed b < t R
  pub room : ceil b (blocks R ed b) + sum_bits R ed b ≤ places R ed b
  pub least : (i : ℕ) → i < size_index R ed b → kb R * z R i < ceil b (blocks R ed b) + sum_bits R ed b
  pub product : places R ed b ≡ kb R * z R (size_index R ed b)
  pub places_high : places R ed b ≤ 1620
  pub coded_high : columns R * z R (size_index R ed b) ≤ 4860
  pub own_some : (r : ℕ) → 1 ≤ own_bits b (blocks R ed b) r
  pub own_most : (r : ℕ) → own_bits b (blocks R ed b) r ≤ ceil b (blocks R ed b)
  pub own_sum : sum_below (blocks R ed b) (own_bits b (blocks R ed b)) ≡ b

module _ (R : List ℕ) (ed : ℕ) where
  pub cut_of : (b : ℕ) → Accepted R → 32 ≤ b → b ≤ 16408 → too_many_blocks R ed b ≡ false → Cut R ed b
  unfolding size_index places
  cut_of b known low high few =
      let fits : sum_bits R ed b < kmax R = sum_fits R ed b (kmax-low R known) few in
      let some : 0 < blocks R ed b = blocks-some R known ed b (omega arith) fits in
      let need : ℕ = ceil b (blocks R ed b) + sum_bits R ed b in
      let first = size-first R known need (need-most R known ed b (omega arith) fits) in
      let top = known.z_high (size_index R ed b) first.below in
      record {
        known = known;
        bits_low = low;
        bits_high = high;
        some = some;
        most = few-blocks R ed b few;
        size = first.below;
        room = leb-true need (kb R * z R (size_index R ed b)) first.holds;
        least = λ i l. leb-false need (kb R * z R i) (first.none i l);
        product = refl;
        places_high = mul-le-mul known.kb_high top;
        coded_high = mul-le-mul known.columns_high top;
        own_some = own_some b (blocks R ed b) some (blocks-fewer R known ed b (omega arith) fits);
        own_most = own_most b (blocks R ed b) some;
        own_sum = own_sum b (blocks R ed b) some;
      }

  -- the tests that a plan with number 0 has passed, and what they say of the cut
  pub plan-passed : (octets : ℕ) → plan_number R ed octets ≡ 0
      → (judged R ≡ 0) × (1 ≤ octets) × (octets ≤ 2048) × (too_many_blocks R ed (block_bits octets) ≡ false) × (other_edition ed ≡ false)
  plan-passed octets e =
      equal_or (judged R) 0
      (λ q.
      let many = too_many_blocks R ed (block_bits octets) in
      let rest = sym (plan-judged R ed octets q) ∙ e in
      let nineteen = passed 19 ((7, not (within 1 2048 octets)) ∷ (9, many) ∷ []) (other_edition ed) (lit< tt) rest in
      let seven = passed 7 ((9, many) ∷ []) (not (within 1 2048 octets)) (lit< tt) nineteen.1 in
      let nine = passed 9 [] many (lit< tt) seven.1 in
      let range = within-is 1 2048 octets (not-false (within 1 2048 octets) seven.0) in
      (q, range.0, range.1, nine.0, nineteen.0))
      (λ n. absurd (n (sym (plan_unjudged R ed octets n) ∙ e)))

  pub plan-cut : (octets : ℕ) → plan_number R ed octets ≡ 0 → Cut R ed (block_bits octets)
  unfolding block_bits
  plan-cut octets e =
      let tests = plan-passed octets e in
      cut_of (block_bits octets) (accepted R tests.0) (omega arith) (omega arith) tests.3

-- ---- what a plan says, for its callers: its number, and that with number 0 it is the cutting of its block

numbered : (n : ℕ) (p : Planned) → p.number ≡ 0 → (when_done n p (refusal n)).number ≡ n
unfolding when_done refusal
numbered zero p e = e
numbered (suc n) p e = refl

pub plan-number : (R : List ℕ) (ed octets : ℕ) (p : Planned) → p ≡ planned R ed octets → p.number ≡ plan_number R ed octets
unfolding planned cutting
plan-number R ed octets p e = rw e (numbered (plan_number R ed octets) (cutting R ed (block_bits octets)) refl)

pub plan-done : (R : List ℕ) (ed octets : ℕ) (p : Planned) → p ≡ planned R ed octets → plan_number R ed octets ≡ 0 → p ≡ cutting R ed (block_bits octets)
plan-done R ed octets p e done = e ∙ sym (cutting-planned R ed octets done)

-- and its numbers, one by one
module _ (R : List ℕ) (ed octets : ℕ) (p : Planned) (plan : p ≡ planned R ed octets) (done : plan_number R ed octets ≡ 0) where
  pub plan-bits : p.bits ≡ block_bits octets
  unfolding cutting
  plan-bits = ap (λ (q : Planned). q.bits) (plan-done R ed octets p plan done)

  pub plan-blocks : p.blocks ≡ blocks R ed (block_bits octets)
  unfolding cutting
  plan-blocks = ap (λ (q : Planned). q.blocks) (plan-done R ed octets p plan done)

  pub plan-places : p.places ≡ places R ed (block_bits octets)
  unfolding cutting
  plan-places = ap (λ (q : Planned). q.places) (plan-done R ed octets p plan done)

  pub plan-z : p.z ≡ z R (size_index R ed (block_bits octets))
  unfolding cutting
  plan-z = ap (λ (q : Planned). q.z) (plan-done R ed octets p plan done)

  pub plan_index : p.index ≡ size_index R ed (block_bits octets)
  unfolding cutting
  plan_index = ap (λ (q : Planned). q.index) (plan-done R ed octets p plan done)

  pub plan-sums : p.sums ≡ sum_bits R ed (block_bits octets)
  unfolding cutting
  plan-sums = ap (λ (q : Planned). q.sums) (plan-done R ed octets p plan done)

-- ---- what an answer says: its number
pub answer-number : (R : List ℕ) (ed octets : ℕ) (a : Result Plan Refusal) → answer_planned a ≡ planned R ed octets → number_of a ≡ plan_number R ed octets
unfolding refusal
answer-number R ed octets (Ok p) e = plan-number R ed octets (done_plan p) e
answer-number R ed octets (Err r) e = plan-number R ed octets (answer_planned (Err r)) e
