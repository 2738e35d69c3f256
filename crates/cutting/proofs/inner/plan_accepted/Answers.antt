use mathlib.Core.Path.{◌≡◌, sym, ap, ◌∙◌}
use mathlib.Core.List.{List}
use mathlib.Core.Bool.{cond, ◌&&◌}
use Prim.Native.Nat.{ℕ, ◌+◌, ◌*◌, ◌-◌, ◌≤◌, ◌<◌}
use native.Mathlib.Omega.{arith}
use lib.Dec.{eqb, ltb}
use borrow.Author.Rules.{rules}
use Rattle.bits.specs.Counts.{ceil}
use Rattle.bits.proofs.Ranges.{within-is}
use Rattle.profile.proofs.Accepted.{accepted}
use Rattle.cutting.specs.Plan.{block_bits, kmax, summed, sum_bits, blocks}
use Rattle.cutting.proofs.Answers.{plan_nineteen, plan-seven, plan-nine, plan-zero, refused-planned, cutting-planned}
use Rattle.cutting.proofs.Plans.{blocks-some, need-most, plan-for}
use Rattle.cutting.proofs.Summed.{too_many_full, too_many_over, few-enough}
use Rattle.cutting.proofs.inner.plan_accepted.Goals as goal

-- Kmax, L and C, as the code counts them
module _ (R : List ℕ) (ed octets k s : ℕ) (most : k ≡ kmax R) (told : s ≡ cond (eqb ed 2 && ltb k (8 * octets + 24)) 24 0) where
  sums_told : s ≡ sum_bits R ed (block_bits octets)
  unfolding sum_bits summed block_bits
  sums_told = cc

  record Counts (n : ℕ) : Type 0 where
    sums : s ≡ sum_bits R ed (block_bits octets)
    count : n ≡ blocks R ed (block_bits octets)
    fits : sum_bits R ed (block_bits octets) < kmax R

  counts : (n : ℕ) → s < k → n ≡ ceil (8 * octets + 24) (k - s) → Counts n
  unfolding blocks block_bits
  counts n less e = record { sums = sums_told; count = cc sums_told; fits = omega (arith, sums_told) }

pub returns-then-is_other_edition : goal.returns-then-is_other_edition
returns-then-is_other_edition c =
    let a = c.args in
    let other = sym (c.if-is_other_edition.ensures {u = tt}) in
    refused-planned a.profile.now a.edition a.octets 19 (plan_nineteen a.profile.now a.edition a.octets c.requires other) (λ q. omega arith)

pub returns-then-not-is_within : goal.returns-then-not-is_within
returns-then-not-is_within c =
    let a = c.args in
    let known = sym (c.if-is_other_edition.ensures {u = tt}) in
    let wrong = sym (c.if-not-is_within.ensures {u = tt}) in
    refused-planned a.profile.now a.edition a.octets 7 (plan-seven a.profile.now a.edition a.octets c.requires known wrong) (λ q. omega arith)

pub returns-then-kmax-sums : goal.returns-then-kmax-sums
returns-then-kmax-sums c =
    let a = c.args in
    let R = a.profile.now in
    let known = sym (c.if-is_other_edition.ensures {u = tt}) in
    let right = sym (c.if-not-is_within.ensures {u = tt}) in
    let most = c.kmax-kmax.ensures in
    let told = sums_told R a.edition a.octets _ _ most.0 c.sums-sums.ensures in
    let full = too_many_full R a.edition (block_bits a.octets) (omega (arith, most.0, most.1)) (omega (arith, most.0, told, c.if-kmax-sums.true)) in
    refused-planned R a.edition a.octets 9 (plan-nine R a.edition a.octets c.requires known right full) (λ q. omega arith)

pub returns-then-blocks-gt64 : goal.returns-then-blocks-gt64
returns-then-blocks-gt64 c =
    let a = c.args in
    let R = a.profile.now in
    let known = sym (c.if-is_other_edition.ensures {u = tt}) in
    let right = sym (c.if-not-is_within.ensures {u = tt}) in
    let told = counts R a.edition a.octets _ _ c.kmax-kmax.ensures.0 c.sums-sums.ensures _ c.if-kmax-sums.false c.count-blocks.ensures in
    let many = too_many_over R a.edition (block_bits a.octets) (omega (arith, told.count, c.if-blocks-gt64.true)) in
    refused-planned R a.edition a.octets 9 (plan-nine R a.edition a.octets c.requires known right many) (λ q. omega arith)

pub cutting-requires : goal.cutting-requires
unfolding block_bits
cutting-requires c =
    let a = c.args in
    let R = a.profile.now in
    let b = block_bits a.octets in
    let few = within-is 1 2048 a.octets (sym (c.if-not-is_within.ensures {u = tt})) in
    let most = c.kmax-kmax.ensures in
    let told = counts R a.edition a.octets _ _ most.0 c.sums-sums.ensures _ c.if-kmax-sums.false c.count-blocks.ensures in
    let known = accepted R c.requires in
    let some : 0 < blocks R a.edition b = blocks-some R known a.edition b (omega arith) told.fits in
    let each : ceil b c.count-blocks.result ≡ ceil b (blocks R a.edition b) = ap (ceil b) told.count in
    record {
      accepted = c.requires;
      bits_high = search rules;
      most_is = most.0;
      most_few = most.2;
      count_low = omega (arith, told.count);
      count_high = search rules;
      fits = omega (arith, need-most R known a.edition b (omega arith) told.fits, each, told.sums, most.0);
    }

pub returns : goal.returns
unfolding block_bits
returns c =
    let a = c.args in
    let R = a.profile.now in
    let known = sym (c.if-is_other_edition.ensures {u = tt}) in
    let right = sym (c.if-not-is_within.ensures {u = tt}) in
    let most = c.kmax-kmax.ensures.0 in
    let told = counts R a.edition a.octets _ _ most c.sums-sums.ensures _ c.if-kmax-sums.false c.count-blocks.ensures in
    let few : blocks R a.edition (block_bits a.octets) ≤ 64 = omega (arith, told.count, c.if-blocks-gt64.false) in
    let zero = plan-zero R a.edition a.octets c.requires known right (few-enough R a.edition (block_bits a.octets) told.fits few) in
    c.cutting.ensures ∙ plan-for R a.edition (block_bits a.octets) _ _ _ most told.sums told.count ∙ cutting-planned R a.edition a.octets zero
