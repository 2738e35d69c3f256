-- The least G is the least: of the G that 8 does not refuse, the least has room, and none below it has; where
-- 13 is answered, none has. What is told of its shares is each block's. And what receiving answers to so few bits.
use mathlib.Core.Path.{◌≡◌, refl, sym, ap, ap₂, ◌∙◌}
use mathlib.Core.Bool.{Bool, true, false, not, ◌&&◌, ◌||◌}
use mathlib.Core.List.{List, [], ◌∷◌}
use mathlib.Core.Logic.{◌⊎◌, inl, inr}
use Prim.Native.Nat.{ℕ, suc, ◌-◌, ◌*◌, ◌/◌, ◌%◌, ◌≤◌, ◌<◌}
use native.Mathlib.Nat.{mul_comm, mul-mod_right, mod-lt, mul-div_cancel_left, div-lt_iff_lt-mul, le-div_iff_mul-le, div-add-mod}
use native.Mathlib.Omega.{arith}
use borrow.Author.Tests.{eqb-true, eq-eqb, ltb-false, le-ltb, le-leb, not-false}
use lib.Dec.{eqb, ltb, lit<}
use lib.ListN.{length}
use Rattle.bits.specs.Bits.{some_over}
use Rattle.bits.specs.Numbers.{answered}
use Rattle.bits.specs.Ranges.{first_below, within}
use Rattle.bits.specs.Counts.{usable, place_bits}
use Rattle.bits.specs.declared.count.CodedBits.{CodedBits}
use Rattle.bits.specs.declared.count.Terms.{Terms}
use Rattle.bits.proofs.Answers.{applies, passes, passed, when-done, when_refused}
use Rattle.bits.proofs.Ranges.{neither, equal_or, none_any, First, first_some}
use Rattle.profile.proofs.Answers.{judged-passed}
use Rattle.cutting.specs.Plan.{block_bits, blocks}
use Rattle.cutting.proofs.Plans.{plan-passed}
use Rattle.coding.specs.Allocation.{misallocated, symbol_places, spare, share}
use Rattle.coding.specs.Receiving.{some_sent_as, some_without_room}
use Rattle.coding.specs.Promises.{too_few_places, not_octets, receive_number}
use Rattle.coding.specs.Steps.Numbers.{cut_number}
use Rattle.coding.proofs.Shares.{share-first, share-last}
use Rattle.coding.proofs.RequestNumber.{cut-passed}
use Rattle.advice.specs.Least.{has_room, allocations, room_at, some_room, least_bits}
use Rattle.advice.specs.Promises.{least_number, LeastRoom}
use Rattle.advice.specs.declared.Advised.{Advised}
use Rattle.advice.proofs.Numbers.{least_first, least-last, right}

-- ---- what the number says

not_thirteen : (a b o c v d e : Bool) → answered ((5, a) ∷ (6, b) ∷ (19, o) ∷ (7, c) ∷ (16, v) ∷ (8, d) ∷ (9, e) ∷ []) ≡ 13 → ⊥
unfolding answered
not_thirteen true b o c v d e q = omega arith
not_thirteen false true o c v d e q = omega arith
not_thirteen false false true c v d e q = omega arith
not_thirteen false false false true v d e q = omega arith
not_thirteen false false false false true d e q = omega arith
not_thirteen false false false false false true e q = omega arith
not_thirteen false false false false false false true q = omega arith
not_thirteen false false false false false false false q = omega arith

thirteen_is : (b : Bool) → answered ((13, not b) ∷ []) ≡ 13 → b ≡ false
unfolding answered
thirteen_is true e = absurd (omega arith)
thirteen_is false e = refl

-- not both tests passed: one of them holds
one_holds : (a b : Bool) → not a && not b ≡ false → (a ≡ true) ⊎ (b ≡ true)
one_holds true b e = inl refl
one_holds false true e = inr refl
one_holds false false e = absurd (let z : ◌≡◌ {A = ℕ} 0 1 = cc in omega arith)

both_fail : (a b : Bool) → not a && not b ≡ true → (a ≡ false) × (b ≡ false)
both_fail true b e = absurd (let z : ◌≡◌ {A = ℕ} 0 1 = cc in omega arith)
both_fail false true e = absurd (let z : ◌≡◌ {A = ℕ} 0 1 = cc in omega arith)
both_fail false false e = (refl, refl)

module _ (R : List ℕ) (octets : ℕ) (terms : Terms) where
  -- 10 or 13: G has no room
  abbrev pub TenOrThirteen : ℕ → Type 0
  TenOrThirteen g = (too_few_places R octets terms g ≡ true) ⊎ (some_without_room R octets terms g ≡ true)

  least-passed : least_number R octets terms ≡ 0 → (cut_number R octets terms 0 ≡ 0) × (some_room R octets terms ≡ true)
  least-passed e =
      equal_or (cut_number R octets terms 0) 0
      (λ z. (z, not-false (some_room R octets terms) (passed 13 [] (not (some_room R octets terms)) (lit< tt) (sym (least-last R octets terms z) ∙ e)).0))
      (λ n. absurd (n (sym (least_first R octets terms n) ∙ e)))

  least-thirteen : least_number R octets terms ≡ 13 → (cut_number R octets terms 0 ≡ 0) × (some_room R octets terms ≡ false)
  unfolding cut_number
  least-thirteen e =
      equal_or (cut_number R octets terms 0) 0
      (λ z. (z, thirteen_is (some_room R octets terms) (sym (least-last R octets terms z) ∙ e)))
      (λ n. absurd (not_thirteen _ _ _ _ _ _ _ (sym (least_first R octets terms n) ∙ e)))

  -- ---- the G that 8 does not refuse are the allocations

  module _ (some : 0 < place_bits terms) (g : ℕ) (allowed : misallocated terms g ≡ false) where
    parts : (g ≤ 65536) × (g % place_bits terms ≡ 0)
    unfolding misallocated
    parts =
        let last = neither (not (usable terms) || ltb 65536 g) (not (eqb (g % place_bits terms) 0)) allowed in
        let third = neither (not (usable terms)) (ltb 65536 g) last.0 in
        (ltb-false 65536 g third.1, eqb-true (g % place_bits terms) 0 (not-false (eqb (g % place_bits terms) 0) last.1))

    multiple : place_bits terms * (g / place_bits terms) ≡ g
    multiple = omega (arith, div-add-mod g (place_bits terms), parts.1)

    counted : g / place_bits terms < allocations terms
    unfolding allocations
    counted =
        let most : g / place_bits terms ≤ 65536 / place_bits terms = (le-div_iff_mul-le some).1 (omega (arith, parts.0, multiple, mul_comm (g / place_bits terms) (place_bits terms))) in
        omega arith

    without : room_at R octets terms (g / place_bits terms) ≡ false → TenOrThirteen g
    unfolding room_at has_room
    without e = one_holds (too_few_places R octets terms g) (some_without_room R octets terms g) (rw multiple at e)

  -- ---- where there is a least

  module _ (e : least_number R octets terms ≡ 0) where
    some : 0 < place_bits terms
    some = (right R octets terms (least-passed e).0).usable.some

    first : First (allocations terms) (room_at R octets terms) (first_below (allocations terms) (room_at R octets terms))
    unfolding some_room
    first = first_some (allocations terms) (room_at R octets terms) (least-passed e).1

    pub least-has-room : has_room R octets terms (least_bits R octets terms) ≡ true
    unfolding least_bits room_at
    least-has-room = first.holds

    pub less-has-none : (g : ℕ) → g < least_bits R octets terms → misallocated terms g ≡ false → TenOrThirteen g
    unfolding least_bits
    less-has-none g less allowed =
        let k = first_below (allocations terms) (room_at R octets terms) in
        let before : g / place_bits terms < k = (div-lt_iff_lt-mul some).1 (omega (arith, mul_comm k (place_bits terms))) in
        without some g allowed (first.none (g / place_bits terms) before)

    -- it can be asked for
    pub least-allowed : misallocated terms (least_bits R octets terms) ≡ false
    unfolding misallocated least_bits allocations
    least-allowed =
        let k = first_below (suc (65536 / place_bits terms)) (room_at R octets terms) in
        let order = not (usable terms) in
        let zero = (cut-passed R octets terms 0 (least-passed e).0).1 in
        let third = (neither (order || ltb 65536 0) (not (eqb (0 % place_bits terms) 0)) zero).0 in
        let second = (neither order (ltb 65536 0) third).0 in
        let few : k * (place_bits terms) ≤ 65536 = (le-div_iff_mul-le some).0 (omega (arith, first.below)) in
        let most : place_bits terms * k ≤ 65536 = omega (arith, mul_comm k (place_bits terms)) in
        rw (second, le-ltb 65536 (place_bits terms * k) most, eq-eqb (place_bits terms * k % place_bits terms) 0 (mul-mod_right (place_bits terms) k))

  -- ---- the blocks with the larger share are no more than all blocks

  pub larger_fewer : (r : Advised) → LeastRoom R octets terms r → r.larger ≤ r.blocks
  unfolding spare
  larger_fewer r h =
      let c = blocks R terms.edition (block_bits octets) in
      let n = least_number R octets terms in
      equal_or n 0
      (λ e.
      let left = mod-lt (symbol_places terms (least_bits R octets terms)).0 {m = c} (right R octets terms (least-passed e).0).blocks in
      omega (arith, h.larger, h.blocks, when-done n ((symbol_places terms (least_bits R octets terms)).0 % c) 0 e, when-done n c 0 e, left))
      (λ d. omega (arith, h.larger, when_refused n ((symbol_places terms (least_bits R octets terms)).0 % c) 0 d))

  -- and what is told of the shares is each block's
  pub told_shares : (r : Advised) → LeastRoom R octets terms r → r.number ≡ 0 → (k : ℕ)
      → (k < r.larger → (share terms r.bits.0 r.blocks k).0 ≡ r.first.0) × (r.larger ≤ k → (share terms r.bits.0 r.blocks k).0 ≡ r.last.0)
  told_shares r h done k =
      let c = blocks R terms.edition (block_bits octets) in
      let g = least_bits R octets terms in
      let n = least_number R octets terms in
      let e : n ≡ 0 = sym h.number ∙ done in
      let bits : r.bits.0 ≡ g = h.bits ∙ when-done n g 0 e in
      let count : r.blocks ≡ c = h.blocks ∙ when-done n c 0 e in
      let larger : r.larger ≡ (spare terms g c).0 = h.larger ∙ when-done n (spare terms g c).0 0 e in
      let first : r.first.0 ≡ (share terms g c 0).0 = h.first ∙ when-done n (share terms g c 0).0 0 e in
      let last : r.last.0 ≡ (share terms g c (c - 1)).0 = h.last ∙ when-done n (share terms g c (c - 1)).0 0 e in
      let here : (share terms r.bits.0 r.blocks k).0 ≡ (share terms g c k).0 = ap₂ (λ (x y : ℕ). (share terms x y k).0) bits count in (
        λ l. here ∙ ap (λ (x : CodedBits). x.0) (share-first terms g c k (omega arith)) ∙ sym first,
        λ l. here ∙ ap (λ (x : CodedBits). x.0) (share-last terms g c k (right R octets terms (least-passed e).0).blocks (omega arith)) ∙ sym last,
      )

  -- ---- where there is none

  pub none_has_room : least_number R octets terms ≡ 13 → (g : ℕ) → misallocated terms g ≡ false → TenOrThirteen g
  unfolding some_room
  none_has_room e g allowed =
      let found = least-thirteen e in
      let some = (right R octets terms found.0).usable.some in
      without some g allowed (none_any (allocations terms) (room_at R octets terms) found.1 (g / place_bits terms) (counted some g allowed))

  -- ---- in the numbers of receiving: bits that 8, 11 and 12 do not refuse

  module _ (bits : List ℕ) (room : ℕ) (e : cut_number R octets terms 0 ≡ 0) (allowed : misallocated terms (length bits) ≡ false) where
    later : List (ℕ × Bool)
    later = (11, ltb room octets) ∷ (12, some_over 1 bits) ∷ (13, some_without_room R octets terms (length bits)) ∷ (14, not (some_sent_as R octets terms bits)) ∷ []

    from-ten : receive_number R (8 * octets) terms bits room ≡ answered ((10, too_few_places R octets terms (length bits)) ∷ later)
    unfolding receive_number not_octets later
    from-ten =
        let back : 8 * octets / 8 ≡ octets = mul-div_cancel_left octets (lit< tt) in
        let whole : 8 * octets % 8 ≡ 0 = mul-mod_right 8 octets in
        let tests = plan-passed R terms.edition octets (cut-passed R octets terms 0 e).0 in
        let seven : not (eqb (8 * octets % 8) 0 && within 1 2048 octets) ≡ false =
        rw (eq-eqb (8 * octets % 8) 0 whole, le-leb 1 octets tests.1, le-leb octets 2048 tests.2) in
        rw back (judged-passed R _ tests.0 ∙ passes 19 _ tests.4 ∙ passes 7 _ seven ∙ passes 16 _ (cut-passed R octets terms 0 e).2 ∙ passes 8 _ allowed ∙ passes 9 _ tests.3)

    without-room : octets ≤ room → some_over 1 bits ≡ false → TenOrThirteen (length bits)
        → (receive_number R (8 * octets) terms bits room ≡ 10) ⊎ (receive_number R (8 * octets) terms bits room ≡ 13)
    unfolding later
    without-room fits single none = by_value (too_few_places R octets terms (length bits)) refl none
      where
        by_value : (few : Bool) → too_few_places R octets terms (length bits) ≡ few
            → (few ≡ true) ⊎ (some_without_room R octets terms (length bits) ≡ true)
            → (receive_number R (8 * octets) terms bits room ≡ 10) ⊎ (receive_number R (8 * octets) terms bits room ≡ 13)
        by_value true q h = inl (from-ten ∙ applies 10 _ q)
        by_value false q (inl h) = absurd (let z : ◌≡◌ {A = ℕ} 0 1 = cc in omega arith)
        by_value false q (inr h) = inr (from-ten ∙ passes 10 _ q ∙ passes 11 _ (le-ltb room octets fits) ∙ passes 12 _ single ∙ applies 13 _ h)

  pub fewer_received : least_number R octets terms ≡ 0 → (bits : List ℕ) (room : ℕ) → length bits < least_bits R octets terms
      → misallocated terms (length bits) ≡ false → octets ≤ room → some_over 1 bits ≡ false
      → (receive_number R (8 * octets) terms bits room ≡ 10) ⊎ (receive_number R (8 * octets) terms bits room ≡ 13)
  fewer_received e bits room less allowed fits single =
      without-room bits room (least-passed e).0 allowed fits single (less-has-none e (length bits) less allowed)

  pub none-received : least_number R octets terms ≡ 13 → (bits : List ℕ) (room : ℕ)
      → misallocated terms (length bits) ≡ false → octets ≤ room → some_over 1 bits ≡ false
      → (receive_number R (8 * octets) terms bits room ≡ 10) ⊎ (receive_number R (8 * octets) terms bits room ≡ 13)
  none-received e bits room allowed fits single =
      without-room bits room (least-thirteen e).0 allowed fits single (none_has_room e (length bits) allowed)

  -- and to the least: neither
  pub least-received : least_number R octets terms ≡ 0 → (bits : List ℕ) (room : ℕ) → length bits ≡ least_bits R octets terms
      → receive_number R (8 * octets) terms bits room
      ≡ answered ((11, ltb room octets) ∷ (12, some_over 1 bits) ∷ (14, not (some_sent_as R octets terms bits)) ∷ [])
  unfolding has_room later answered
  least-received e bits room size =
      let none = both_fail (too_few_places R octets terms (length bits)) (some_without_room R octets terms (length bits)) (rw size (least-has-room e)) in
      from-ten bits room (least-passed e).0 (rw size (least-allowed e)) ∙ rw (none.0, none.1)
