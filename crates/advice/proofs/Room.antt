-- Which allocations have room: the one with the symbol places that all blocks' N take together, and none with fewer.
use mathlib.Core.Path.{◌≡◌, refl, sym, ap, ◌∙◌}
use mathlib.Core.Bool.{Bool, true, false, not, ◌&&◌}
use mathlib.Core.List.{List}
use Prim.Native.Nat.{ℕ, suc, ◌+◌, ◌*◌, ◌/◌, ◌%◌, ◌≤◌, ◌<◌}
use native.Mathlib.Nat.{add-mul, mul_comm, mul-one, one-mul, mul-div_cancel_left, mod-lt}
use native.Mathlib.Omega.{arith}
use borrow.Author.Tests.{ltb-false, lt-ltb, le-ltb}
use lib.Dec.{ltb}
use Rattle.bits.specs.Counts.{ceil, symbol_places_of, place_bits}
use Rattle.bits.specs.Ranges.{any_below, sum_below}
use Rattle.bits.specs.declared.count.Terms.{Terms}
use Rattle.bits.proofs.Ranges.{below_or, equal_or, any_of, any_none, none_any, first-is}
use Rattle.bits.proofs.Rounding.{ceil_covers, ceil-least, ceil-some}
use Rattle.bits.proofs.Sums.{sum_same, sum_le, sum_const}
use Rattle.profile.specs.Record.{z, rows}
use Rattle.cutting.specs.Plan.{block_bits, sum_bits, blocks, own_bits, carried_bits, size_index}
use Rattle.cutting.proofs.Plans.{Cut}
use Rattle.cutting.proofs.Rounding.{below, own_parts, own_sum, parts_sum, parts_own}
use Rattle.coding.specs.Blocks.{sendable}
use Rattle.coding.specs.Allocation.{symbol_places, spare, share}
use Rattle.coding.specs.Receiving.{some_without_room}
use Rattle.coding.specs.Promises.{too_few_places}
use Rattle.coding.proofs.Shares.{share-places}
use Rattle.coding.proofs.Sent.{sendable_parts}
use Rattle.advice.specs.Least.{has_room, allocations, room_at, some_room, least_bits}
use Rattle.advice.specs.Steps.Counting.{places_for, places_for_all}

-- ---- one more than n takes as many symbol places as n, or one more

module _ (n k : ℕ) (some : 0 < k) where
  ceil-low : ceil n k ≤ ceil (n + 1) k
  ceil-low = ceil-least n k some (ceil (n + 1) k) (omega (arith, ceil_covers (n + 1) k some))

  ceil-high : ceil (n + 1) k ≤ ceil n k + 1
  ceil-high = ceil-least (n + 1) k some (ceil n k + 1) (omega (arith, ceil_covers n k some, add-mul (ceil n k) 1 k, one-mul k))

  ceil-next : (ceil (n + 1) k ≡ ceil n k → ⊥) → ceil (n + 1) k ≡ ceil n k + 1
  ceil-next d = below_or (ceil n k) (ceil (n + 1) k) (λ l. omega (arith, ceil-high)) (λ l. absurd (d (omega (arith, ceil-low))))

-- c numbers, the first s of which are one more than the others, which are q
record Parts (c : ℕ) (f : ℕ → ℕ) : Type 0 where
  q : ℕ
  s : ℕ
  some : s < c
  is : (r : ℕ) → f r ≡ q + below s r

-- are what their sum is shared out as
parts_back : (c : ℕ) (f : ℕ → ℕ) → Parts c f → (r : ℕ) → own_bits (sum_below c f) c r ≡ f r
parts_back c f p r =
    let all : sum_below c f ≡ c * p.q + p.s = sum_same c f (λ i. p.q + below p.s i) (λ i l. p.is i) ∙ parts_sum c p.q p.s (omega (arith, p.some)) in
    rw all (parts_own c p.q p.s p.some r ∙ sym (p.is r))

module _ (R : List ℕ) (octets : ℕ) (terms : Terms) (cut : Cut R terms.edition (block_bits octets)) where
  abbrev ed : ℕ
  ed = terms.edition

  abbrev b : ℕ
  b = block_bits octets

  abbrev c : ℕ
  c = blocks R ed b

  sendable-is : (r : ℕ) → sendable R ed b r ≡ own_bits b c r + sum_bits R ed b + rows R * z R (size_index R ed b)
  unfolding carried_bits
  sendable-is r = sendable_parts R ed b cut r

  module _ (some : 0 < place_bits terms) where
    -- ---- what the blocks take: the first may take one symbol place more than the others

    abbrev each : ℕ → ℕ
    each = places_for R b terms

    abbrev all : ℕ
    all = places_for_all R b terms

    -- N of a block with the fewest own bits
    abbrev low : ℕ
    low = b / c + sum_bits R ed b + rows R * z R (size_index R ed b)

    first-each : (r : ℕ) → r < b % c → each r ≡ ceil (low + 1) (place_bits terms)
    unfolding places_for
    first-each r l =
        let own : own_bits b c r ≡ b / c + 1 = own_parts b c cut.some r ∙ rw (lt-ltb r (b % c) l) in
        let n : sendable R ed b r ≡ low + 1 = omega (arith, sendable-is r, own) in
        ap (λ (n : ℕ). ceil n (place_bits terms)) n

    other-each : (r : ℕ) → b % c ≤ r → each r ≡ ceil low (place_bits terms)
    unfolding places_for
    other-each r l =
        let own : own_bits b c r ≡ b / c + 0 = own_parts b c cut.some r ∙ rw (le-ltb r (b % c) l) in
        let n : sendable R ed b r ≡ low = omega (arith, sendable-is r, own) in
        ap (λ (n : ℕ). ceil n (place_bits terms)) n

    parts : Parts c (places_for R b terms)
    parts =
        equal_or (ceil (low + 1) (place_bits terms)) (ceil low (place_bits terms))
        (λ e.
        record {
          q = ceil low (place_bits terms);
          s = 0;
          some = cut.some;
          is = λ r. rw (le-ltb r 0 (omega arith)) (below_or r (b % c) (λ l. omega (arith, first-each r l)) (λ l. omega (arith, other-each r l)));
        })
        (λ d.
        record {
          q = ceil low (place_bits terms);
          s = b % c;
          some = mod-lt b cut.some;
          is = λ r.
              below_or r (b % c) (λ l. rw (lt-ltb r (b % c) l) (first-each r l ∙ ceil-next low (place_bits terms) some d))
              (λ l. rw (le-ltb r (b % c) l) (omega (arith, other-each r l)));
        })

    -- so each is given as many as it takes
    given-each : (r : ℕ) → own_bits all c r ≡ each r
    unfolding places_for_all
    given-each = parts_back c (places_for R b terms) parts

    each-some : (r : ℕ) → 1 ≤ each r
    unfolding places_for
    each-some r = ceil-some (sendable R ed b r) (place_bits terms) some (omega (arith, sendable-is r, cut.own_some r))

    all-some : c ≤ all
    unfolding places_for_all
    all-some = omega (arith, sum_le c (λ r. 1) (places_for R b terms) (λ r l. each-some r), sum_const c 1, mul-one c)

    -- ---- G = N_L·Q_m·k is k symbol places

    places-at : (k : ℕ) → (symbol_places terms (place_bits terms * k)).0 ≡ k
    unfolding symbol_places symbol_places_of
    places-at k = mul-div_cancel_left k some

    share-at : (k r : ℕ) → (share terms (place_bits terms * k) c r).0 ≡ place_bits terms * own_bits k c r
    share-at k r = share-places terms (place_bits terms * k) c r ∙ ap (λ (n : ℕ). place_bits terms * own_bits n c r) (places-at k)

    abbrev lacks : ℕ → ℕ → Bool
    lacks k r = ltb (share terms (place_bits terms * k) c r).0 (sendable R ed b r)

    -- as many as they take: every block has room
    many : too_few_places R octets terms (place_bits terms * all) ≡ false
    unfolding too_few_places
    many = rw (places-at all) (le-ltb all c all-some)

    roomy : (r : ℕ) → lacks all r ≡ false
    unfolding places_for
    roomy r =
        rw (share-at all r, given-each r)
        (le-ltb (place_bits terms * each r) (sendable R ed b r) (omega (arith, ceil_covers (sendable R ed b r) (place_bits terms) some, mul_comm (each r) (place_bits terms))))

    pub room-at : room_at R octets terms (places_for_all R b terms) ≡ true
    unfolding room_at has_room some_without_room
    room-at = rw (many, any_none c (lacks all) (λ r l. roomy r))

    -- fewer: were there room in every block, they would be given more than there is
    module _ (k : ℕ) (h : k < all) where
      taken : (r : ℕ) → lacks k r ≡ false → each r ≤ own_bits k c r
      unfolding places_for
      taken r e =
          ceil-least (sendable R ed b r) (place_bits terms) some (own_bits k c r)
          (omega (arith, ltb-false (share terms (place_bits terms * k) c r).0 (sendable R ed b r) e, share-at k r, mul_comm (place_bits terms) (own_bits k c r)))

      lacks-below : some_without_room R octets terms (place_bits terms * k) ≡ true
      unfolding some_without_room places_for_all
      lacks-below = by_value (any_below c (lacks k)) refl
        where
          by_value : (v : Bool) → any_below c (lacks k) ≡ v → any_below c (lacks k) ≡ true
          by_value true e = e
          by_value false e =
              absurd (omega (arith, h, sum_le c (places_for R b terms) (own_bits k c) (λ r l. taken r (none_any c (lacks k) e r l)), own_sum k c cut.some))

      pub room-below : room_at R octets terms k ≡ false
      unfolding room_at has_room
      room-below = by_value (too_few_places R octets terms (place_bits terms * k))
        where
          by_value : (t : Bool) → not t && not (some_without_room R octets terms (place_bits terms * k)) ≡ false
          by_value true = refl
          by_value false = rw lacks-below

    -- ---- the least

    pub some-room : places_for_all R b terms ≤ 65536 / place_bits terms → some_room R octets terms ≡ true
    unfolding some_room allocations
    some-room h = any_of (suc (65536 / place_bits terms)) (room_at R octets terms) all (omega arith) room-at

    pub no_room : 65536 / place_bits terms < places_for_all R b terms → some_room R octets terms ≡ false
    unfolding some_room allocations
    no_room h = any_none (suc (65536 / place_bits terms)) (room_at R octets terms) (λ k l. room-below k (omega arith))

    pub least-is : places_for_all R b terms ≤ 65536 / place_bits terms → least_bits R octets terms ≡ place_bits terms * places_for_all R b terms
    unfolding least_bits allocations
    least-is h =
        ap (λ (k : ℕ). place_bits terms * k)
        (first-is (suc (65536 / place_bits terms)) (room_at R octets terms) all (record { below = omega arith; holds = room-at; none = room-below }))

    pub spare-is : (spare terms (place_bits terms * places_for_all R b terms) c).0 ≡ places_for_all R b terms % c
    unfolding spare
    spare-is = ap (λ (n : ℕ). n % c) (places-at all)
