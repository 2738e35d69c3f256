-- The way back: bits of 3D and more are sent by three streams exactly where their copies agree, and by no others.
use mathlib.Core.Path.{◌≡◌, sym, ap, ◌∙◌}
use mathlib.Core.Bool.{true}
use mathlib.Core.List.{List, ◌++◌}
use Prim.Native.Nat.{ℕ, ◌+◌, ◌^◌, ◌≤◌, ◌<◌}
use native.Mathlib.Omega.{arith}
use borrow.Author.Tests.{eqb-true, eq-eqb}
use lib.Dec.{eqb}
use lib.ListN.{length, get_or, take, drop}
use lib.Seq.{get_or-take, length-take-le, ext_get_or}
use Rattle.bits.specs.Bits.{AreBits, same, digits, value_of}
use Rattle.bits.specs.Ranges.{list_below, first_below}
use Rattle.bits.proofs.Digits.{length_digits, digits-bits, digits_value, value_lt}
use Rattle.bits.proofs.Listed.{length_list, at_list, list_of, written}
use Rattle.bits.proofs.Lists.{same_equal, same_self}
use Rattle.bits.proofs.Ranges.{any_of, first_some, either_way}
use Rattle.matching.specs.Steps.Copies.{copies_agree}
use Rattle.matching.proofs.Stretch.{sent_front, sent_copies, copies_sent}
use Rattle.control.specs.Interleaver.{buffer, sent}
use Rattle.control.specs.Back.{sent_as, some_streams, streams_as}
use Rattle.control.specs.Steps.Order.{spot, collected, Scattered}
use Rattle.control.proofs.Ordering.{spot_lt, spot_once, spot_of}
use Rattle.control.proofs.Loops.{scattered_at}
use Rattle.control.proofs.Collecting.{list_bits, kept_buffer, length-kept}

-- ---- what the search gives is 3D bits

pub found-length : (D : ℕ) (bits : List ℕ) → length (streams_as D bits) ≡ D + D + D
unfolding streams_as
found-length D bits = length_digits (D + D + D) _

pub found-bits : (D : ℕ) (bits : List ℕ) → AreBits (streams_as D bits)
unfolding streams_as
found-bits D bits = digits-bits (D + D + D) _

-- ---- three streams by what they are sent as

module _ (D : ℕ) (some : 0 < D) (most : D ≤ 128) where
  module _ (S bits : List ℕ) (single : AreBits S) (long : D + D + D ≤ length bits) (e : sent D S (length bits) ≡ bits) where
    pub sent-spot : (k : ℕ) → k < D + D + D → get_or S (spot D k) 0 ≡ get_or bits k 0
    unfolding sent collected
    sent-spot k h =
        sym (at_list (D + D + D) (λ k. get_or S (spot D k) 0) k h)
        ∙ ap (λ (l : List ℕ). get_or l k 0)
        (sym (kept_buffer D some most S single) ∙ sym (sent_front (buffer D S) bits (D + D + D) (length-kept D some most S single) (omega arith) long e))
        ∙ get_or-take (D + D + D) bits k 0 h

    pub sent-agree : copies_agree (D + D + D) bits ≡ true
    unfolding sent
    sent-agree = sent_copies (buffer D S) bits (D + D + D) (length-kept D some most S single) (omega arith) long e

  -- streams that are sent as the same bits are the same
  pub sent-same : (S T bits : List ℕ) → AreBits S → AreBits T → length S ≡ D + D + D → length T ≡ D + D + D → D + D + D ≤ length bits
      → sent D S (length bits) ≡ bits → sent D T (length bits) ≡ bits → S ≡ T
  sent-same S T bits hs ht ls lt long es et =
      ext_get_or 0 S T (ls ∙ sym lt)
      (λ i h.
      let s = spot_of D some most i (omega arith) in
      ap (λ (j : ℕ). get_or S j 0) (sym s.is) ∙ sent-spot S bits hs long es s.at s.inside
      ∙ sym (sent-spot T bits ht long et s.at s.inside) ∙ ap (λ (j : ℕ). get_or T j 0) s.is)

-- ---- the streams that are put together from the first 3D bits

module _ (D : ℕ) (some : 0 < D) (most : D ≤ 128) (bits : List ℕ) where
  -- the place i is sent so many-th
  turn : ℕ → ℕ
  turn i = first_below (D + D + D) (λ k. eqb (spot D k) i)

  turn_is : (i : ℕ) → i < D + D + D → spot D (turn i) ≡ i
  unfolding turn
  turn_is i h =
      let s = spot_of D some most i h in
      eqb-true _ _ (first_some (D + D + D) (λ k. eqb (spot D k) i) (any_of (D + D + D) (λ k. eqb (spot D k) i) s.at s.inside (eq-eqb _ _ s.is))).holds

  turn-lt : (i : ℕ) → i < D + D + D → turn i < D + D + D
  unfolding turn
  turn-lt i h =
      let s = spot_of D some most i h in
      (first_some (D + D + D) (λ k. eqb (spot D k) i) (any_of (D + D + D) (λ k. eqb (spot D k) i) s.at s.inside (eq-eqb _ _ s.is))).below

  rebuilt : List ℕ
  rebuilt = list_below (D + D + D) (λ i. get_or bits (turn i) 0)

  rebuilt-spot : (k : ℕ) → k < D + D + D → get_or rebuilt (spot D k) 0 ≡ get_or bits k 0
  unfolding rebuilt
  rebuilt-spot k h =
      let low = spot_lt D some most k h in
      at_list (D + D + D) (λ i. get_or bits (turn i) 0) (spot D k) low
      ∙ ap (λ (j : ℕ). get_or bits j 0) (spot_once D some most (turn (spot D k)) k (turn_is (spot D k) low))

  scattered-rebuilt : (a b : List ℕ) → D + D + D ≤ length a → Scattered D bits D a b → b ≡ rebuilt ++ drop (D + D + D) a
  unfolding rebuilt
  scattered-rebuilt a b room s =
      written (D + D + D) (λ i. get_or bits (turn i) 0) a b room s.len
      (λ i h. ap (λ (j : ℕ). get_or b j 0) (sym (turn_is i h)) ∙ scattered_at D some most bits a b s (turn i) (turn-lt i h)) s.above

  module _ (single : AreBits bits) where
    rebuilt-bits : AreBits rebuilt
    unfolding rebuilt
    rebuilt-bits = list_bits (D + D + D) _ (λ i. single (turn i))

    module _ (long : D + D + D ≤ length bits) where
      rebuilt-front : take (D + D + D) bits ≡ collected D rebuilt
      unfolding collected
      rebuilt-front =
          list_of (D + D + D) _ (take (D + D + D) bits) (length-take-le (D + D + D) bits long)
          (λ k h. get_or-take (D + D + D) bits k 0 h ∙ sym (rebuilt-spot k h))

      rebuilt-sent : copies_agree (D + D + D) bits ≡ true → sent D rebuilt (length bits) ≡ bits
      unfolding sent
      rebuilt-sent agree =
          copies_sent (buffer D rebuilt) bits (D + D + D) (length-kept D some most rebuilt rebuilt-bits) (omega arith) long agree
          (rebuilt-front ∙ sym (kept_buffer D some most rebuilt rebuilt-bits))

      -- ---- the search

      -- streams that are sent so are found, and no others
      pub some-sent : (S : List ℕ) → AreBits S → length S ≡ D + D + D → sent D S (length bits) ≡ bits → some_streams D bits ≡ true
      unfolding some_streams sent_as
      some-sent S h l e =
          let low : value_of S < 2 ^ (D + D + D) = rw l at (value_lt S h) in
          let back : digits (D + D + D) (value_of S) ≡ S = ap (λ (n : ℕ). digits n (value_of S)) (sym l) ∙ digits_value S h in
          any_of (2 ^ (D + D + D)) (sent_as D bits) (value_of S) low
          (ap (λ (x : List ℕ). same x bits) (ap (λ (x : List ℕ). sent D x (length bits)) back ∙ e) ∙ same_self bits)

      pub first-sent : some_streams D bits ≡ true → sent D (streams_as D bits) (length bits) ≡ bits
      unfolding some_streams streams_as sent_as
      first-sent e = same_equal _ _ (first_some (2 ^ (D + D + D)) (sent_as D bits) e).holds

      pub found-is : (S : List ℕ) → AreBits S → length S ≡ D + D + D → sent D S (length bits) ≡ bits → streams_as D bits ≡ S
      found-is S h l e = sent-same D some most (streams_as D bits) S bits (found-bits D bits) h (found-length D bits) l long (first-sent (some-sent S h l e)) e

      -- ---- is decided by the copies

      rebuilt-length : length rebuilt ≡ D + D + D
      unfolding rebuilt
      rebuilt-length = length_list (D + D + D) _

      pub decided : some_streams D bits ≡ copies_agree (D + D + D) bits
      decided =
          either_way _ _
          (λ e. sent-agree D some most (streams_as D bits) bits (found-bits D bits) long (first-sent e))
          (λ e. some-sent rebuilt rebuilt-bits rebuilt-length (rebuilt-sent e))

      pub scattered-back : some_streams D bits ≡ true → (a b : List ℕ) → D + D + D ≤ length a → Scattered D bits D a b
          → b ≡ streams_as D bits ++ drop (D + D + D) a
      scattered-back e a b room s =
          scattered-rebuilt a b room s
          ∙ ap (λ (l : List ℕ). l ++ drop (D + D + D) a) (sym (found-is rebuilt rebuilt-bits rebuilt-length (rebuilt-sent (sym decided ∙ e))))
