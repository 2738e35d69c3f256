-- Receiving is decided: the received bits are sent by some block of the length that was asked for exactly when the gathered bits are sent as
-- them and carry their checksum, and the block is then the octets of the gathered bits.
use mathlib.Core.Path.{◌≡◌, refl, sym, ap, ap₂, ◌∙◌, subst}
use mathlib.Core.Bool.{Bool, true, true≢false}
use mathlib.Core.List.{List, ◌++◌}
use Prim.Native.Nat.{ℕ, ◌*◌, ◌^◌, ◌<◌}
use native.Mathlib.Omega.{arith}
use lib.ListN.{length, drop}
use Rattle.bits.specs.Bits.{AreOctets, digits, value_of, unpacked, packed}
use Rattle.bits.specs.declared.count.Terms.{Terms}
use Rattle.bits.proofs.Digits.{length_digits, digits-bits, digits_value, value_lt}
use Rattle.bits.proofs.Lists.{same_equal, same_self}
use Rattle.bits.proofs.Octets.{length-packed, length-unpacked, unpacked-bits, packed-octets, packed-unpacked}
use Rattle.bits.proofs.Ranges.{any_of, first_some}
use Rattle.cutting.specs.Plan.{block_bits}
use Rattle.cutting.specs.Transport.{transport}
use Rattle.cutting.specs.Steps.Plans.{checked}
use Rattle.cutting.proofs.Transported.{length-transport, transport-bits, packed-transport, transport-packed, transport-checked}
use Rattle.coding.specs.Joining.{radio_bits}
use Rattle.coding.specs.Receiving.{sent_as, nth_block, some_sent_as, received_block}
use Rattle.coding.specs.Steps.Receiving.{gathered, Receivable, Decided}
use Rattle.coding.proofs.Gathered.{HasRoom, has_room_of, gathered-length, gathered-bits, sent-gathered}

-- ---- the blocks of a length

module _ (octets : ℕ) where
  pub nth_length : (n : ℕ) → length (nth_block octets n) ≡ octets
  unfolding nth_block
  nth_length n = length-packed octets (digits (8 * octets) n)

  pub nth_octets : (n : ℕ) → AreOctets (nth_block octets n)
  unfolding nth_block
  nth_octets n = packed-octets octets (digits (8 * octets) n) (digits-bits (8 * octets) n) (omega (arith, length_digits (8 * octets) n))

  -- every block of that length is one of them
  module _ (block : List ℕ) (size : length block ≡ octets) (whole : AreOctets block) where
    pub index_below : value_of (unpacked block) < 2 ^ (8 * octets)
    index_below = subst (λ (n : ℕ). value_of (unpacked block) < 2 ^ n) (length-unpacked block ∙ ap (λ (n : ℕ). 8 * n) size) (value_lt (unpacked block) (unpacked-bits block))

    pub nth-is : nth_block octets (value_of (unpacked block)) ≡ block
    unfolding nth_block
    nth-is =
        let bits : digits (8 * octets) (value_of (unpacked block)) ≡ unpacked block =
        ap (λ (n : ℕ). digits n (value_of (unpacked block))) (sym (length-unpacked block ∙ ap (λ (n : ℕ). 8 * n) size)) ∙ digits_value (unpacked block) (unpacked-bits block) in
        ap₂ packed (sym size) bits ∙ packed-unpacked block whole

-- ---- sent as these bits

module _ (R : List ℕ) (terms : Terms) (bits block : List ℕ) where
  pub sent_as_is : sent_as R terms bits block ≡ true → radio_bits R (block_bits (length block)) (transport block) terms (length bits) ≡ bits
  unfolding sent_as
  sent_as_is e = same_equal (radio_bits R (block_bits (length block)) (transport block) terms (length bits)) bits e

  pub sent_as_of : radio_bits R (block_bits (length block)) (transport block) terms (length bits) ≡ bits → sent_as R terms bits block ≡ true
  unfolding sent_as
  sent_as_of e = rw e (same_self bits)

module _ (R : List ℕ) (octets : ℕ) (terms : Terms) (bits : List ℕ) (h : Receivable R octets terms bits) where
  abbrev b : ℕ
  b = block_bits octets

  abbrev t : List ℕ
  t = gathered R b terms bits

  room : HasRoom R b terms bits
  room = has_room_of R octets terms bits h

  -- a block that is sent as the received bits has the gathered bits as its transport bits
  pub block-gathered : (block : List ℕ) → length block ≡ octets → radio_bits R (block_bits (length block)) (transport block) terms (length bits) ≡ bits → transport block ≡ t
  block-gathered block size e =
      sent-gathered R b terms bits room (transport block) (length-transport block ∙ ap block_bits size) (transport-bits block)
      (ap (λ (n : ℕ). radio_bits R (block_bits n) (transport block) terms (length bits)) (sym size) ∙ e)

  pub block-only : (block : List ℕ) → length block ≡ octets → AreOctets block → radio_bits R (block_bits (length block)) (transport block) terms (length bits) ≡ bits
      → block ≡ packed octets t
  block-only block size whole e =
      sym (packed-transport block whole) ∙ ap₂ packed size (block-gathered block size e)

  -- ---- the search, decided by the gathered bits

  among : ℕ → Bool
  among n = sent_as R terms bits (nth_block octets n)

  pub some_from : (block : List ℕ) → length block ≡ octets → AreOctets block → sent_as R terms bits block ≡ true → some_sent_as R octets terms bits ≡ true
  unfolding some_sent_as among
  some_from block size whole e =
      any_of (2 ^ (8 * octets)) among (value_of (unpacked block)) (index_below octets block size whole)
      (ap (sent_as R terms bits) (nth-is octets block size whole) ∙ e)

  -- the block that is received is sent as these bits
  pub received-sent : some_sent_as R octets terms bits ≡ true → sent_as R terms bits (received_block R octets terms bits) ≡ true
  unfolding some_sent_as received_block among
  received-sent e = (first_some (2 ^ (8 * octets)) among e).holds

  pub received-length : length (received_block R octets terms bits) ≡ octets
  unfolding received_block
  received-length = nth_length octets _

  pub received-octets : AreOctets (received_block R octets terms bits)
  unfolding received_block
  received-octets = nth_octets octets _

  pub received_is : some_sent_as R octets terms bits ≡ true → received_block R octets terms bits ≡ packed octets t
  received_is e = block-only (received_block R octets terms bits) received-length received-octets (sent_as_is R terms bits _ (received-sent e))

  -- the tests that are made decide it, both ways
  pub tests_enough : radio_bits R b t terms (length bits) ≡ bits → checked t ≡ true → some_sent_as R octets terms bits ≡ true
  unfolding block_bits
  tests_enough e s =
      let long : length t ≡ block_bits octets = gathered-length R b terms bits room in
      let single = gathered-bits R b terms bits room in
      let back : transport (packed octets t) ≡ t = transport-packed octets t long single s in
      let size : length (packed octets t) ≡ octets = length-packed octets t in
      some_from (packed octets t) size (packed-octets octets t single (omega arith))
      (sent_as_of R terms bits (packed octets t)
      (ap₂ (λ (n : ℕ) (u : List ℕ). radio_bits R (block_bits n) u terms (length bits)) size back ∙ e))

  pub tests_needed : some_sent_as R octets terms bits ≡ true → (radio_bits R b t terms (length bits) ≡ bits) × (checked t ≡ true)
  unfolding transport
  tests_needed e =
      let block = received_block R octets terms bits in
      let is = sent_as_is R terms bits block (received-sent e) in
      let back : transport block ≡ t = block-gathered block received-length is in (
        ap₂ (λ (n : ℕ) (u : List ℕ). radio_bits R (block_bits n) u terms (length bits)) (sym received-length) (sym back) ∙ is,
        ap (checked) (sym back) ∙ transport-checked block,
      )

  -- ---- what the calls make of it

  pub decided_unsent : (radio_bits R b t terms (length bits) ≡ bits → checked t ≡ true → ⊥)
      → (out : List ℕ) → Decided R octets terms bits out (record { number = 14; count = 0 }) out
  decided_unsent fails out =
      record {
        found = λ e. let x = tests_needed e in absurd (fails x.0 x.1);
        unsent = λ e. (refl, refl, refl);
      }

  pub decided_found : radio_bits R b t terms (length bits) ≡ bits → checked t ≡ true
      → (out out' : List ℕ) → out' ≡ packed octets t ++ drop octets out → Decided R octets terms bits out (record { number = 0; count = octets }) out'
  decided_found e s out out' w =
      let some = tests_enough e s in
      record {
        found = λ _. (refl, refl, w ∙ ap (λ (x : List ℕ). x ++ drop octets out) (sym (received_is some)));
        unsent = λ none. absurd (true≢false (sym some ∙ none));
      }
