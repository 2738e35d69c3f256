-- No statement is empty: with the toy profile of document 01, one of Type 2, and one that edition 2 cuts, there are sendings and receptions that are accepted,
-- and every refusal from 1 to 14, 16 and 19 is reached. The searches of 14 and of what is received are never computed; the laws decide them.
use mathlib.Core.Path.{◌≡◌, refl, sym, ap, ◌∙◌, subst}
use mathlib.Core.Bool.{true, false, true≢false}
use mathlib.Core.List.{List, [], ◌∷◌, ◌++◌, map}
use Prim.Native.Nat.{ℕ, zero, suc, ◌-◌, ◌*◌, ◌%◌, ◌≤◌, ◌<◌}
use native.Mathlib.Omega.{arith}
use lib.Dec.{lit<, lit≤}
use lib.ListN.{length, get_or, take, drop, replicate, set, length-replicate}
use Rattle.bits.specs.Bits.{AreOctets, some_over, number_at, read_on, value_of, unpacked, digits, with_filler}
use Rattle.bits.specs.Counts.{ceil, usable, place_bits, symbol_places_of, coded_bits_of}
use Rattle.bits.specs.Numbers.{answered, when_done}
use Rattle.bits.specs.Ranges.{sum_below, parity_below, all_below, any_below, first_below, list_below}
use Rattle.bits.specs.declared.number.Written.{Written}
use Rattle.bits.specs.declared.count.Terms.{Terms}
use Rattle.bits.proofs.Over.{over_none_bits}
use Rattle.checksum.specs.Crc.{reduce, divide_on, remainder, checksum, attached}
use Rattle.checksum.proofs.Attachment.{checks-complete}
use Rattle.profile.specs.Record.{kb, m, x, kind, t, z, offset, rows, columns, table_size, table, entry, kind_right, header_right, rises, sizes_right, offset_due, offsets_right, ends_right, shift_right, table_right, well_formed}
use Rattle.profile.specs.Staircase.{filled, filled_between, first_column, next_due, next_column, staircase, row_ends, extension_row, extended, staircases}
use Rattle.cutting.specs.Plan.{block_bits, kmax, other_edition, summed, sum_bits, blocks, too_many_blocks, own_bits, size_index_for, size_index, places, carried_bits, filler}
use Rattle.cutting.specs.Promises.{plan_number}
use Rattle.cutting.specs.Transport.{transport}
use Rattle.cutting.specs.Cutting.{own_start, own, with_sum, carried, systematic}
use Rattle.cutting.proofs.Plans.{plan-cut}
use Rattle.cutting.proofs.Transported.{generator_24}
use Rattle.parity.specs.Matrix.{square, spread, bit_at, row_even, checks}
use Rattle.parity.specs.Coded.{with_parity, checks_with, coded}
use Rattle.matching.specs.Matching.{kept, matched, start_of, matched_from, misversioned}
use Rattle.matching.specs.Steps.Places.{kept_before}
use Rattle.matching.specs.Steps.Line.{in_line}
use Rattle.coding.specs.Allocation.{misallocated, symbol_places, spare, share}
use Rattle.coding.specs.Blocks.{coded_block, sendable}
use Rattle.coding.specs.Receiving.{some_without_room}
use Rattle.coding.specs.Promises.{too_few_places, send_number, Sent, not_octets, receive_number, Received}
use Rattle.coding.specs.Joining.{block_sent, joined, radio_bits}
use Rattle.coding.specs.RoundTrip.{Roomy}
use Rattle.coding.specs.Steps.Sending.{version_start}
use Rattle.coding.specs.Steps.Receiving.{share_start, stretch, carried_received, own_received, gathered, Receivable}
use Rattle.coding.specs.Steps.Numbers.{cut_number}
use Rattle.coding.proofs.RoundTrip.{sent_front, sent_always, sent-returns, unsent-exactly}
use Rattle.coding.proofs.Shares.{allocated}
use Rattle.coding.proofs.Received.{block-gathered}
use Rattle.shelf.specs.Promises.{HostedReceived}
use Rattle.shelf.specs.Lookup.{is_entry, has, entry_of, record_of, lookup_number, lookup_record}
use Rattle.advice.specs.Promises.{LeastRoom}
use Rattle.advice.specs.Steps.Counting.{places_for, places_for_all}
use Rattle.advice.proofs.Numbers.{last_done}
use Rattle.demands.specs.Worked.{toy, p10_octets, spare_octets, toy_terms, sent_with, cases, type_two, type_two_sent, a5_with3, versions, twenty, twenty_sent, three_with2, editions}
use Rattle.demands.proofs.Versions.{terms_of, room_for_each}
use Rattle.demands.proofs.Worked.{worked, worked-versions, worked-editions}
use Rattle.checksum.specs.Crc as crc
use Rattle.matching.specs.Matching as matching
use Rattle.checksum.specs.Steps.Testing as testing
use Rattle.shelf.specs.Shelf as shelves

-- ---- every refusal that is not of the coded bits themselves, by computing: sending

-- the toy record with the shift 1 for 0 in the middle row of column kb: well formed, but no staircase
unfoldable pub bent : List ℕ
bent = set toy 19 1

-- 5 "for a type other than 1 or 2, an x against these rules": Type 3, and Type 1 with x 1; 6 "for a bad extension": 1 for 0 in an extension row's own column
unfoldable pub untyped : List ℕ
untyped = set type_two 7 3

unfoldable pub mistyped : List ℕ
mistyped = set type_two 7 1

unfoldable pub unextended : List ℕ
unextended = set type_two 33 1

-- "16, between 7 and 8, for an rv over 3 or against the type": the toy is of Type 1, so rv 1 is against it; and N_L 9 besides, which 8 would refuse
abbrev pub versioned : Terms
versioned = terms_of 1 2 1 1

abbrev pub unusable : Terms
unusable = terms_of 9 2 1 1

-- "19, before 7, for an edition other than 1 or 2": 0 and 3; and N_L 9 and rv 1 besides
abbrev pub unedited : Terms
unedited = terms_of 1 2 0 0

abbrev pub overedited : Terms
overedited = terms_of 9 2 3 1

abbrev pub second : Terms
second = terms_of 1 2 2 0

pub record Sending : Type 0 where
  pub profile : List ℕ
  pub block : List ℕ
  pub terms : Terms
  pub g : ℕ
  pub room : ℕ
  pub due : ℕ

unfoldable pub sendings : List Sending
sendings =
    record { profile = toy; block = 0x01 ∷ []; terms = toy_terms; g = 128; room = 128; due = 0 }
    ∷ record { profile = toy; block = 0x01 ∷ []; terms = toy_terms; g = 130; room = 200; due = 0 }
    ∷ record { profile = toy; block = 0x01 ∷ []; terms = toy_terms; g = 126; room = 126; due = 0 }
    ∷ record { profile = type_two; block = 0xA5 ∷ []; terms = terms_of 1 2 1 3; g = 176; room = 176; due = 0 }
    ∷ record { profile = []; block = 0x01 ∷ []; terms = toy_terms; g = 128; room = 128; due = 5 }
    ∷ record { profile = untyped; block = 0xA5 ∷ []; terms = toy_terms; g = 176; room = 176; due = 5 }
    ∷ record { profile = mistyped; block = 0xA5 ∷ []; terms = toy_terms; g = 176; room = 176; due = 5 }
    ∷ record { profile = bent; block = 0x01 ∷ []; terms = toy_terms; g = 128; room = 128; due = 6 }
    ∷ record { profile = unextended; block = 0xA5 ∷ []; terms = toy_terms; g = 176; room = 176; due = 6 }
    ∷ record { profile = bent; block = []; terms = unedited; g = 128; room = 128; due = 6 }
    ∷ record { profile = toy; block = 0x01 ∷ []; terms = unedited; g = 128; room = 128; due = 19 }
    ∷ record { profile = toy; block = []; terms = overedited; g = 129; room = 0; due = 19 }
    ∷ record { profile = toy; block = []; terms = toy_terms; g = 128; room = 128; due = 7 }
    ∷ record { profile = toy; block = []; terms = versioned; g = 128; room = 128; due = 7 }
    ∷ record { profile = toy; block = 0x01 ∷ []; terms = versioned; g = 128; room = 128; due = 16 }
    ∷ record { profile = toy; block = 0x01 ∷ []; terms = unusable; g = 128; room = 128; due = 16 }
    ∷ record { profile = type_two; block = 0xA5 ∷ []; terms = terms_of 1 2 1 4; g = 176; room = 176; due = 16 }
    ∷ record { profile = toy; block = 0x01 ∷ []; terms = toy_terms; g = 129; room = 129; due = 8 }
    ∷ record { profile = toy; block = replicate 14 0; terms = toy_terms; g = 128; room = 128; due = 9 }
    ∷ record { profile = toy; block = 0x01 ∷ []; terms = second; g = 128; room = 128; due = 9 }
    ∷ record { profile = twenty; block = 0x01 ∷ 0x02 ∷ 0x03 ∷ []; terms = second; g = 138; room = 138; due = 0 }
    ∷ record { profile = toy; block = 0x01 ∷ []; terms = toy_terms; g = 30; room = 30; due = 10 }
    ∷ record { profile = toy; block = 0x01 ∷ []; terms = toy_terms; g = 128; room = 127; due = 11 }
    ∷ []

abbrev pub sending : Sending → ℕ
sending c = send_number c.profile c.block c.terms c.g c.room

abbrev pub sending_due : Sending → ℕ
sending_due c = c.due

pub sendings-answered : map sending sendings ≡ map sending_due sendings
unfolding sendings twenty untyped mistyped unextended type_two bent toy send_number other_edition too_many_blocks answered misversioned misallocated usable too_few_places symbol_places place_bits symbol_places_of number_at sum_below all_below any_below kb m x kind t z offset rows columns table_size table entry
    kind_right header_right rises sizes_right offset_due offsets_right ends_right shift_right table_right well_formed filled filled_between first_column next_due next_column staircase row_ends extension_row extended staircases ceil block_bits kmax summed sum_bits blocks
sendings-answered = refl

-- ---- and receiving

pub record Receiving : Type 0 where
  pub profile : List ℕ
  pub a : ℕ
  pub terms : Terms
  pub bits : List ℕ
  pub room : ℕ
  pub due : ℕ

unfoldable pub receivings : List Receiving
receivings =
    record { profile = []; a = 8; terms = toy_terms; bits = replicate 128 0; room = 1; due = 5 }
    ∷ record { profile = bent; a = 8; terms = toy_terms; bits = replicate 128 0; room = 1; due = 6 }
    ∷ record { profile = toy; a = 8; terms = unedited; bits = replicate 128 0; room = 1; due = 19 }
    ∷ record { profile = toy; a = 9; terms = overedited; bits = 2 ∷ []; room = 0; due = 19 }
    ∷ record { profile = toy; a = 9; terms = toy_terms; bits = replicate 128 0; room = 1; due = 7 }
    ∷ record { profile = toy; a = 9; terms = versioned; bits = replicate 128 0; room = 1; due = 7 }
    ∷ record { profile = toy; a = 8; terms = versioned; bits = replicate 128 0; room = 1; due = 16 }
    ∷ record { profile = toy; a = 8; terms = unusable; bits = replicate 128 0; room = 1; due = 16 }
    ∷ record { profile = type_two; a = 8; terms = terms_of 1 2 1 4; bits = replicate 176 0; room = 1; due = 16 }
    ∷ record { profile = toy; a = 8; terms = toy_terms; bits = replicate 129 0; room = 1; due = 8 }
    ∷ record { profile = toy; a = 112; terms = toy_terms; bits = replicate 128 0; room = 14; due = 9 }
    ∷ record { profile = toy; a = 8; terms = second; bits = replicate 128 0; room = 1; due = 9 }
    ∷ record { profile = twenty; a = 24; terms = second; bits = replicate 136 0; room = 3; due = 13 }
    ∷ record { profile = toy; a = 8; terms = toy_terms; bits = replicate 30 0; room = 1; due = 10 }
    ∷ record { profile = toy; a = 8; terms = toy_terms; bits = replicate 128 0; room = 0; due = 11 }
    ∷ record { profile = toy; a = 8; terms = toy_terms; bits = replicate 127 0 ++ (2 ∷ []); room = 1; due = 12 }
    ∷ record { profile = toy; a = 8; terms = toy_terms; bits = replicate 126 0; room = 1; due = 13 }
    ∷ []

abbrev pub receiving : Receiving → ℕ
receiving c = receive_number c.profile c.a c.terms c.bits c.room

abbrev pub receiving_due : Receiving → ℕ
receiving_due c = c.due

pub receivings-answered : map receiving receivings ≡ map receiving_due receivings
unfolding receivings twenty type_two bent toy receive_number other_edition too_many_blocks answered not_octets misversioned misallocated usable too_few_places share spare symbol_places place_bits symbol_places_of coded_bits_of some_over some_without_room sendable number_at
    sum_below all_below any_below first_below kb m x kind t z offset rows columns table_size table entry kind_right header_right rises sizes_right offset_due offsets_right ends_right shift_right table_right well_formed filled filled_between first_column next_due
    next_column staircase row_ends extension_row extended staircases ceil block_bits kmax summed sum_bits blocks own_bits size_index_for size_index places carried_bits filler
receivings-answered = refl

-- ---- lookup, on a shelf where tenant 1 has the toy record as number 7

unfoldable pub shelf : List ℕ
shelf = 0 ∷ 1 ∷ 0 ∷ 1 ∷ 0 ∷ 7 ∷ 0 ∷ 10 ∷ 0 ∷ 26 ∷ toy

unfoldable pub bare : List ℕ
bare = 0 ∷ 0 ∷ []

pub record LookupCase : Type 0 where
  pub private : List ℕ
  pub public : List ℕ
  pub tenant : ℕ
  pub number : ℕ
  pub due : ℕ

unfoldable pub lookups : List LookupCase
lookups =
    record { private = shelf; public = bare; tenant = 1; number = 7; due = 0 }
    ∷ record { private = shelf; public = bare; tenant = 0; number = 7; due = 1 }
    ∷ record { private = []; public = bare; tenant = 1; number = 7; due = 2 }
    ∷ record { private = shelf; public = shelf; tenant = 1; number = 7; due = 3 }
    ∷ record { private = shelf; public = bare; tenant = 2; number = 7; due = 4 }
    ∷ []

abbrev pub lookup_answer : LookupCase → ℕ
lookup_answer c = lookup_number c.private c.public c.tenant c.number

abbrev pub lookup_due : LookupCase → ℕ
lookup_due c = c.due

pub lookups-answered : map lookup_answer lookups ≡ map lookup_due lookups
unfolding lookups shelf bare toy lookup_number answered number_at all_below any_below shelves.well_formed shelves.rises shelves.offset_due shelves.chained shelves.ends_right
    shelves.tenant_right shelves.count shelves.tenant shelves.profile shelves.offset shelves.size has is_entry
lookups-answered = refl

pub looked_up : lookup_record shelf bare 1 7 ≡ toy
unfolding shelf bare toy lookup_record lookup_number answered when_done number_at all_below any_below first_below shelves.well_formed shelves.rises shelves.offset_due shelves.chained
    shelves.ends_right shelves.tenant_right shelves.count shelves.tenant shelves.profile shelves.offset shelves.size shelves.record_at has
    is_entry entry_of record_of
looked_up = refl

-- ---- "Toy, 13 octets: B 128, C 64", "14 octets: C 68"

pub thirteen_and_fourteen : (block_bits 13 ≡ 128) × (blocks toy 1 (block_bits 13) ≡ 64) × (blocks toy 1 (block_bits 14) ≡ 68)
unfolding toy number_at block_bits summed sum_bits blocks ceil kmax kb t z
thirteen_and_fourteen = (refl, refl, refl)

-- ---- "Take an accepted profile, block length and allocation in which every code block has room": there are some

pub record Room (g : ℕ) : Type 0 where
  pub direct : Roomy toy 1 toy_terms g
  pub hosted : Roomy (lookup_record shelf bare 1 7) 1 toy_terms g

planned : plan_number toy 1 1 ≡ 0
unfolding plan_number other_edition too_many_blocks answered toy number_at sum_below all_below any_below kb m x kind t z offset rows columns table_size table entry kind_right header_right rises sizes_right offset_due offsets_right ends_right shift_right table_right
    well_formed filled filled_between first_column next_due next_column staircase row_ends extension_row extended staircases ceil block_bits kmax summed sum_bits blocks
planned = refl

roomy : (g : ℕ) → Roomy toy 1 toy_terms g → Room g
roomy g h = record { direct = h; hosted = subst (λ (R : List ℕ). Roomy R 1 toy_terms g) (sym looked_up) h }

pub room_128 : Room 128
unfolding misversioned misallocated usable too_few_places some_without_room sendable share spare symbol_places place_bits symbol_places_of coded_bits_of toy number_at any_below first_below kb m x kind t z rows columns ceil block_bits kmax summed sum_bits blocks own_bits
    size_index_for size_index places carried_bits filler
room_128 = roomy 128 (record { taken = planned; version = refl; allocation = refl; enough = refl; room = refl })

pub room_130 : Room 130
unfolding misversioned misallocated usable too_few_places some_without_room sendable share spare symbol_places place_bits symbol_places_of coded_bits_of toy number_at any_below first_below kb m x kind t z rows columns ceil block_bits kmax summed sum_bits blocks own_bits
    size_index_for size_index places carried_bits filler
room_130 = roomy 130 (record { taken = planned; version = refl; allocation = refl; enough = refl; room = refl })

pub room_256 : Room 256
unfolding misversioned misallocated usable too_few_places some_without_room sendable share spare symbol_places place_bits symbol_places_of coded_bits_of toy number_at any_below first_below kb m x kind t z rows columns ceil block_bits kmax summed sum_bits blocks own_bits
    size_index_for size_index places carried_bits filler
room_256 = roomy 256 (record { taken = planned; version = refl; allocation = refl; enough = refl; room = refl })

-- and for each rv of Type 2: octet A5 with G 176
planned-two : plan_number type_two 1 1 ≡ 0
unfolding plan_number other_edition too_many_blocks answered type_two number_at sum_below all_below any_below kb m x kind t z offset rows columns table_size table entry kind_right header_right rises sizes_right offset_due offsets_right ends_right shift_right table_right
    well_formed filled filled_between first_column next_due next_column staircase row_ends extension_row extended staircases ceil block_bits kmax summed sum_bits blocks
planned-two = refl

pub room-two : (rv : ℕ) → rv ≤ 3 → Roomy type_two 1 (terms_of 1 2 1 rv) 176
unfolding misversioned misallocated usable too_few_places some_without_room sendable share spare symbol_places place_bits symbol_places_of coded_bits_of type_two number_at any_below first_below kb m x kind t z rows columns ceil block_bits
    kmax summed sum_bits blocks own_bits size_index_for size_index places carried_bits filler
room-two rv low =
    room_for_each refl (record { taken = planned-two; version = refl; allocation = refl; enough = refl; room = refl }) rv low

-- ---- receptions that are accepted: the 128 bits of P10

sent_128 : radio_bits toy (block_bits 1) (transport (0x01 ∷ [])) toy_terms 128 ≡ unpacked p10_octets
unfolding cases sent_with list_below summed sum_bits blocks ceil kmax kb t z toy number_at block_bits
sent_128 = ap (λ (l : List (List ℕ)). drop 18 (get_or l 9 [])) worked

sent_130 : radio_bits toy (block_bits 1) (transport (0x01 ∷ [])) toy_terms 130 ≡ take 130 (unpacked spare_octets)
unfolding cases sent_with list_below summed sum_bits blocks ceil kmax kb t z toy number_at block_bits
sent_130 = ap (λ (l : List (List ℕ)). drop 18 (get_or l 10 [])) worked

-- a call of `send` that keeps its promise
abbrev answer_of : ℕ → ℕ → Written
answer_of n k = record { number = n; count = when_done n k 0 }

sent_so : (R block : List ℕ) (terms : Terms) (g : ℕ) (out : List ℕ)
    → Sent R block terms g out (answer_of (send_number R block terms g (length out)) g)
    (when_done (send_number R block terms g (length out)) (radio_bits R (block_bits (length block)) (transport block) terms g ++ drop g out) out)
sent_so R block terms g out = record { number = refl; count = refl; output = refl }

-- "receiving the sent bits returns the block", and the octets behind it stay as they were
returned : (R block : List ℕ) (terms : Terms) (g : ℕ) (bits buf : List ℕ) → Roomy R (length block) terms g → AreOctets block → length block ≤ length buf
    → radio_bits R (block_bits (length block)) (transport block) terms g ≡ bits → {r : Written} {buf' : List ℕ} → Received R (8 * length block) terms bits buf r buf'
    → (r.number ≡ 0) × (r.count ≡ length block) × (buf' ≡ block ++ drop (length block) buf)
returned R block terms g bits buf h whole fits e {r} {buf'} v =
    let out : List ℕ = replicate g 0 in
    let s = sent_so R block terms g out in
    let room : g ≤ length out = omega (arith, length-replicate {A = ℕ} g 0) in
    let is = sent_front s (sent_always block h room s).0 ∙ e in
    let got = sent-returns h whole fits room s (subst (λ (l : List ℕ). Received R (8 * length block) terms l buf r buf') (sym is) v) in
    (got.0, got.1, got.3)

one_octet : (n : ℕ) → n < 256 → AreOctets (n ∷ [])
one_octet n low zero = low
one_octet n low (suc k) = lit< tt

pub accepted : {r : Written} {buf' : List ℕ} → Received toy 8 toy_terms (unpacked p10_octets) (0x55 ∷ 0xAA ∷ []) r buf'
    → (r.number ≡ 0) × (r.count ≡ 1) × (buf' ≡ 0x01 ∷ 0xAA ∷ [])
accepted v =
    returned toy (0x01 ∷ []) toy_terms 128 (unpacked p10_octets) (0x55 ∷ 0xAA ∷ []) room_128.direct (one_octet 0x01 (lit< tt)) (lit≤ tt) sent_128 v

-- and with Type 2: what A5 is sent as with rv 3
sent-two : radio_bits type_two (block_bits 1) (transport (0xA5 ∷ [])) (terms_of 1 2 1 3) 176 ≡ unpacked a5_with3
unfolding versions type_two_sent sent_with list_below summed sum_bits blocks ceil kmax kb t z type_two number_at block_bits
sent-two = ap (λ (l : List (List ℕ)). drop 13 (get_or l 8 [])) worked-versions

pub accepted-two : {r : Written} {buf' : List ℕ} → Received type_two 8 (terms_of 1 2 1 3) (unpacked a5_with3) (0x55 ∷ 0xAA ∷ []) r buf'
    → (r.number ≡ 0) × (r.count ≡ 1) × (buf' ≡ 0xA5 ∷ 0xAA ∷ [])
accepted-two v =
    returned type_two (0xA5 ∷ []) (terms_of 1 2 1 3) 176 (unpacked a5_with3) (0x55 ∷ 0xAA ∷ []) (room-two 3 (lit≤ tt)) (one_octet 0xA5 (lit< tt)) (lit≤ tt) sent-two v

-- the same for tenant 1, who has the toy record as number 7
pub hosted-accepted : {r : Written} {buf' : List ℕ} → HostedReceived shelf bare 1 7 8 toy_terms (unpacked p10_octets) (0x55 ∷ 0xAA ∷ []) r buf'
    → (r.number ≡ 0) × (r.count ≡ 1) × (buf' ≡ 0x01 ∷ 0xAA ∷ [])
unfolding lookups
hosted-accepted {r} {buf'} v =
    let z : lookup_number shelf bare 1 7 ≡ 0 = ap (λ (l : List ℕ). get_or l 0 0) lookups-answered in
    accepted (subst (λ (R : List ℕ). Received R 8 toy_terms (unpacked p10_octets) (0x55 ∷ 0xAA ∷ []) r buf') looked_up (v.found z))

-- ---- receptions that are refused with 14

module _ (R : List ℕ) (octets : ℕ) (terms : Terms) (bits : List ℕ) (h : Roomy R octets terms (length bits)) (none : some_over 1 bits ≡ false) where
  receivable : Receivable R octets terms bits
  receivable =
      let ed = terms.edition in
      record {
        taken = h.taken;
        version = h.version;
        allocated = allocated terms (length bits) (blocks R ed (block_bits octets)) h.allocation (plan-cut R ed octets h.taken).some;
        single = over_none_bits bits none;
        room = h.room;
      }

  -- only one list of transport bits can have been sent as them: where no block has it, or it is not sent as them, they are refused
  refused : ((block : List ℕ) → transport block ≡ gathered R (block_bits octets) terms bits → radio_bits R (block_bits octets) (transport block) terms (length bits) ≡ bits → ⊥)
      → {buf : List ℕ} {r : Written} {buf' : List ℕ} → octets ≤ length buf → Received R (8 * octets) terms bits buf r buf' → r.number ≡ 14
  refused other fits v =
      (unsent-exactly h (over_none_bits bits none) fits v).1
      (λ block whole size out w out' room s e.
      let done = (sent_always block (subst (λ (n : ℕ). Roomy R n terms (length bits)) (sym size) h) room s).0 in
      let is : radio_bits R (block_bits (length block)) (transport block) terms (length bits) ≡ bits = sym (sent_front s done) ∙ e in
      other block (block-gathered R octets terms bits receivable block size is)
      (ap (λ (n : ℕ). radio_bits R (block_bits n) (transport block) terms (length bits)) (sym size) ∙ is))

  -- bits that are gathered as those of some block are, but are not what it is sent as
  refused_as : (block : List ℕ) → gathered R (block_bits octets) terms bits ≡ transport block
      → (radio_bits R (block_bits octets) (transport block) terms (length bits) ≡ bits → ⊥)
      → {buf : List ℕ} {r : Written} {buf' : List ℕ} → octets ≤ length buf → Received R (8 * octets) terms bits buf r buf' → r.number ≡ 14
  refused_as block e other fits v =
      refused (λ block q is. other (ap (λ (u : List ℕ). radio_bits R (block_bits octets) u terms (length bits)) (sym e ∙ sym q) ∙ is)) fits v

-- "the checksum": all ones
unfoldable pub ones : List ℕ
ones = replicate 128 1

ones-gathered : testing.checks 24 crc.gen24_a (gathered toy (block_bits 1) toy_terms ones) ≡ false
unfolding ones toy gathered carried_received own_received stretch in_line kept_before matching.turned version_start start_of share_start joined share spare symbol_places place_bits symbol_places_of coded_bits_of number_at digits read_on value_of sum_below first_below any_below reduce divide_on remainder
    checksum attached kb m x kind t z rows columns ceil block_bits kmax summed sum_bits blocks own_bits size_index_for size_index places carried_bits testing.checks
ones-gathered = refl

pub ones-refused : {buf : List ℕ} {r : Written} {buf' : List ℕ} → 1 ≤ length buf → Received toy 8 toy_terms ones buf r buf' → r.number ≡ 14
unfolding ones transport some_over
ones-refused fits v =
    refused toy 1 toy_terms ones room_128.direct refl
    (λ block e is.
    true≢false (sym (checks-complete 24 crc.gen24_a generator_24.below (unpacked block)) ∙ ap (testing.checks 24 crc.gen24_a) e ∙ ones-gathered))
    fits v

-- "all parity rows": the bits of P10 with a parity bit of the first block turned over, the other blocks as they were
unfoldable pub turned : List ℕ
turned = set (unpacked p10_octets) 7 1

-- "equal copies", of a spare symbol too: G 130 gives the first block ten bits, of which the last is turned over
unfoldable pub spared : List ℕ
spared = set (take 130 (unpacked spare_octets)) 9 1

turned-gathered : gathered toy (block_bits 1) toy_terms turned ≡ transport (0x01 ∷ [])
unfolding turned p10_octets toy gathered carried_received own_received stretch in_line kept_before matching.turned version_start start_of share_start joined share spare symbol_places place_bits symbol_places_of coded_bits_of number_at digits unpacked read_on value_of sum_below first_below any_below reduce divide_on
    remainder checksum attached transport kb m x kind t z rows columns ceil block_bits kmax summed sum_bits blocks own_bits size_index_for size_index places carried_bits
turned-gathered = refl

spared-gathered : gathered toy (block_bits 1) toy_terms spared ≡ transport (0x01 ∷ [])
unfolding spared spare_octets toy gathered carried_received own_received stretch in_line kept_before matching.turned version_start start_of share_start joined share spare symbol_places place_bits symbol_places_of coded_bits_of number_at digits unpacked read_on value_of sum_below first_below any_below reduce divide_on
    remainder checksum attached transport kb m x kind t z rows columns ceil block_bits kmax summed sum_bits blocks own_bits size_index_for size_index places carried_bits
spared-gathered = refl

pub turned-refused : {buf : List ℕ} {r : Written} {buf' : List ℕ} → 1 ≤ length buf → Received toy 8 toy_terms turned buf r buf' → r.number ≡ 14
unfolding turned p10_octets digits unpacked some_over
turned-refused fits v =
    refused_as toy 1 toy_terms turned room_128.direct refl (0x01 ∷ []) turned-gathered
    (λ e. let z : ◌≡◌ {A = ℕ} 0 1 = ap (λ (l : List ℕ). get_or l 7 0) (sym (sent_128) ∙ e) in omega arith) fits v

pub spared-refused : {buf : List ℕ} {r : Written} {buf' : List ℕ} → 1 ≤ length buf → Received toy 8 toy_terms spared buf r buf' → r.number ≡ 14
unfolding spared spare_octets digits unpacked some_over
spared-refused fits v =
    refused_as toy 1 toy_terms spared room_130.direct refl (0x01 ∷ []) spared-gathered
    (λ e. let z : ◌≡◌ {A = ℕ} 0 1 = ap (λ (l : List ℕ). get_or l 9 0) (sym sent_130 ∙ e) in omega arith) fits v

-- "equal copies": G 256 gives every block 16 bits, its coded places twice; the last one turned over
unfoldable pub doubled : List ℕ → List ℕ
doubled [] = []
doubled (x ∷ l) = x ∷ x ∷ doubled l

unfoldable pub copied : List ℕ
copied = set (unpacked (doubled p10_octets)) 255 1

sent_256 : radio_bits toy (block_bits 1) (transport (0x01 ∷ [])) toy_terms 256 ≡ unpacked (doubled p10_octets)
unfolding doubled toy p10_octets digits read_on value_of unpacked number_at place_bits symbol_places_of coded_bits_of sum_below parity_below all_below any_below first_below reduce divide_on remainder checksum attached block_bits kb m x kind t z
    offset rows columns table_size table entry ceil kmax summed sum_bits blocks own_bits size_index_for size_index places carried_bits filler square spread bit_at row_even checks with_parity checks_with coded transport own_start own
    with_sum carried with_filler systematic coded_block symbol_places spare share kept list_below matched matching.turned start_of matched_from block_sent joined radio_bits
sent_256 = refl

copied-gathered : gathered toy (block_bits 1) toy_terms copied ≡ transport (0x01 ∷ [])
unfolding doubled copied p10_octets toy gathered carried_received own_received stretch in_line kept_before matching.turned version_start start_of share_start joined share spare symbol_places place_bits symbol_places_of coded_bits_of number_at digits unpacked read_on value_of sum_below first_below any_below reduce
    divide_on remainder checksum attached transport kb m x kind t z rows columns ceil block_bits kmax summed sum_bits blocks own_bits size_index_for size_index places carried_bits
copied-gathered = refl

pub copied-refused : {buf : List ℕ} {r : Written} {buf' : List ℕ} → 1 ≤ length buf → Received toy 8 toy_terms copied buf r buf' → r.number ≡ 14
unfolding doubled copied p10_octets digits unpacked some_over
copied-refused fits v =
    refused_as toy 1 toy_terms copied room_256.direct refl (0x01 ∷ []) copied-gathered
    (λ e. let z : ◌≡◌ {A = ℕ} 0 1 = ap (λ (l : List ℕ). get_or l 255 0) (sym sent_256 ∙ e) in omega arith) fits v

-- ---- edition 2 (document 02, CR 8): octets 01 02 03 with G 138

planned-twenty : plan_number twenty 2 3 ≡ 0
unfolding plan_number other_edition too_many_blocks answered twenty number_at sum_below all_below any_below kb m x kind t z offset rows columns table_size table entry kind_right header_right rises sizes_right offset_due offsets_right ends_right shift_right
    table_right well_formed filled filled_between first_column next_due next_column staircase row_ends extension_row extended staircases ceil block_bits kmax summed sum_bits blocks
planned-twenty = refl

pub room-twenty : Roomy twenty 3 second 138
unfolding misversioned misallocated usable too_few_places some_without_room sendable share spare symbol_places place_bits symbol_places_of coded_bits_of twenty number_at any_below first_below kb m x kind t z rows columns ceil block_bits
    kmax summed sum_bits blocks own_bits size_index_for size_index places carried_bits filler
room-twenty = record { taken = planned-twenty; version = refl; allocation = refl; enough = refl; room = refl }

sent-twenty : radio_bits twenty (block_bits 3) (transport (0x01 ∷ 0x02 ∷ 0x03 ∷ [])) second 138 ≡ take 138 (unpacked three_with2)
unfolding editions twenty_sent sent_with list_below summed sum_bits blocks ceil kmax kb t z twenty number_at block_bits
sent-twenty = ap (λ (l : List (List ℕ)). drop 5 (get_or l 13 [])) worked-editions

sent_noughts : radio_bits twenty (block_bits 3) (transport (0x00 ∷ 0x00 ∷ 0x00 ∷ [])) second 138 ≡ replicate 138 0
unfolding editions twenty_sent sent_with list_below summed sum_bits blocks ceil kmax kb t z twenty number_at block_bits
sent_noughts = ap (λ (l : List (List ℕ)). drop 5 (get_or l 15 [])) worked-editions

three-octets : (a b c : ℕ) → a < 256 → b < 256 → c < 256 → AreOctets (a ∷ b ∷ c ∷ [])
three-octets a b c la lb lc zero = la
three-octets a b c la lb lc (suc zero) = lb
three-octets a b c la lb lc (suc (suc zero)) = lc
three-octets a b c la lb lc (suc (suc (suc k))) = lit< tt

pub accepted-second : {r : Written} {buf' : List ℕ} → Received twenty 24 second (take 138 (unpacked three_with2)) (replicate 4 0x55) r buf'
    → (r.number ≡ 0) × (r.count ≡ 3) × (buf' ≡ 0x01 ∷ 0x02 ∷ 0x03 ∷ 0x55 ∷ [])
accepted-second v =
    returned twenty (0x01 ∷ 0x02 ∷ 0x03 ∷ []) second 138 (take 138 (unpacked three_with2)) (replicate 4 0x55) room-twenty
    (three-octets 0x01 0x02 0x03 (lit< tt) (lit< tt) (lit< tt)) (lit≤ tt) sent-twenty v

-- "Demand 3 holds within one edition, never across two": across two nothing can be said, since what noughts are sent as in edition 1 (`editions`) edition 2
-- takes for noughts
pub accepted_across : {r : Written} {buf' : List ℕ} → Received twenty 24 second (replicate 138 0) (replicate 4 0x55) r buf'
    → (r.number ≡ 0) × (r.count ≡ 3) × (buf' ≡ 0x00 ∷ 0x00 ∷ 0x00 ∷ 0x55 ∷ [])
accepted_across v =
    returned twenty (0x00 ∷ 0x00 ∷ 0x00 ∷ []) second 138 (replicate 138 0) (replicate 4 0x55) room-twenty
    (three-octets 0x00 0x00 0x00 (lit< tt) (lit< tt) (lit< tt)) (lit≤ tt) sent_noughts v

-- "Receiving tests those checksums too": the middle block with 24 other bits behind its own, and with the parity bits that go with them, so that all of its rows
-- are even; the others as they were
unfoldable pub mislaid : List ℕ
mislaid = replicate 46 0 ++ (replicate 16 0 ++ (1 ∷ []) ++ replicate 23 0 ++ (0 ∷ 0 ∷ 1 ∷ 0 ∷ 0 ∷ 0 ∷ [])) ++ replicate 46 0

mislaid-gathered : gathered twenty (block_bits 3) second mislaid ≡ transport (0x00 ∷ 0x00 ∷ 0x00 ∷ [])
unfolding mislaid twenty gathered carried_received own_received stretch in_line kept_before matching.turned version_start start_of share_start joined share spare symbol_places place_bits symbol_places_of coded_bits_of number_at digits unpacked read_on value_of
    sum_below first_below any_below reduce divide_on remainder checksum attached transport kb m x kind t z rows columns ceil block_bits kmax summed sum_bits blocks own_bits size_index_for size_index places carried_bits
mislaid-gathered = refl

mislaid_even : checks (table twenty 0) (rows twenty) (columns twenty) (z twenty 0) (take 46 (drop 46 mislaid)) ≡ true
unfolding mislaid twenty number_at parity_below all_below kb m x kind t z offset rows columns table_size table entry square spread bit_at row_even checks sum_below
mislaid_even = refl

pub mislaid-refused : {buf : List ℕ} {r : Written} {buf' : List ℕ} → 3 ≤ length buf → Received twenty 24 second mislaid buf r buf' → r.number ≡ 14
unfolding mislaid some_over
mislaid-refused fits v =
    refused_as twenty 3 second mislaid room-twenty refl (0x00 ∷ 0x00 ∷ 0x00 ∷ []) mislaid-gathered
    (λ e. let z : ◌≡◌ {A = ℕ} 0 1 = ap (λ (l : List ℕ). get_or l 62 0) (sym sent_noughts ∙ e) in omega arith) fits v

-- ---- the least G of one octet

-- kb 2, m 3, x 0, Type 1 and one z of 3
unfoldable pub uneven : List ℕ
uneven =
    0x00 ∷ 0x02 ∷ 0x00 ∷ 0x03 ∷ 0x00 ∷ 0x00 ∷ 0x00 ∷ 0x01 ∷ 0x00 ∷ 0x01 ∷ 0x00 ∷ 0x03 ∷ 0x00 ∷ 0x0E
    ∷ 0x01 ∷ 0xFF ∷ 0x01 ∷ 0x00 ∷ 0xFF ∷ 0x02 ∷ 0x00 ∷ 0x00 ∷ 0x00 ∷ 0x00 ∷ 0xFF ∷ 0x01 ∷ 0x01 ∷ 0xFF ∷ 0x00 ∷ []

-- what is counted for it: a record that none of 5 to 9, 16 and 19 refuses, C, and the symbol places that its blocks take
record Counted (R : List ℕ) (c n : ℕ) : Type 0 where
  cut : cut_number R 1 toy_terms 0 ≡ 0
  count : blocks R 1 (block_bits 1) ≡ c
  places : places_for_all R (block_bits 1) toy_terms ≡ n

-- to unfold this is to unfold all that is counted with
counting : ℕ → ℕ
unfolding toy uneven cut_number other_edition too_many_blocks answered places_for_all places_for sendable number_at sum_below all_below any_below first_below kb m x kind t z offset rows columns table_size table entry kind_right header_right rises sizes_right
    offset_due offsets_right ends_right shift_right table_right well_formed filled filled_between first_column next_due next_column staircase row_ends extension_row extended staircases ceil block_bits kmax summed sum_bits blocks own_bits size_index_for
    size_index places carried_bits filler misversioned misallocated usable place_bits
counting n = n

toy-counted : Counted toy 16 64
unfolding counting
toy-counted = record { cut = refl; count = refl; places = refl }

uneven-counted : Counted uneven 6 44
unfolding counting
uneven-counted = record { cut = refl; count = refl; places = refl }

told : (R : List ℕ) (c n : ℕ) → Counted R c n → n ≤ 32768
    → LeastRoom R 1 toy_terms
    (record { number = 0; bits = record { 0 = 2 * n }; blocks = c; larger = n % c; first = share toy_terms (2 * n) c 0; last = share toy_terms (2 * n) c (c - 1) })
unfolding place_bits
told R c n h most =
    last_done R 1 toy_terms h.cut (rw h.places most) _ refl (rw h.places) (sym h.count) (rw (h.places, h.count)) refl refl

-- the toy cuts it into 16 blocks of 8 bits, so 128 are the least
pub least-told : LeastRoom toy 1 toy_terms
    (record { number = 0; bits = record { 0 = 128 }; blocks = 16; larger = 0; first = record { 0 = 8 }; last = record { 0 = 8 } })
unfolding share spare symbol_places symbol_places_of coded_bits_of ceil place_bits
least-told = told toy 16 64 toy-counted (lit≤ tt)

-- `uneven` into six, the first two of 15 bits and the others of 14: 88 are
pub uneven-told : LeastRoom uneven 1 toy_terms
    (record { number = 0; bits = record { 0 = 88 }; blocks = 6; larger = 2; first = record { 0 = 16 }; last = record { 0 = 14 } })
unfolding share spare symbol_places symbol_places_of coded_bits_of ceil place_bits
uneven-told = told uneven 6 44 uneven-counted (lit≤ tt)
