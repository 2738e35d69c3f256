-- "The cases marked P are checked against the definitions by a single table and a single statement", those of Type 2 by a second and those of the editions by a
-- third: the tables are in specs/Worked.
use mathlib.Core.Path.{◌≡◌, refl, sym, ap, ap₂, ◌∙◌}
use mathlib.Core.Bool.{Bool, true, false, not, ◌&&◌}
use mathlib.Core.List.{List, [], ◌∷◌, ◌++◌, map}
use Prim.Native.Nat.{ℕ, ◌+◌, ◌-◌, ◌*◌, ◌≤◌, ◌<◌}
use native.Mathlib.Omega.{arith}
use borrow.Author.Tests.{eqb-true}
use lib.Dec.{eqb, lit<, lit≤}
use lib.ListN.{length, get_or, take, drop, replicate}
use lib.Seq.{get_or-drop, length-take-le}
use Rattle.bits.specs.Bits.{same, some_over, digits, read_on, value_of, unpacked, number_at, with_filler}
use Rattle.bits.specs.Counts.{ceil, place_bits, symbol_places_of, coded_bits_of}
use Rattle.bits.specs.Ranges.{sum_below, parity_below, all_below, any_below, first_below, list_below}
use Rattle.bits.specs.Numbers.{answered}
use Rattle.bits.specs.declared.count.Terms.{Terms}
use Rattle.bits.proofs.Lists.{same_equal}
use Rattle.bits.proofs.Over.{none_over}
use Rattle.bits.proofs.Ranges.{both, all-at}
use Rattle.checksum.specs.Crc.{reduce, divide_on, remainder, checksum, attached}
use Rattle.checksum.proofs.Fold.{checksum-empty}
use Rattle.profile.specs.Record.{kb, m, x, kind, t, z, offset, rows, columns, table_size, table, entry, kind_right, header_right, rises, sizes_right, offset_due, offsets_right, ends_right, shift_right, table_right, well_formed}
use Rattle.profile.specs.Staircase.{filled, filled_between, first_column, next_due, next_column, staircase, row_ends, extension_row, extended, staircases}
use Rattle.profile.specs.Promises.{judged}
use Rattle.cutting.specs.Plan.{block_bits, kmax, summed, sum_bits, blocks, too_many_blocks, own_bits, size_index_for, size_index, places, carried_bits, filler}
use Rattle.cutting.specs.Transport.{transport}
use Rattle.cutting.specs.Cutting.{own_start, own, with_sum, carried, systematic}
use Rattle.parity.specs.Matrix.{square, spread, bit_at, row_even, checks}
use Rattle.parity.specs.Coded.{with_parity, checks_with, coded}
use Rattle.parity.proofs.Coded.{coded-unique}
use Rattle.parity.proofs.Ready.{table-stairs}
use Rattle.matching.specs.Matching.{kept, matched, turned, start_of, matched_from}
use Rattle.coding.specs.Blocks.{coded_block}
use Rattle.coding.specs.Allocation.{symbol_places, spare, share}
use Rattle.coding.specs.Joining.{block_sent, joined, radio_bits}
use Rattle.coding.proofs.Joining.{joined_same}
use Rattle.demands.specs.Worked.{toy, p10_octets, spare_octets, c0_with130, c0_with134, c0_with126, toy_word, sent_with, toy_sent, Case, cases, type_two, type_two_word, last_places, type_two_matched, type_two_sent, a5_with0, a5_with1, a5_with2, a5_with3, versions, twenty, twelve, one_of, cut_with, too_many_with, nine_digits, twenty_sent, three_with1, three_with2, editions, computed, due}

-- to unfold this is to unfold all that stands between a case and its numbers
all-computed : Case → List ℕ
unfolding cases toy p10_octets spare_octets c0_with130 c0_with134 c0_with126 toy_word sent_with digits read_on value_of unpacked number_at ceil place_bits symbol_places_of coded_bits_of sum_below parity_below
    all_below any_below first_below reduce divide_on remainder checksum attached kb m x kind t z offset rows columns table_size table entry block_bits kmax summed sum_bits blocks own_bits size_index_for size_index
    places carried_bits filler square spread bit_at row_even checks with_parity checks_with coded transport own_start own with_sum carried with_filler systematic coded_block symbol_places spare share kept list_below matched turned start_of matched_from
    block_sent joined radio_bits
all-computed = computed

-- ---- the transport bits of octets 01 and C0, divided once: the rows below would divide again at every bit

one_bits : List ℕ
one_bits = 0 ∷ 0 ∷ 0 ∷ 0 ∷ 0 ∷ 0 ∷ 0 ∷ 1 ∷ 1 ∷ 0 ∷ 0 ∷ 0 ∷ 0 ∷ 1 ∷ 1 ∷ 0 ∷ 0 ∷ 1 ∷ 0 ∷ 0 ∷ 1 ∷ 1 ∷ 0 ∷ 0 ∷ 1 ∷ 1 ∷ 1 ∷ 1 ∷ 1 ∷ 0 ∷ 1 ∷ 1 ∷ []

c0_bits : List ℕ
c0_bits = 1 ∷ 1 ∷ 0 ∷ 0 ∷ 0 ∷ 0 ∷ 0 ∷ 0 ∷ 0 ∷ 0 ∷ 1 ∷ 0 ∷ 1 ∷ 0 ∷ 1 ∷ 0 ∷ 1 ∷ 1 ∷ 1 ∷ 0 ∷ 0 ∷ 1 ∷ 0 ∷ 0 ∷ 0 ∷ 1 ∷ 1 ∷ 1 ∷ 0 ∷ 1 ∷ 1 ∷ 0 ∷ []

transport-one : transport (0x01 ∷ []) ≡ one_bits
unfolding all-computed one_bits
transport-one = refl

transport_c0 : transport (0xC0 ∷ []) ≡ c0_bits
unfolding all-computed c0_bits
transport_c0 = refl

-- ---- the table

words : map computed (take 9 cases) ≡ map due (take 9 cases)
unfolding all-computed
words = refl

abbrev sendings : List ℕ → List ℕ → List (List ℕ)
sendings one c0 = toy_sent one 128 ∷ toy_sent one 130 ∷ toy_sent c0 130 ∷ toy_sent c0 134 ∷ toy_sent c0 126 ∷ []

sent : sendings one_bits c0_bits ≡ map due (drop 9 cases)
unfolding all-computed one_bits c0_bits
sent = refl

pub worked : map computed cases ≡ map due cases
unfolding cases
worked = ap₂ (λ (x y : List (List ℕ)). x ++ y) words (ap₂ sendings transport-one transport_c0 ∙ sent)

-- "the checksum of an empty input is 0", of every width
pub empty : (w g : ℕ) → checksum w g [] ≡ 0
empty w g = checksum-empty w g

-- ---- coded blocks of the first table of a record, of z 2 and 3: no choice of parity bits is searched for; a word that checks is the coded block, as there is
-- only one

-- to unfold this is to unfold the records
all_parts : ℕ → ℕ
unfolding type_two twenty number_at kb m x kind t z offset rows columns table_size table entry
all_parts n = n

two-judged : judged type_two ≡ 0
unfolding all_parts judged answered sum_below all_below kind_right header_right rises sizes_right offset_due offsets_right ends_right shift_right table_right well_formed filled filled_between
    first_column next_due next_column staircase row_ends extension_row extended staircases
two-judged = refl

twenty-judged : judged twenty ≡ 0
unfolding all_parts judged answered sum_below all_below kind_right header_right rises sizes_right offset_due offsets_right ends_right shift_right table_right well_formed filled filled_between
    first_column next_due next_column staircase row_ends extension_row extended staircases
twenty-judged = refl

-- each has one table, and parity places behind the systematic ones
twenty-some : 0 < t twenty
unfolding all_parts
twenty-some = lit< tt

twenty-room : kb twenty * z twenty 0 ≤ columns twenty * z twenty 0
unfolding all_parts
twenty-room = lit≤ tt

not_true : (b : Bool) → not b ≡ true → b ≡ false
not_true true h = sym h
not_true false h = refl

module _ (R : List ℕ) where
  -- the systematic places and all places
  abbrev front-places : ℕ
  front-places = kb R * z R 0

  abbrev all-places : ℕ
  all-places = columns R * z R 0

  -- w has these places in front, then bits, and checks
  abbrev fronted : List ℕ → List ℕ → Bool
  fronted places w = same (take front-places w) places

  abbrev sized : List ℕ → Bool
  sized w = eqb (length w) all-places && not (some_over 1 (drop front-places w))

  abbrev checked : List ℕ → Bool
  checked w = checks (table R 0) (rows R) (columns R) (z R 0) w

  unfoldable right : List ℕ → List ℕ → Bool
  right places w = fronted places w && (sized w && checked w)

  module _ (accepted : judged R ≡ 0) (some : 0 < t R) (room : kb R * z R 0 ≤ columns R * z R 0) (places w : List ℕ) (e : right places w ≡ true) where
    parts : (fronted places w ≡ true) × (sized w && checked w ≡ true)
    unfolding right
    parts = both (fronted places w) (sized w && checked w) e

    front : take front-places w ≡ places
    front = same_equal (take front-places w) places parts.0

    tested : (sized w ≡ true) × (checked w ≡ true)
    tested = both (sized w) (checked w) parts.1

    long : length w ≡ all-places
    long = eqb-true (length w) all-places (both (eqb (length w) all-places) (not (some_over 1 (drop front-places w))) tested.0).0

    low : some_over 1 (drop front-places w) ≡ false
    low = not_true (some_over 1 (drop front-places w)) (both (eqb (length w) all-places) (not (some_over 1 (drop front-places w))) tested.0).1

    bits-behind : (p : ℕ) → front-places ≤ p → get_or w p 0 < 2
    bits-behind p h =
        let at : front-places + (p - front-places) ≡ p = omega arith in
        let bit : get_or (drop front-places w) (p - front-places) 0 ≤ 1 = none_over 1 (drop front-places w) low (p - front-places) in
        omega (arith, bit, get_or-drop front-places w (p - front-places) 0, ap (λ (q : ℕ). get_or w q 0) at)

    is-coded : coded (table R 0) (rows R) (columns R) (z R 0) places ≡ w
    is-coded =
        let size : length places ≡ front-places = ap length (sym front) ∙ length-take-le front-places w (omega (arith, long)) in
        sym (coded-unique (table R 0) (rows R) (columns R) (z R 0) places (kb R) size (table-stairs R accepted 0 some) w long front bits-behind tested.1)

-- what transport bits are sent as, once their coded blocks are known
sent-words : (R : List ℕ) (b : ℕ) (bits : List ℕ) (terms : Terms) (g : ℕ) (word : ℕ → List ℕ)
    → ((r : ℕ) → r < blocks R terms.edition b → coded_block R terms.edition b bits r ≡ word r)
    → radio_bits R b bits terms g
    ≡ joined (blocks R terms.edition b) (λ r. matched_from (kind R) terms.rv (word r) (share terms g (blocks R terms.edition b) r).0)
unfolding radio_bits block_sent
sent-words R b bits terms g word is =
    joined_same _ _ (blocks R terms.edition b)
    (λ r l. ap (λ (w : List ℕ). matched_from (kind R) terms.rv w (share terms g (blocks R terms.edition b) r).0) (is r l))

-- ---- Type 2 (document 02, CR 3)

-- the transport bits of A5, and the coded blocks that they are cut into
a5_bits : List ℕ
a5_bits = 1 ∷ 0 ∷ 1 ∷ 0 ∷ 0 ∷ 1 ∷ 0 ∷ 1 ∷ 0 ∷ 0 ∷ 1 ∷ 0 ∷ 1 ∷ 0 ∷ 1 ∷ 0 ∷ 0 ∷ 0 ∷ 1 ∷ 1 ∷ 1 ∷ 1 ∷ 0 ∷ 0 ∷ 0 ∷ 1 ∷ 0 ∷ 1 ∷ 0 ∷ 1 ∷ 1 ∷ 1 ∷ []

last_word : List ℕ
last_word = 1 ∷ 1 ∷ 2 ∷ 0 ∷ 0 ∷ 0 ∷ 1 ∷ 1 ∷ 0 ∷ 1 ∷ 0 ∷ 1 ∷ 0 ∷ 1 ∷ 1 ∷ []

a5_words : List (List ℕ)
a5_words =
    let w101 : List ℕ = 1 ∷ 0 ∷ 1 ∷ 0 ∷ 0 ∷ 0 ∷ 1 ∷ 0 ∷ 1 ∷ 0 ∷ 1 ∷ 1 ∷ 1 ∷ 1 ∷ 0 ∷ [] in
    let w010 : List ℕ = 0 ∷ 1 ∷ 0 ∷ 1 ∷ 1 ∷ 1 ∷ 1 ∷ 0 ∷ 1 ∷ 0 ∷ 1 ∷ 1 ∷ 0 ∷ 0 ∷ 1 ∷ [] in
    w101
    ∷ (0 ∷ 0 ∷ 1 ∷ 1 ∷ 1 ∷ 1 ∷ 1 ∷ 1 ∷ 0 ∷ 1 ∷ 0 ∷ 1 ∷ 1 ∷ 0 ∷ 0 ∷ [])
    ∷ w010
    ∷ w010
    ∷ w101
    ∷ replicate 15 0
    ∷ (1 ∷ 1 ∷ 1 ∷ 1 ∷ 1 ∷ 1 ∷ 0 ∷ 0 ∷ 0 ∷ 0 ∷ 0 ∷ 0 ∷ 1 ∷ 1 ∷ 1 ∷ [])
    ∷ (1 ∷ 0 ∷ 0 ∷ 1 ∷ 1 ∷ 1 ∷ 0 ∷ 1 ∷ 1 ∷ 1 ∷ 1 ∷ 0 ∷ 0 ∷ 1 ∷ 0 ∷ [])
    ∷ w010
    ∷ w101
    ∷ last_word
    ∷ []

a5_word : ℕ → List ℕ
a5_word r = get_or a5_words r []

transport_a5 : transport (0xA5 ∷ []) ≡ a5_bits
unfolding all-computed a5_bits
transport_a5 = refl

words_right : all_below 11 (λ r. right type_two (systematic type_two 1 32 a5_bits r) (a5_word r)) ≡ true
unfolding all-computed all_parts right a5_bits a5_word a5_words last_word same some_over
words_right = refl

type_two-coded : (places w : List ℕ) → right type_two places w ≡ true → type_two_word places ≡ w
unfolding type_two_word all_parts
type_two-coded places w e = is-coded type_two two-judged (lit< tt) (lit≤ tt) places w e

block-right : (r : ℕ) → r < 11 → coded_block type_two 1 32 a5_bits r ≡ a5_word r
unfolding coded_block type_two_word size_index size_index_for first_below t number_at type_two any_below ceil blocks sum_bits summed kmax kb z
block-right r l =
    type_two-coded (systematic type_two 1 32 a5_bits r) (a5_word r) (all-at 11 (λ r. right type_two (systematic type_two 1 32 a5_bits r) (a5_word r)) words_right r l)

-- so no coded block is left in what A5 is sent as
abbrev two_terms : ℕ → Terms
two_terms rv = record { nl = 1; qm = 2; rv = rv; edition = 1 }

abbrev laid : ℕ → List ℕ
laid rv = 32 ∷ 11 ∷ list_below 11 (λ r. (share (two_terms rv) 176 11 r).0) ++ joined 11 (λ r. matched_from 2 rv (a5_word r) (share (two_terms rv) 176 11 r).0)

sent-two : (rv : ℕ) → type_two_sent a5_bits rv ≡ laid rv
unfolding all_parts type_two_sent sent_with block_bits blocks sum_bits summed ceil kmax
sent-two rv =
    ap (λ (l : List ℕ). 32 ∷ 11 ∷ list_below 11 (λ r. (share (two_terms rv) 176 11 r).0) ++ l) (sent-words type_two 32 a5_bits (two_terms rv) 176 a5_word block-right)

-- ---- the second table

abbrev matchings : List ℕ → List (List ℕ)
matchings w = w ∷ matched_from 2 0 w 16 ∷ matched_from 2 1 w 16 ∷ matched_from 2 2 w 16 ∷ matched_from 2 3 w 16 ∷ []

last-right : right type_two last_places last_word ≡ true
unfolding all-computed all_parts right last_places last_word same some_over
last-right = refl

matched-two : matchings last_word ≡ map due (take 5 versions)
unfolding all-computed last_word versions
matched-two = refl

abbrev each : (ℕ → List ℕ) → List (List ℕ)
each f = f 0 ∷ f 1 ∷ f 2 ∷ f 3 ∷ []

each_same : (f g : ℕ → List ℕ) → ((rv : ℕ) → f rv ≡ g rv) → each f ≡ each g
each_same f g h = rw (h 0, h 1, h 2, h 3)

laid-right : each laid ≡ map due (drop 5 versions)
unfolding all-computed a5_word a5_words last_word versions a5_with0 a5_with1 a5_with2 a5_with3
laid-right = refl

pub worked-versions : map computed versions ≡ map due versions
unfolding versions type_two_matched all_parts
worked-versions =
    ap₂ (λ (x y : List (List ℕ)). x ++ y) (ap matchings (type_two-coded last_places last_word last-right) ∙ matched-two)
    (ap (λ (u : List ℕ). each (type_two_sent u)) transport_a5 ∙ each_same (type_two_sent a5_bits) laid sent-two ∙ laid-right)

-- ---- editions (document 02, CR 8)

-- the transport bits of 01 02 03
three_bits : List ℕ
three_bits =
    0 ∷ 0 ∷ 0 ∷ 0 ∷ 0 ∷ 0 ∷ 0 ∷ 1 ∷ 0 ∷ 0 ∷ 0 ∷ 0 ∷ 0 ∷ 0 ∷ 1 ∷ 0 ∷ 0 ∷ 0 ∷ 0 ∷ 0 ∷ 0 ∷ 0 ∷ 1 ∷ 1
    ∷ 0 ∷ 1 ∷ 0 ∷ 0 ∷ 0 ∷ 0 ∷ 1 ∷ 0 ∷ 1 ∷ 0 ∷ 0 ∷ 0 ∷ 1 ∷ 1 ∷ 1 ∷ 0 ∷ 1 ∷ 0 ∷ 1 ∷ 1 ∷ 0 ∷ 0 ∷ 0 ∷ 1 ∷ []

transport-three : transport (0x01 ∷ 0x02 ∷ 0x03 ∷ []) ≡ three_bits
unfolding all-computed three_bits
transport-three = refl

transport_noughts : transport (0x00 ∷ 0x00 ∷ 0x00 ∷ []) ≡ replicate 48 0
unfolding all-computed
transport_noughts = refl

-- its coded blocks: 24 own bits, filler and six parity bits, once in front of a stretch of 70 bits; and all 46 places, each a stretch
word_one : ℕ → List ℕ
word_one r = let s = drop (70 * r) (unpacked three_with1) in take 24 s ++ replicate 16 2 ++ take 6 (drop 24 s)

word_two : ℕ → List ℕ
word_two r = take 46 (drop (46 * r) (unpacked three_with2))

-- and of noughts
nought_one : ℕ → List ℕ
nought_one r = replicate 24 0 ++ replicate 16 2 ++ replicate 6 0

nought_two : ℕ → List ℕ
nought_two r = replicate 46 0

abbrev right_words : ℕ → List ℕ → ℕ → (ℕ → List ℕ) → Bool
right_words ed bits c word = all_below c (λ r. right twenty (systematic twenty ed 48 bits r) (word r))

words-twenty : (right_words 1 three_bits 2 word_one ≡ true) × (right_words 2 three_bits 3 word_two ≡ true)
    × (right_words 1 (replicate 48 0) 2 nought_one ≡ true) × (right_words 2 (replicate 48 0) 3 nought_two ≡ true)
unfolding all-computed all_parts right three_bits three_with1 three_with2 word_one word_two nought_one nought_two same some_over
words-twenty = (refl, refl, refl, refl)

abbrev twenty_terms : ℕ → Terms
twenty_terms ed = record { nl = 1; qm = 2; rv = 0; edition = ed }

-- what is sent of c blocks with these words
abbrev laid_twenty : ℕ → ℕ → (ℕ → List ℕ) → List ℕ
laid_twenty ed c word =
    48 ∷ c ∷ list_below c (λ r. (share (twenty_terms ed) 138 c r).0) ++ joined c (λ r. matched_from 1 0 (word r) (share (twenty_terms ed) 138 c r).0)

module _ (ed : ℕ) (bits : List ℕ) (c : ℕ) (word : ℕ → List ℕ) (count : blocks twenty ed 48 ≡ c) (size : size_index twenty ed 48 ≡ 0)
    (right-words : right_words ed bits c word ≡ true) where
  twenty-block : (r : ℕ) → r < blocks twenty ed 48 → coded_block twenty ed 48 bits r ≡ word r
  unfolding coded_block
  twenty-block r l =
      rw size (is-coded twenty twenty-judged twenty-some twenty-room (systematic twenty ed 48 bits r) (word r)
      (all-at c (λ r. right twenty (systematic twenty ed 48 bits r) (word r)) right-words r (omega arith)))

  sent-twenty : twenty_sent bits ed ≡ laid_twenty ed c word
  unfolding twenty_sent sent_with block_bits kind number_at twenty
  sent-twenty =
      ap (λ (l : List ℕ). 48 ∷ blocks twenty ed 48 ∷ list_below (blocks twenty ed 48) (λ r. (share (twenty_terms ed) 138 (blocks twenty ed 48) r).0) ++ l)
      (sent-words twenty 48 bits (twenty_terms ed) 138 word twenty-block)
      ∙ ap (λ (n : ℕ). laid_twenty ed n word) count

-- ---- the third table

counted : map computed (take 12 editions) ≡ map due (take 12 editions)
unfolding all-computed all_parts editions nine_digits twelve one_of cut_with too_many_with too_many_blocks
counted = refl

cut-twenty : (blocks twenty 1 48 ≡ 2) × (size_index twenty 1 48 ≡ 0) × (blocks twenty 2 48 ≡ 3) × (size_index twenty 2 48 ≡ 0)
unfolding all-computed all_parts
cut-twenty = (refl, refl, refl, refl)

abbrev four : (ℕ → List ℕ → List ℕ) → List ℕ → List ℕ → List (List ℕ)
four f u v = f 1 u ∷ f 2 u ∷ f 1 v ∷ f 2 v ∷ []

laid-twenty : laid_twenty 1 2 word_one ∷ laid_twenty 2 3 word_two ∷ laid_twenty 1 2 nought_one ∷ laid_twenty 2 3 nought_two ∷ [] ≡ map due (drop 12 editions)
unfolding all-computed editions three_with1 three_with2 word_one word_two nought_one nought_two
laid-twenty = refl

sent-four : four (λ ed u. twenty_sent u ed) three_bits (replicate 48 0) ≡ map due (drop 12 editions)
sent-four =
    rw (
      sent-twenty 1 three_bits 2 word_one cut-twenty.0 cut-twenty.1 words-twenty.0,
      sent-twenty 2 three_bits 3 word_two cut-twenty.2 cut-twenty.3 words-twenty.1,
      sent-twenty 1 (replicate 48 0) 2 nought_one cut-twenty.0 cut-twenty.1 words-twenty.2,
      sent-twenty 2 (replicate 48 0) 3 nought_two cut-twenty.2 cut-twenty.3 words-twenty.3,
    )
    laid-twenty

pub worked-editions : map computed editions ≡ map due editions
unfolding editions
worked-editions =
    ap₂ (λ (x y : List (List ℕ)). x ++ y) counted (ap₂ (λ (u v : List ℕ). four (λ ed w. twenty_sent w ed) u v) transport-three transport_noughts ∙ sent-four)
