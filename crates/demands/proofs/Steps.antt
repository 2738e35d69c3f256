-- What a transport block is sent as follows the six steps of document 01, and no other bits do.
use mathlib.Core.Path.{◌≡◌, refl, sym, ap, ap₂, ◌∙◌, subst}
use mathlib.Core.Bool.{cond}
use mathlib.Core.List.{List}
use Prim.Native.Nat.{ℕ, ◌-◌, ◌*◌, ◌/◌, ◌<◌}
use native.Mathlib.Nat.{add-mul}
use native.Mathlib.Omega.{arith}
use lib.Dec.{eqb}
use lib.ListN.{length, get_or, take, drop, replicate, length-append, length-replicate}
use lib.Seq.{take_all}
use Rattle.bits.specs.Counts.{symbol_places_of, coded_bits_of}
use Rattle.bits.specs.Ranges.{sum_below}
use Rattle.bits.specs.Bits.{with_filler}
use Rattle.bits.specs.declared.count.Terms.{Terms}
use Rattle.bits.proofs.Ranges.{equal_or, below_or}
use Rattle.bits.proofs.Sums.{sum_same}
use Rattle.checksum.specs.Crc.{attached}
use Rattle.profile.specs.Record.{kb, m, kind, rows, columns, z, table}
use Rattle.profile.proofs.Shape.{columns_is}
use Rattle.cutting.specs.Plan.{block_bits, kmax, sum_bits, blocks, own_bits, size_index, places}
use Rattle.cutting.specs.Promises.{plan_number}
use Rattle.cutting.specs.Transport.{transport}
use Rattle.cutting.specs.Cutting.{own_start, own, carried, systematic}
use Rattle.cutting.proofs.Summed.{sum-none, sum-single, sum-there, without_sum, with_its_sum}
use Rattle.cutting.proofs.Carried.{carried_fits, own-size, carried-size}
use Rattle.cutting.proofs.Plans.{Cut, plan-passed, plan-cut}
use Rattle.cutting.proofs.Transported.{length-transport, transport-bits}
use Rattle.parity.specs.Matrix.{checks}
use Rattle.parity.specs.Coded.{coded}
use Rattle.parity.proofs.Coded.{coded-length, coded-take, coded-bits, coded-checks, coded-unique}
use Rattle.parity.proofs.Ready.{table-stairs}
use Rattle.parity.proofs.Rows.{Solvable}
use Rattle.matching.specs.Matching.{matched, turned, start_of, matched_from}
use Rattle.matching.proofs.Heard.{matched-length}
use Rattle.coding.specs.Blocks.{coded_block}
use Rattle.coding.specs.Allocation.{symbol_places, spare, share}
use Rattle.coding.specs.Joining.{block_sent, joined, radio_bits}
use Rattle.coding.specs.Steps.Shares.{Allocated}
use Rattle.coding.proofs.Shares.{shares_all}
use Rattle.coding.proofs.Joining.{length-joined, joined-stretch, joined_same, joined-cut}
use Rattle.coding.proofs.RoundTrip.{sent-length, sent-bits}
use Rattle.demands.specs.Steps.{block_count, block_places, block_index, all_places, block_share, coded_length, block_start, Carries, Word, Steps}

module _ (R : List ℕ) (ed : ℕ) (block : List ℕ) (taken : plan_number R ed (length block) ≡ 0) where
  abbrev u : List ℕ
  u = transport block

  abbrev b : ℕ
  b = block_bits (length block)

  abbrev c : ℕ
  c = blocks R ed b

  abbrev i : ℕ
  i = size_index R ed b

  cut : Cut R ed b
  cut = plan-cut R ed (length block) taken

  size : length u ≡ b
  size = length-transport block

  mine : ℕ → ℕ
  mine = own_bits b c

  -- ---- the own bits

  own_is : (r : ℕ) → own R ed b u r ≡ take (mine r) (drop (own_start R ed b r) u)
  unfolding own mine
  own_is r = refl

  own-sized : (r : ℕ) → r < c → length (own R ed b u r) ≡ mine r
  unfolding mine
  own-sized = own-size R ed b u cut size

  own-together : joined c (own R ed b u) ≡ u
  unfolding own_start mine
  own-together =
      joined_same (own R ed b u) (λ r. take (mine r) (drop (own_start R ed b r) u)) c (λ r l. own_is r) ∙ joined-cut mine u c
      ∙ ap (λ (n : ℕ). take n u) cut.own_sum ∙ take_all b u (omega (arith, size))

  -- ---- what a block carries

  abbrev load : ℕ → List ℕ
  load r = carried R ed b u r

  load-carries : (r : ℕ) → Carries R ed (length block) (own R ed b u r) (load r)
  unfolding carried attached
  load-carries r =
      let mine = own R ed b u r in
      record {
        alone = λ n. without_sum (sum_bits R ed b) mine (sum-none R ed b n);
        single = λ h. without_sum (sum_bits R ed b) mine (sum-single R ed b h);
        followed = λ e h. with_its_sum (sum_bits R ed b) mine (λ z. omega (arith, sum-there R ed b e h));
      }

  -- and nothing else
  load-only : (r : ℕ) (s : List ℕ) → Carries R ed (length block) (own R ed b u r) s → s ≡ load r
  load-only r s h =
      let mine = load-carries r in
      equal_or ed 2 (λ e. below_or (kmax R) b (λ l. h.followed e l ∙ sym (mine.followed e l)) (λ l. h.single l ∙ sym (mine.single l)))
      (λ n. h.alone n ∙ sym (mine.alone n))

  -- ---- the coded block

  abbrev sys : ℕ → List ℕ
  sys r = systematic R ed b u r

  pub sys_size : (r : ℕ) → r < c → length (sys r) ≡ kb R * z R i
  unfolding systematic with_filler
  sys_size r l =
      let o = length (load r) in
      length-append (load r) (replicate (places R ed b - o) 2)
      ∙ omega (arith, carried-size R ed b u cut size r l, length-replicate {A = ℕ} (places R ed b - o) 2, cut.product, carried_fits R ed b cut r)

  abbrev word : ℕ → List ℕ
  word r = coded_block R ed b u r

  word_is : (r : ℕ) → word r ≡ coded (table R i) (rows R) (columns R) (z R i) (sys r)
  unfolding coded_block
  word_is r = refl

  pub stairs : Solvable (table R i) (kb R) (m R) (rows R) (columns R)
  stairs = table-stairs R (plan-passed R ed (length block) taken).0 i cut.size

  word-coded : (r : ℕ) → r < c → Word R ed (length block) (load r) (word r)
  unfolding block_places block_index coded_length systematic with_filler
  word-coded r l =
      record {
        systematic = ap (take (places R ed b)) (word_is r)
            ∙ ap (λ (n : ℕ). take n (coded (table R i) (rows R) (columns R) (z R i) (sys r))) cut.product
            ∙ coded-take (table R i) (rows R) (columns R) (z R i) (sys r) (kb R) (sys_size r l);
        long = ap length (word_is r) ∙ coded-length (table R i) (rows R) (columns R) (z R i) (sys r) (kb R) (sys_size r l) (columns_is R)
            ∙ omega (arith, cut.product, ap (λ (n : ℕ). n * z R i) (columns_is R), add-mul (kb R) (rows R) (z R i));
        parity = λ p h.
            subst (λ (w : List ℕ). get_or w p 0 < 2) (sym (word_is r))
            (coded-bits (table R i) (rows R) (columns R) (z R i) (sys r) (kb R) (sys_size r l) p (omega (arith, cut.product)));
        checked = ap (checks (table R i) (rows R) (columns R) (z R i)) (word_is r)
            ∙ coded-checks (table R i) (rows R) (columns R) (z R i) (sys r) (kb R) (sys_size r l) stairs;
      }

  -- a word of what is carried is the coded block
  word-only : (r : ℕ) (w : List ℕ) → r < c → Word R ed (length block) (load r) w → w ≡ word r
  unfolding block_places block_index coded_length systematic with_filler
  word-only r w l h =
      let front : take (kb R * z R i) w ≡ sys r =
      ap (λ (n : ℕ). take n w) (sym cut.product) ∙ h.systematic in
      coded-unique (table R i) (rows R) (columns R) (z R i) (sys r) (kb R) (sys_size r l) stairs w
      (h.long ∙ omega (arith, cut.product, ap (λ (n : ℕ). n * z R i) (columns_is R), add-mul (kb R) (rows R) (z R i))) front (λ p k. h.parity p (omega (arith, cut.product))) h.checked
      ∙ sym (word_is r)

-- ---- the radio bits

module _ (R block : List ℕ) (terms : Terms) (taken : plan_number R terms.edition (length block) ≡ 0) (g : ℕ)
    (given : Allocated terms g (blocks R terms.edition (block_bits (length block)))) where
  abbrev ed : ℕ
  ed = terms.edition

  abbrev bits_of : List ℕ
  bits_of = radio_bits R (block_bits (length block)) (transport block) terms g

  abbrev count : ℕ
  count = blocks R ed (block_bits (length block))

  abbrev e : ℕ → ℕ
  e = block_share R (length block) terms g

  abbrev start : ℕ
  start = block_start R (length block) terms

  f : ℕ → List ℕ
  f r = matched (turned start (word R ed block taken r)) (e r)

  share-is : (r : ℕ) → (share terms g count r).0 ≡ e r
  unfolding share spare coded_bits_of symbol_places symbol_places_of all_places block_share block_count
  share-is r = refl

  block-is : (r : ℕ) → r < count → block_sent R (block_bits (length block)) (transport block) terms g r ≡ f r
  unfolding f block_sent matched_from start_of block_start
  block-is r l =
      ap₂ (λ (d n : ℕ). matched (turned (cond (eqb (kind R) 2) (d / 4 * terms.rv) 0) (word R ed block taken r)) n) (word-coded R ed block taken r l).long (share-is r)

  f-size : (r : ℕ) → length (f r) ≡ e r
  unfolding f
  f-size r = matched-length (turned start (word R ed block taken r)) (e r)

  f-joined : (n : ℕ) → length (joined n f) ≡ sum_below n e
  f-joined n = length-joined f n ∙ sum_same n (λ r. length (f r)) e (λ r l. f-size r)

  shares : sum_below count e ≡ g
  shares = sum_same count e (λ r. (share terms g count r).0) (λ r l. sym (share-is r)) ∙ shares_all terms g count given

  sent_is : bits_of ≡ joined count f
  unfolding radio_bits
  sent_is = joined_same (block_sent R (block_bits (length block)) (transport block) terms g) f count block-is

  block-stretch : (r : ℕ) → r < count → take (e r) (drop (sum_below r e) bits_of) ≡ f r
  block-stretch r l =
      ap (λ (s : List ℕ). take (e r) (drop (sum_below r e) s)) sent_is
      ∙ ap₂ (λ (x y : ℕ). take x (drop y (joined count f))) (sym (f-size r)) (sym (f-joined r)) ∙ joined-stretch f count r l

  pub steps : Steps R block terms g (radio_bits R (block_bits (length block)) (transport block) terms g)
  unfolding block_count block_bits transport attached mine own_start f
  steps =
      record {
        transport = transport block;
        appended = refl;
        transported = size R ed block taken;
        cut = own-sized R ed block taken;
        together = own-together R ed block taken;
        load = load R ed block taken;
        carried = λ r l. load-carries R ed block taken r;
        word = word R ed block taken;
        coded = word-coded R ed block taken;
        stretch = block-stretch;
        all = shares;
        long = sent-length R (block_bits (length block)) (transport block) terms g given;
        single = sent-bits R (block_bits (length block)) (transport block) terms g (transport-bits block);
      }

  -- ---- no other bits do

  pub steps-only : (bits : List ℕ) → Steps R block terms g bits → bits ≡ radio_bits R (block_bits (length block)) (transport block) terms g
  unfolding block_count transport attached f
  steps-only bits s =
      let own-load : (r : ℕ) → r < count → s.load r ≡ load R ed block taken r =
      λ r l. load-only R ed block taken r (s.load r)
      (subst (λ (v : List ℕ). Carries R ed (length block) (own R ed (block_bits (length block)) v r) (s.load r)) s.appended (s.carried r l)) in
      let own-word : (r : ℕ) → r < count → s.word r ≡ word R ed block taken r =
      λ r l. word-only R ed block taken r (s.word r) l (subst (λ (v : List ℕ). Word R ed (length block) v (s.word r)) (own-load r l) (s.coded r l)) in
      let each : (r : ℕ) → r < count → take (e r) (drop (sum_below r e) bits) ≡ f r =
      λ r l. s.stretch r l ∙ ap (λ (w : List ℕ). matched (turned start w) (e r)) (own-word r l) in
      sym (take_all (sum_below count e) bits (omega (arith, s.long, shares))) ∙ sym (joined-cut e bits count)
      ∙ joined_same (λ r. take (e r) (drop (sum_below r e) bits)) f count each ∙ sym sent_is
