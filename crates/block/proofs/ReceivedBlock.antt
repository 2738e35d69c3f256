-- One block as it is received: what it was sent as decides its coded word, and the coded word decides what it is sent as.
use mathlib.Core.Path.{◌≡◌, sym, ap, ap₂, ◌∙◌, subst}
use mathlib.Core.Bool.{Bool, true, false, ◌&&◌, true≢false}
use mathlib.Core.List.{List, ◌++◌, append_assoc}
use Prim.Native.Nat.{ℕ, ◌+◌, ◌-◌, ◌*◌, ◌%◌, ◌≤◌, ◌<◌}
use native.Mathlib.Nat.{add-mul, mod-eq_of_lt}
use native.Mathlib.Omega.{arith}
use lib.ListN.{length, get_or, take, drop, length-append, length-drop, take-append-drop}
use lib.Seq.{ext_get_or, get_or-append-add, get_or-drop, get_or-take, length-take-le, take_at, take-take}
use Rattle.bits.specs.Bits.{AreBits, same, with_filler}
use Rattle.bits.proofs.Lists.{bits-take, bits-drop, same_equal, same_self, length_part}
use Rattle.bits.proofs.Ranges.{both, either_way}
use Rattle.bits.proofs.Listed.{length_list, at_list}
use Rattle.bits.proofs.Filler.{length-filled}
use Rattle.profile.specs.Record.{kb, m, rows, columns, table}
use Rattle.profile.proofs.Shape.{columns_is}
use Rattle.cutting.specs.declared.Plan.{Plan}
use Rattle.cutting.specs.Steps.Plans.{SomePlan, sum_holds}
use Rattle.cutting.proofs.PlanFields.{some-fields, places-product}
use Rattle.parity.specs.Matrix.{checks}
use Rattle.parity.specs.Coded.{coded}
use Rattle.parity.proofs.Rows.{Solvable}
use Rattle.parity.proofs.Coded.{coded-length, coded-take, coded-bits, coded-checks, coded-unique}
use Rattle.matching.specs.Matching.{kept, matched, turned}
use Rattle.matching.specs.Steps.Places.{kept_before, Filled}
use Rattle.matching.specs.Steps.Copies.{copies_agree}
use Rattle.matching.specs.Steps.Line.{in_line, heard}
use Rattle.matching.proofs.Stretch.{word-own, word-filled, Holds, sent-held, copies_at, copies_of, held-sent}
use Rattle.matching.proofs.Runs.{kept-length, kept-first}
use Rattle.matching.proofs.Heard.{in_line_length, in_line_bits, matched-length, to_line, heard_sent_as}
use Rattle.matching.proofs.Turned.{kept-before}
use Rattle.block.specs.Steps.Blocks.{block_sent_as, carried_by, Tested, Received}
use Rattle.block.proofs.PlanFields.{word_room, stairs_here}

-- the places in front of a word, one by one
front_at : (n : ℕ) (w sys : List ℕ) → take n w ≡ sys → (p : ℕ) → p < n → get_or w p 0 ≡ get_or sys p 0
front_at n w sys front p h = sym (get_or-take n w p 0 h) ∙ ap (λ (l : List ℕ). get_or l p 0) front

-- ---- the own bits stand at the beginning of what a block is sent as, once it is in line

module _ (T mine : List ℕ) (kb rows columns z : ℕ) (wide : columns ≡ kb + rows) (single : AreBits mine) (size : length mine ≤ kb * z) where
  word : List ℕ
  word = coded T rows columns z (with_filler (kb * z) mine)

  sys_size : length (with_filler (kb * z) mine) ≡ kb * z
  sys_size = length-filled (kb * z) mine size

  word-front : (p : ℕ) → p < kb * z → get_or word p 0 ≡ get_or (with_filler (kb * z) mine) p 0
  unfolding word
  word-front = front_at (kb * z) word (with_filler (kb * z) mine) (coded-take T rows columns z (with_filler (kb * z) mine) kb sys_size)

  word-long : kb * z ≤ length word
  unfolding word
  word-long = omega (arith, coded-length T rows columns z (with_filler (kb * z) mine) kb sys_size wide, ap (λ (n : ℕ). n * z) wide, add-mul kb rows z)

  word-bits : (p : ℕ) → kb * z ≤ p → get_or word p 0 < 2
  unfolding word
  word-bits = coded-bits T rows columns z (with_filler (kb * z) mine) kb sys_size

  front-own : (e : ℕ) → length mine ≤ e → take (length mine) (matched (coded T rows columns z (with_filler (kb * z) mine)) e) ≡ mine
  unfolding matched word
  front-own e h =
      let n = length mine in
      let F = word-filled mine (kb * z) single size word word-long word-front word-bits in
      let l : length (matched word e) ≡ e = length_list e (λ k. get_or (kept word) (k % length (kept word)) 0) in
      let t : length (take n (matched word e)) ≡ n = length-take-le n (matched word e) (omega arith) in
      ext_get_or 0 (take n (matched word e)) mine t
      (λ k q.
      let u : k < n = omega arith in
      let low : k < length (kept word) = omega (arith, kept-length word n (kb * z) F) in
      get_or-take n (matched word e) k 0 u ∙ at_list e (λ j. get_or (kept word) (j % length (kept word)) 0) k (omega arith)
      ∙ ap (λ (j : ℕ). get_or (kept word) j 0) (mod-eq_of_lt low) ∙ kept-first word n (kb * z) F k u
      ∙ word-own mine (kb * z) single size word word-long word-front word-bits k u)

  pub heard-own : (from e : ℕ) → from ≤ columns * z → 0 < rows * z → length mine + rows * z ≤ e
      → take (length mine) (heard (length mine) (kb * z) from (columns * z) (matched (turned from (coded T rows columns z (with_filler (kb * z) mine))) e)) ≡ mine
  unfolding word
  heard-own from e within some h =
      let n : ℕ = length mine + rows * z in
      let s : List ℕ = matched (turned from word) e in
      let total : length word ≡ columns * z = coded-length T rows columns z (with_filler (kb * z) mine) kb sys_size wide in
      let count : length mine + (columns * z - kb * z) ≡ n = omega (arith, ap (λ (x : ℕ). x * z) wide, add-mul kb rows z) in
      let F = word-filled mine (kb * z) single size word word-long word-front word-bits in
      let long : length s ≡ e = matched-length (turned from word) e in
      let line = to_line word s from n (kept-length word (length mine) (kb * z) F ∙ omega (arith, total, count)) (omega arith) (omega arith) (ap (matched (turned from word)) long) in
      ap (take (length mine))
      (ap₂ (λ (i k : ℕ). in_line i k s) count (sym (kept-before word (length mine) (kb * z) from F (omega (arith, total)))) ∙ sym line)
      ∙ front-own n (omega arith)

-- ---- bits that are sent once from the first place are what their block is sent as where their word checks

module _ (T : List ℕ) (kb m rows columns z : ℕ) (S : Solvable T kb m rows columns) (some : 0 < rows * z) (s : List ℕ) (own : ℕ) (low : own ≤ kb * z)
    (long : own + rows * z ≤ length s) (single : AreBits s) where
  wide-z : columns * z ≡ (kb + rows) * z
  wide-z = ap (λ (n : ℕ). n * z) S.wide

  sys : List ℕ
  sys = with_filler (kb * z) (take own s)

  tail : List ℕ
  tail = take (rows * z) (drop own s)

  sys-length : length sys ≡ kb * z
  unfolding sys
  sys-length = length-filled (kb * z) (take own s) (omega (arith, length-take-le own s (omega arith)))

  tail-length : length tail ≡ rows * z
  unfolding tail
  tail-length = length_part (rows * z) own s long

  whole_length : length (sys ++ tail) ≡ columns * z
  whole_length = length-append sys tail ∙ omega (arith, sys-length, tail-length, wide-z, add-mul kb rows z)

  whole_take : take (kb * z) (sys ++ tail) ≡ sys
  whole_take = take_at sys tail (kb * z) sys-length

  whole-behind : (k : ℕ) → get_or (sys ++ tail) (kb * z + k) 0 ≡ get_or tail k 0
  whole-behind k = ap (λ (j : ℕ). get_or (sys ++ tail) (j + k) 0) (sym sys-length) ∙ get_or-append-add sys tail k 0

  tail_at : (k : ℕ) → k < rows * z → get_or tail k 0 ≡ get_or s (own + k) 0
  unfolding tail
  tail_at k h = get_or-take (rows * z) (drop own s) k 0 h ∙ get_or-drop own s k 0

  whole-bits : (p : ℕ) → kb * z ≤ p → get_or (sys ++ tail) p 0 < 2
  unfolding tail
  whole-bits p h =
      let at : kb * z + (p - kb * z) ≡ p = omega arith in
      let here : get_or (sys ++ tail) p 0 ≡ get_or tail (p - kb * z) 0 = ap (λ (j : ℕ). get_or (sys ++ tail) j 0) (sym at) ∙ whole-behind (p - kb * z) in
      rw here (bits-take (rows * z) (drop own s) (bits-drop own s single) (p - kb * z))

  -- a word with these systematic places in front
  module _ (w : List ℕ) (size : length w ≡ columns * z) (front : take (kb * z) w ≡ sys) (bits : (p : ℕ) → kb * z ≤ p → get_or w p 0 < 2) where
    own-length : length (take own s) ≡ own
    own-length = length-take-le own s (omega arith)

    filled : Filled w own (kb * z)
    unfolding sys
    filled =
        subst (λ (n : ℕ). Filled w n (kb * z)) own-length
        (word-filled (take own s) (kb * z) (bits-take own s single) (omega (arith, own-length)) w (omega (arith, wide-z, add-mul kb rows z)) (front_at (kb * z) w sys front) bits)

    begins : (k : ℕ) → k < own → get_or w k 0 ≡ get_or s k 0
    unfolding sys
    begins k h =
        word-own (take own s) (kb * z) (bits-take own s single) (omega (arith, own-length)) w (omega (arith, wide-z, add-mul kb rows z)) (front_at (kb * z) w sys front) bits k (omega (arith, own-length))
        ∙ get_or-take own s k 0 h

    count : own + (length w - kb * z) ≡ own + rows * z
    count = omega (arith, wide-z, add-mul kb rows z)

  to-sent : copies_agree (own + rows * z) s && checks T rows columns z (sys ++ tail) ≡ true → same (matched (coded T rows columns z sys) (length s)) s ≡ true
  to-sent e =
      let parts = both (copies_agree (own + rows * z) s) (checks T rows columns z (sys ++ tail)) e in
      let one = coded-unique T rows columns z sys kb sys-length S (sys ++ tail) whole_length whole_take whole-bits parts.1 in
      let F = filled (sys ++ tail) whole_length whole_take whole-bits in
      let held : Holds (sys ++ tail) own (kb * z) (own + rows * z) s = record {
        first = begins (sys ++ tail) whole_length whole_take whole-bits;
        second = λ k l. whole-behind k ∙ tail_at k (omega arith);
        again = copies_at (own + rows * z) s parts.0;
      } in
      let sent = held-sent (sys ++ tail) own (kb * z) (own + rows * z) F (count (sys ++ tail) whole_length whole_take whole-bits) (omega arith) s long held in
      ap (λ (x : List ℕ). same x s) (ap (λ (w : List ℕ). matched w (length s)) (sym one) ∙ sent) ∙ same_self s

  from-sent : same (matched (coded T rows columns z sys) (length s)) s ≡ true → copies_agree (own + rows * z) s && checks T rows columns z (sys ++ tail) ≡ true
  from-sent e =
      let w = coded T rows columns z sys in
      let size : length w ≡ columns * z = coded-length T rows columns z sys kb sys-length S.wide in
      let front : take (kb * z) w ≡ sys = coded-take T rows columns z sys kb sys-length in
      let bits = coded-bits T rows columns z sys kb sys-length in
      let held = sent-held w own (kb * z) (own + rows * z) (filled w size front bits) (count w size front bits) (omega arith) s long (same_equal _ _ e) in
      let rest-length : length (drop (kb * z) w) ≡ rows * z = length-drop (kb * z) w ∙ omega (arith, wide-z, add-mul kb rows z) in
      let rest : drop (kb * z) w ≡ tail =
      ext_get_or 0 (drop (kb * z) w) tail (rest-length ∙ sym tail-length)
      (λ k l. get_or-drop (kb * z) w k 0 ∙ held.second k (omega arith) ∙ sym (tail_at k (omega arith))) in
      let whole : sys ++ tail ≡ w = ap₂ (λ (a b : List ℕ). a ++ b) (sym front) (sym rest) ∙ take-append-drop (kb * z) w in
      ap₂ (λ (a b : Bool). a && b) (copies_of (own + rows * z) s held.again)
      (ap (checks T rows columns z) whole ∙ coded-checks T rows columns z sys kb sys-length S)

  pub copies_and_checks : copies_agree (own + rows * z) s && checks T rows columns z (with_filler (kb * z) (take own s) ++ take (rows * z) (drop own s))
      ≡ same (matched (coded T rows columns z (with_filler (kb * z) (take own s))) (length s)) s
  unfolding sys tail
  copies_and_checks = either_way _ _ to-sent from-sent

-- ---- a stretch is what its block is sent as from a start where its copies agree and, once it is in line, its word checks

module _ (T : List ℕ) (kb m rows columns z : ℕ) (S : Solvable T kb m rows columns) (some : 0 < rows * z) (s : List ℕ) (own : ℕ) (low : own ≤ kb * z)
    (long : own + rows * z ≤ length s) (single : AreBits s) (from : ℕ) (within : from ≤ columns * z) where
  abbrev n : ℕ
  n = own + rows * z

  line : List ℕ
  line = heard own (kb * z) from (columns * z) s

  count-is : own + (columns * z - kb * z) ≡ n
  count-is = omega (arith, ap (λ (x : ℕ). x * z) S.wide, add-mul kb rows z)

  line-length : length line ≡ n
  unfolding line
  line-length = in_line_length _ _ s (omega (arith, count-is)) ∙ count-is

  line-bits : AreBits line
  unfolding line
  line-bits = in_line_bits _ _ s single

  line-own : length (take own line) ≡ own
  line-own = length-take-le own line (omega (arith, line-length))

  places-there : List ℕ
  places-there = with_filler (kb * z) (take own line)

  there-length : length places-there ≡ kb * z
  unfolding places-there
  there-length = length-filled (kb * z) (take own line) (omega (arith, line-own))

  coded-there : List ℕ
  coded-there = coded T rows columns z places-there

  total : length coded-there ≡ columns * z
  unfolding coded-there
  total = coded-length T rows columns z places-there kb there-length S.wide

  coded-filled : Filled coded-there own (kb * z)
  unfolding coded-there places-there
  coded-filled =
      subst (λ (i : ℕ). Filled coded-there i (kb * z)) line-own
      (word-filled (take own line) (kb * z) (bits-take own line line-bits) (omega (arith, line-own)) coded-there
      (omega (arith, total, ap (λ (x : ℕ). x * z) S.wide, add-mul kb rows z))
      (front_at (kb * z) coded-there places-there (coded-take T rows columns z places-there kb there-length))
      (coded-bits T rows columns z places-there kb there-length))

  -- in line there are no copies
  no_copies : copies_agree n line ≡ true
  no_copies = copies_of n line (λ k l. absurd (omega (arith, line-length)))

  -- what is in line is sent once where its word checks
  line-checks : checks T rows columns z (with_filler (kb * z) (take own line) ++ take (rows * z) (drop own line)) ≡ same (matched coded-there n) line
  unfolding coded-there places-there
  line-checks =
      (rw no_copies at (copies_and_checks T kb m rows columns z S some line own low (omega (arith, line-length)) line-bits))
      ∙ ap (λ (i : ℕ). same (matched coded-there i) line) line-length

  pub heard_and_checks : copies_agree n s
      && checks T rows columns z (with_filler (kb * z) (take own (heard own (kb * z) from (columns * z) s)) ++ take (rows * z) (drop own (heard own (kb * z) from (columns * z) s)))
      ≡ block_sent_as T rows columns z from (with_filler (kb * z) (take own (heard own (kb * z) from (columns * z) s))) s
  unfolding block_sent_as line coded-there places-there
  heard_and_checks =
      ap (λ (b : Bool). copies_agree n s && b) line-checks
      ∙ ap (λ (i : ℕ). copies_agree n s && same (matched coded-there n) (heard own (kb * z) from i s)) (sym total)
      ∙ sym (heard_sent_as coded-there s own (kb * z) from n coded-filled (omega (arith, total)) (omega (arith, total, count-is)) (omega arith) long)

-- own bits, filler and what follows begin with the own bits
taken_own : (s : List ℕ) (own places n : ℕ) → own ≤ length s → take own (with_filler places (take own s) ++ take n (drop own s)) ≡ take own s
unfolding with_filler
taken_own s own places n h =
    let size : length (take own s) ≡ own = length-take-le own s h in
    ap (take own) (append_assoc (take own s) _ _) ∙ take_at (take own s) _ own size

-- a stretch with room for its own bits and parity bits, by the plan
module _ (R : List ℕ) (p : Plan) (h : SomePlan R p) (s : List ℕ) (own from : ℕ) (low : own ≤ p.places) (within : from ≤ columns R * p.z)
    (fits : own + (columns R * p.z - p.places) ≤ length s) (single : AreBits s) where
  abbrev L : List ℕ
  L = heard own p.places from (columns R * p.z) s

  planned-so : copies_agree (own + (columns R * p.z - p.places)) s
      && checks (table R p.index) (rows R) (columns R) p.z (with_filler p.places (take own L) ++ take (columns R * p.z - p.places) (drop own L))
      ≡ block_sent_as (table R p.index) (rows R) (columns R) p.z from (with_filler p.places (take own L)) s
  planned-so =
      let k = some-fields R p h in
      let product : p.places ≡ kb R * p.z = places-product R p k in
      let wide : columns R * p.z ≡ (kb R + rows R) * p.z = ap (λ (n : ℕ). n * p.z) (columns_is R) in
      let behind : columns R * p.z - kb R * p.z ≡ rows R * p.z = omega (arith, wide, add-mul (kb R) (rows R) p.z) in
      let some : 0 < rows R * p.z = omega (arith, word_room R p k, behind, product) in
      let law = heard_and_checks (table R p.index) (kb R) (m R) (rows R) (columns R) p.z (stairs_here R p k) some s own (omega arith) (omega arith) single from within in
      rw product (ap (λ (n : ℕ). copies_agree (own + n) s
      && checks (table R p.index) (rows R) (columns R) p.z (with_filler (kb R * p.z) (take own (heard own (kb R * p.z) from (columns R * p.z) s))
      ++ take n (drop own (heard own (kb R * p.z) from (columns R * p.z) s)))) behind ∙ law)

  -- in line there is room for the own bits
  line-room : own ≤ length (heard own p.places from (columns R * p.z) s)
  line-room =
      let n : ℕ = own + (columns R * p.z - p.places) in
      omega (arith, in_line_length n (kept_before own p.places from) s fits)

  -- the same of a word of `long` places
  module _ (long : ℕ) (is : long ≡ columns R * p.z) where
    pub planned-sent-as : copies_agree (own + (long - p.places)) s
        && checks (table R p.index) (rows R) (columns R) p.z (with_filler p.places (take own (heard own p.places from long s)) ++ take (long - p.places) (drop own (heard own p.places from long s)))
        ≡ block_sent_as (table R p.index) (rows R) (columns R) p.z from (with_filler p.places (take own (heard own p.places from (columns R * p.z) s))) s
    planned-sent-as = rw is planned-so

    -- the word that is gathered has the own bits in line in front
    pub gathered-own : take own (with_filler p.places (take own (heard own p.places from long s)) ++ take (long - p.places) (drop own (heard own p.places from long s)))
        ≡ take own (heard own p.places from (columns R * p.z) s)
    gathered-own = rw is (taken_own (heard own p.places from (columns R * p.z) s) own p.places (columns R * p.z - p.places) line-room)

-- ---- a stretch that was tested, and the test of its checksum behind that

module _ (R : List ℕ) (p : Plan) (s : List ℕ) (own from : ℕ) (b : Bool) (word : List ℕ) (tested : Tested R p s (own + p.sums) from b word) where
  pub unsent-received : b ≡ false → Received R p s own from false word
  unsent-received e =
      record {
        is = ap (λ (x : Bool). x && sum_holds p.sums (carried_by R p (own + p.sums) from s)) (sym e ∙ tested.is);
        front = λ q. absurd (true≢false (sym q));
      }

  module _ (e : b ≡ true) where
    pub carried-bits : AreBits s → AreBits (take (own + p.sums) word)
    carried-bits single = rw (tested.front e) (bits-take (own + p.sums) _ (in_line_bits _ _ s single))

    pub sent-received : (r : Bool) → r ≡ sum_holds p.sums (take (own + p.sums) word) → Received R p s own from r word
    sent-received r h =
        record {
          is = h ∙ ap (sum_holds p.sums) (tested.front e) ∙ ap (λ (x : Bool). x && sum_holds p.sums (carried_by R p (own + p.sums) from s)) (sym e ∙ tested.is);
          front = λ q. sym (take-take own (own + p.sums) word (omega arith)) ∙ ap (take own) (tested.front e);
        }
