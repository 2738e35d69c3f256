-- "Members want control words from the same service" (document 02, CR 5): what the request and section 5.1.3.1 of 004 say of the register and the streams, and what
-- the request says of the way back, over the promises of the four calls.
use mathlib.Core.Path.{◌≡◌, refl, sym, ap, ap₂, ◌∙◌}
use mathlib.Core.Bool.{Bool, true, false, not, ◌||◌, true≢false}
use mathlib.Core.List.{List, [], ◌∷◌, ◌++◌, map}
use Prim.Native.Nat.{ℕ, ◌+◌, ◌-◌, ◌%◌, ◌≤◌, ◌<◌}
use native.Mathlib.Omega.{arith}
use borrow.Author.Tests.{eq-eqb}
use lib.Count.{ones, ones_in}
use lib.Dec.{lit≤}
use lib.ListN.{length, get_or, take, drop, replicate}
use lib.Seq.{take_at}
use Rattle.bits.specs.Bits.{AreBits, some_over, digits, unpacked}
use Rattle.bits.specs.Counts.{ceil}
use Rattle.bits.specs.Numbers.{answered, when_done}
use Rattle.bits.specs.Ranges.{within, all_below, list_below}
use Rattle.bits.specs.declared.number.Written.{Written}
use Rattle.bits.proofs.Answers.{when-done}
use Rattle.bits.proofs.Listed.{list_of}
use Rattle.bits.proofs.Ranges.{within-is}
use Rattle.bits.proofs.Over.{over_none_bits, bits_not_over}
use Rattle.bits.proofs.Written.{same-written}
use Rattle.matching.specs.Matching.{kept, matched}
use Rattle.matching.specs.Steps.Copies.{copies_agree}
use Rattle.control.specs.Register.{output, stream, after, preset, streams}
use Rattle.control.specs.Interleaver.{rows, dummies, columns, matrix_place, padded, interleaved, buffer, sent}
use Rattle.control.specs.Back.{some_streams, streams_as}
use Rattle.control.specs.Promises.{code_word_number, WordCoded, match_streams_number, StreamsMatched, send_word_number, WordSent, streams_of_number, StreamsFound}
use Rattle.control.proofs.Answers.{Word, code_taken, send_asked, match_taken, match_asked, back_taken, back_unsent, back_refused, back_done, streams_decided}
use Rattle.control.proofs.Backwards.{found-length, found-bits, some-sent, first-sent, found-is}
use Rattle.control.proofs.Registers.{length-stream, length-streams, streams-bits, comes_round, preset_lt}
use Rattle.control.proofs.Sending.{length-sent, sent-bits, round_trip}
use Rattle.control.proofs.Taps.{round, preset-digits, first-sum, second-sum, third-sum}
use Rattle.demands.specs.Taps.{earlier, tap_sum, circular, tapped_streams}
use Rattle.demands.specs.Worked.{control_words, computed, due}

-- ---- the register

module _ (c : List ℕ) (bits : AreBits c) (six : 6 ≤ length c) where
  -- "preset to the last six input bits": "s_i = c_(K−1−i)", s_0 the newest and highest
  pub preset-is : digits 6 (preset c) ≡ list_below 6 (λ i. get_or c (length c - 1 - i) 0)
  preset-is = preset-digits c bits six

  -- "so that the initial and final states of the shift register are the same"
  pub register_comes_round : after (preset c) c ≡ preset c
  register_comes_round = comes_round (preset c) c (preset_lt c bits six) bits six

  -- ---- the streams as sums over the taps, indices modulo D

  summed : (g : ℕ) (taps : List ℕ) → ((k : ℕ) → k < length c → get_or (stream g (preset c) c) k 0 ≡ tap_sum c k taps % 2) → stream g (preset c) c ≡ circular taps c
  unfolding circular
  summed g taps h = list_of (length c) _ (stream g (preset c) c) (length-stream g (preset c) c) h

  five : (k a b d e f : ℕ)
      → (round c (k + (length c - a)) + round c (k + (length c - b)) + round c (k + (length c - d)) + round c (k + (length c - e)) + round c (k + (length c - f))) % 2
      ≡ tap_sum c k (a ∷ b ∷ d ∷ e ∷ f ∷ []) % 2
  unfolding tap_sum earlier round
  five k a b d e f = ap (λ (x : ℕ). x % 2) (omega arith)

  pub streams_are_sums : streams c ≡ tapped_streams c
  unfolding streams tapped_streams
  streams_are_sums =
      ap₂ (λ (a b : List ℕ). a ++ b) (summed 0o133 _ (λ k h. first-sum c bits six k h ∙ five k 0 2 3 5 6))
      (ap₂ (λ (a b : List ℕ). a ++ b) (summed 0o171 _ (λ k h. second-sum c bits six k h ∙ five k 0 1 2 3 6)) (summed 0o165 _ (λ k h. third-sum c bits six k h ∙ five k 0 1 2 4 6)))

-- ---- what the calls write

written : (n size : ℕ) (new out : List ℕ) (o : List ℕ) → n ≡ 0 → length new ≡ size → o ≡ when_done n (new ++ drop size out) out → take size o ≡ new
written n size new out o e l w = ap (take size) (w ∙ when-done n (new ++ drop size out) out e) ∙ take_at new (drop size out) size l

-- a word that is coded: it was taken, and its streams stand in front
pub coded-streams : (c : List ℕ) {mid : List ℕ} {q : Written} {m : List ℕ} → WordCoded c mid q m → q.number ≡ 0 → Word c × (take q.count m ≡ streams c)
coded-streams c {mid} {q} {m} coded z =
    let D = length c in
    let done : code_word_number c (length mid) ≡ 0 = sym coded.number ∙ z in
    let count : q.count ≡ D + D + D = coded.count ∙ when-done _ (D + D + D) 0 done in (
      (code_taken c (length mid) done).0,
      ap (λ (n : ℕ). take n m) count ∙ written _ (D + D + D) (streams c) mid m done (length-streams c) coded.output,
    )

-- ---- both in one call: sending a word is coding it and matching its streams

-- with a word that is taken both find the same number
same_number : (c : List ℕ) → Word c → (e lent : ℕ) → send_word_number c e lent ≡ match_streams_number (length c) (streams c) e lent
unfolding send_word_number match_streams_number answered
same_number c w e lent =
    rw (bits_not_over c w.bits, bits_not_over (streams c) (streams-bits c), eq-eqb _ _ (length-streams c), no_more (not (within 1 65536 e)))
  where
    no_more : (b : Bool) → b || false ≡ b
    no_more true = refl
    no_more false = refl

pub both_in_one : (c : List ℕ) (e : ℕ) {mid : List ℕ} {q : Written} {m out : List ℕ} {r r' : Written} {o o' : List ℕ} → WordCoded c mid q m → q.number ≡ 0
    → StreamsMatched (length c) (take q.count m) e out r o → WordSent c e out r' o' → (r ≡ r') × (o ≡ o')
both_in_one c e {mid} {q} {m} {out} {r} {r'} {o} {o'} coded z matched-them sent-it =
    let D = length c in
    let word = coded-streams c coded z in
    let them : StreamsMatched D (streams c) e out r o = rw word.1 at matched-them in
    let same = same_number c word.0 e (length out) in (
      same-written r r' (them.number ∙ sym same ∙ sym sent-it.number) (them.count ∙ ap (λ (n : ℕ). when_done n e 0) (sym same) ∙ sym sent-it.count),
      them.output ∙ ap (λ (n : ℕ). when_done n (sent D (streams c) e ++ drop e out) out) (sym same) ∙ sym sent-it.output,
    )

-- ---- "Sending through the interleaver and back is exact for E of 3D or more"

module _ (D : ℕ) (S : List ℕ) (e : ℕ) (w : within 6 128 D ≡ true) (asked : within 1 65536 e ≡ true) (size : length S ≡ D + D + D) (single : AreBits S) (long : D + D + D ≤ e) where
  led-back : (bits : List ℕ) → bits ≡ sent D S e → {out : List ℕ} {r : Written} {o : List ℕ} → D + D + D ≤ length out → StreamsFound D bits out r o
      → (r.number ≡ 0) × (r.count ≡ D + D + D) × (take (D + D + D) o ≡ S)
  led-back bits is {out} {r} {o} room found =
      let b = within-is 6 128 D w in
      let some : 0 < D = omega (arith, b.0) in
      let n : length bits ≡ e = ap length is ∙ length-sent D S e in
      let trip = round_trip D some b.1 S single e size long in
      let there : some_streams D bits ≡ true = ap (some_streams D) is ∙ trip.0 in
      let back : streams_as D bits ≡ S = ap (streams_as D) is ∙ trip.1 in
      let number : streams_of_number D bits (length out) ≡ 0 =
      back_done D bits (length out) w (ap (within 1 65536) n ∙ asked) room (rw is (sent-bits D some b.1 S single e)) (omega arith) there in (
        found.number ∙ number,
        found.count ∙ when-done _ (D + D + D) 0 number,
        written _ (D + D + D) (streams_as D bits) out o number (ap length back ∙ size) found.output ∙ back,
      )

pub streams_come_back : (D : ℕ) (S : List ℕ) (e : ℕ) {out : List ℕ} {r : Written} {o out2 : List ℕ} {r2 : Written} {o2 : List ℕ} → StreamsMatched D S e out r o → r.number ≡ 0
    → D + D + D ≤ e → D + D + D ≤ length out2 → StreamsFound D (take e o) out2 r2 o2 → (r2.number ≡ 0) × (r2.count ≡ D + D + D) × (take (D + D + D) o2 ≡ S)
streams_come_back D S e {out} {r} {o} there z long room back =
    let done : match_streams_number D S e (length out) ≡ 0 = sym there.number ∙ z in
    let t = match_taken D S e (length out) done in
    let a = match_asked D S e (length out) done in
    led-back D S e a.0 a.1 t.size t.bits long (take e o) (written _ e (sent D S e) out o done (length-sent D S e) there.output) room back

pub word_comes_back : (c : List ℕ) (e : ℕ) {out : List ℕ} {r : Written} {o out2 : List ℕ} {r2 : Written} {o2 : List ℕ} → WordSent c e out r o → r.number ≡ 0
    → length c + length c + length c ≤ e → length c + length c + length c ≤ length out2 → StreamsFound (length c) (take e o) out2 r2 o2
    → (r2.number ≡ 0) × (r2.count ≡ length c + length c + length c) × (take (length c + length c + length c) o2 ≡ streams c)
word_comes_back c e {out} {r} {o} there z long room back =
    let D = length c in
    let done : send_word_number c e (length out) ≡ 0 = sym there.number ∙ z in
    let a = send_asked c e (length out) done in
    led-back D (streams c) e a.0 a.1 (length-streams c) (streams-bits c) long (take e o) (written _ e (sent D (streams c) e) out o done (length-sent D (streams c) e) there.output) room back

-- ---- "then 14 for bits that no three streams give"

either_false : (b : Bool) → (b ≡ true → ⊥) → b ≡ false
either_false true h = absurd (h refl)
either_false false h = refl

module _ (D : ℕ) (bits : List ℕ) {out : List ℕ} {r : Written} {o : List ℕ} (found : StreamsFound D bits out r o) where
  -- where 14 is answered, no three streams are sent as the bits
  pub fourteen_only : r.number ≡ 14 → (S : List ℕ) → AreBits S → length S ≡ D + D + D → sent D S (length bits) ≡ bits → ⊥
  fourteen_only q S single size e =
      let u = back_unsent D bits (length out) (sym found.number ∙ q) in
      true≢false (sym (some-sent D (omega (arith, u.six)) u.most bits u.single u.long S single size e) ∙ u.none)

  -- it is answered where none are, and no number before it applies
  pub fourteen_given : within 6 128 D ≡ true → within 1 65536 (length bits) ≡ true → D + D + D ≤ length out → AreBits bits → D + D + D ≤ length bits
      → ((S : List ℕ) → AreBits S → length S ≡ D + D + D → sent D S (length bits) ≡ bits → ⊥) → r.number ≡ 14
  fourteen_given w asked room single long none =
      let b = within-is 6 128 D w in
      let unsent = either_false (some_streams D bits) (λ e. none (streams_as D bits) (found-bits D bits) (found-length D bits) (first-sent D (omega (arith, b.0)) b.1 bits single long e)) in
      found.number ∙ back_refused D bits (length out) w asked room single long unsent

  -- and where 0 is, those that are written are sent as them, and no others
  pub found-sent : r.number ≡ 0 → (take r.count o ≡ streams_as D bits) × (sent D (streams_as D bits) (length bits) ≡ bits)
      × ((S : List ℕ) → AreBits S → length S ≡ D + D + D → sent D S (length bits) ≡ bits → streams_as D bits ≡ S)
  found-sent z =
      let done : streams_of_number D bits (length out) ≡ 0 = sym found.number ∙ z in
      let t = back_taken D bits (length out) done in
      let some : 0 < D = omega (arith, t.six) in
      let count : r.count ≡ D + D + D = found.count ∙ when-done _ (D + D + D) 0 done in (
        ap (λ (n : ℕ). take n o) count ∙ written _ (D + D + D) (streams_as D bits) out o done (found-length D bits) found.output,
        first-sent D some t.most bits t.single t.long t.found,
        found-is D some t.most bits t.single t.long,
      )

-- ---- the worked numbers, in one table

pub worked_control : map computed control_words ≡ map due control_words
unfolding control_words output stream after preset streams ones ones_in digits unpacked kept list_below matched rows ceil dummies columns matrix_place padded interleaved buffer sent
worked_control = refl

-- ---- every number is met: each of the three calls that send, and those before 14 of the way back

pub worked-numbers :
    code_word_number (replicate 5 0) 18 ∷ code_word_number (replicate 129 0) 387 ∷ code_word_number (replicate 6 0) 17 ∷ code_word_number (2 ∷ replicate 5 0) 18 ∷ code_word_number (replicate 6 0) 18
    ∷ match_streams_number 129 [] 0 0 ∷ match_streams_number 6 (replicate 18 0) 0 0 ∷ match_streams_number 6 (replicate 17 0) 18 18 ∷ match_streams_number 6 (replicate 18 0) 18 17
    ∷ match_streams_number 6 (2 ∷ replicate 17 0) 18 18 ∷ match_streams_number 6 (replicate 18 0) 18 18
    ∷ send_word_number (replicate 5 0) 0 0 ∷ send_word_number (replicate 6 0) 65537 0 ∷ send_word_number (replicate 6 0) 7 6 ∷ send_word_number (2 ∷ replicate 5 0) 7 7 ∷ send_word_number (replicate 6 0) 7 7
    ∷ streams_of_number 5 [] 0 ∷ streams_of_number 6 [] 0 ∷ streams_of_number 6 (2 ∷ []) 17 ∷ streams_of_number 6 (2 ∷ []) 18 ∷ streams_of_number 6 (1 ∷ []) 18 ∷ []
    ≡ 17 ∷ 17 ∷ 11 ∷ 12 ∷ 0 ∷ 17 ∷ 8 ∷ 8 ∷ 11 ∷ 12 ∷ 0 ∷ 17 ∷ 8 ∷ 11 ∷ 12 ∷ 0 ∷ 17 ∷ 8 ∷ 11 ∷ 12 ∷ 13 ∷ []
unfolding code_word_number match_streams_number send_word_number streams_of_number answered some_over
worked-numbers = refl

-- 14 and 0 of the way back: the worked word sent as 20 bits with the last one turned over, and as it is
abbrev twenty_bits : ℕ → List ℕ
twenty_bits last = unpacked (0xED ∷ 0x6B ∷ []) ++ (1 ∷ 1 ∷ 1 ∷ last ∷ [])

pub worked_back : (streams_of_number 6 (twenty_bits 0) 18 ≡ 14) × (streams_of_number 6 (twenty_bits 1) 18 ≡ 0)
unfolding unpacked digits some_over copies_agree all_below
worked_back = (
  back_refused 6 (twenty_bits 0) 18 refl refl (lit≤ tt) (over_none_bits (twenty_bits 0) refl) (lit≤ tt) (streams_decided 6 (twenty_bits 0) refl refl (lit≤ tt)),
  back_done 6 (twenty_bits 1) 18 refl refl (lit≤ tt) (over_none_bits (twenty_bits 1) refl) (lit≤ tt) (streams_decided 6 (twenty_bits 1) refl refl (lit≤ tt)),
)
