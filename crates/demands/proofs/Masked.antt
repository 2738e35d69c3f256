-- "Let the appending and testing of a checksum take a mask of the checksum's width (higher bits ignored), added bit by bit without carry. A zero mask gives
-- today's answers. The data path passes zero; demands 2 and 3 are unchanged." (document 02, CR 9) Over every width w and every generator g, and then over the
-- promises of the three calls. Of the last sentence nothing is stated here: Demand2 and Demand3 are what they were.
use mathlib.Core.Path.{◌≡◌, refl, sym, ap, ◌∙◌}
use mathlib.Core.Bool.{Bool, true, false, true≢false}
use mathlib.Core.List.{List, [], ◌∷◌, ◌++◌}
use Prim.Native.Nat.{ℕ, ◌+◌, ◌-◌, ◌%◌, ◌^◌, ◌≤◌, ◌<◌}
use native.Mathlib.Omega.{arith}
use borrow.Author.Tests.{le-ltb}
use lib.Dec.{ltb, lit<}
use lib.ListN.{length, get_or, take, drop}
use lib.Seq.{take_at}
use Rattle.bits.specs.Bits.{AreBits, some_over, same, digits}
use Rattle.bits.specs.Numbers.{answered, when_done}
use Rattle.bits.specs.declared.number.Written.{Written}
use Rattle.bits.proofs.Answers.{passes, passed, none_left, when-done, when_refused}
use Rattle.bits.proofs.Digits.{digits-bits}
use Rattle.bits.proofs.Lists.{bits-append, bits-take}
use Rattle.bits.proofs.Over.{bits_not_over}
use Rattle.bits.proofs.Ranges.{equal_or}
use Rattle.checksum.specs.Crc.{reduce, divide_on, remainder, checksum, attached, gen16, gen8}
use Rattle.checksum.specs.Masked.{under, checksum_under, attached_under, tests_under}
use Rattle.checksum.specs.Promises.{generator, other_width, bits_number, OfBits}
use Rattle.checksum.specs.declared.Sum.{Sum}
use Rattle.checksum.specs.Steps.Testing.{checks}
use Rattle.checksum.proofs.Answers.{fits-register, bits-done}
use Rattle.checksum.proofs.Masked.{under_same, checksum_zero_mask, attached_zero_mask, tests_zero_mask, attached_under_front, attached_under_bit, attached_under_same, length_attached_under, tests_sound, tests_complete, tests_same, tests_only, short_fails}
use Rattle.masked.specs.Promises.{SumUnder, append_number, Appended, WordTested}
use Rattle.masked.specs.declared.Tested.{Tested}
use Rattle.masked.proofs.Answers.{append-passed}

-- ---- over every width and generator

module _ (w g : ℕ) where
  -- "A zero mask gives today's answers": appending gives what is attached today, and testing what the receiver's test gives of words that have w bits at
  -- least
  pub zero_appends : (a : List ℕ) → attached_under w g 0 a ≡ attached w g a
  zero_appends a = attached_zero_mask w g a

  pub zero_tests : g < 2 ^ w → (b : List ℕ) → AreBits b → w ≤ length b → tests_under w g 0 b ≡ checks w g b
  zero_tests below b h l = tests_zero_mask w g below b h l

  -- testing under a mask holds of exactly the words appended under it
  pub tests_appended : (m : ℕ) (b : List ℕ) → tests_under w g m b ≡ true → (a : List ℕ) × (b ≡ attached_under w g m a)
  tests_appended m b e = (take (length b - w) b, tests_sound w g m b e)

  pub appended_tests : (m : ℕ) (a : List ℕ) → tests_under w g m (attached_under w g m a) ≡ true
  appended_tests m a = tests_complete w g m a

  -- a word appended under m tests under n exactly when the two agree in the width
  pub agreeing_tests : (m n : ℕ) (a : List ℕ) → m % 2 ^ w ≡ n % 2 ^ w → tests_under w g n (attached_under w g m a) ≡ true
  agreeing_tests m n a e = tests_same w g m n a e

  pub tests_agreeing : g < 2 ^ w → (m n : ℕ) (a : List ℕ) → tests_under w g n (attached_under w g m a) ≡ true → m % 2 ^ w ≡ n % 2 ^ w
  tests_agreeing below m n a e = tests_only w g below m n a e

-- ---- what the calls' answers say of the width and the bits

three : (w : ℕ) (bits : List ℕ) → bits_number w bits ≡ 0 → other_width w ≡ false
unfolding bits_number
three w bits e = (passed 8 ((12, some_over 1 bits) ∷ []) (other_width w) (lit< tt) e).0

taken : (w : ℕ) (bits : List ℕ) → other_width w ≡ false → AreBits bits → bits_number w bits ≡ 0
unfolding bits_number
taken w bits other single = passes 8 ((12, some_over 1 bits) ∷ []) other ∙ passes 12 [] (bits_not_over bits single) ∙ none_left

roomy : (w : ℕ) (bits : List ℕ) (room : ℕ) → other_width w ≡ false → AreBits bits → length bits + w ≤ room → append_number w bits room ≡ 0
unfolding append_number
roomy w bits room other single fits =
    let over : List (ℕ × Bool) = (12, some_over 1 bits) ∷ [] in
    passes 8 ((11, ltb room (length bits + w)) ∷ over) other ∙ passes 11 over (le-ltb room (length bits + w) fits) ∙ passes 12 [] (bits_not_over bits single) ∙ none_left

module _ {w m : ℕ} {bits out : List ℕ} {r : Written} {o : List ℕ} (a : Appended w m bits out r o) (done : r.number ≡ 0) where
  unrefused : append_number w bits (length out) ≡ 0
  unrefused = sym a.number ∙ done

  -- the width is one of the three, and the bits are bits
  append-takes : (other_width w ≡ false) × AreBits bits
  append-takes =
      let summed = (append-passed w bits (length out) unrefused).0 in
      (three w bits summed, (bits-done w bits summed).1)

  -- what is written is the word that appending means
  pub append-word : take r.count o ≡ attached_under w (generator w) m bits
  append-word =
      let word = attached_under w (generator w) m bits in
      let n = length bits + w in
      let count : r.count ≡ n = a.count ∙ when-done _ n 0 unrefused in
      let output : o ≡ word ++ drop n out = a.output ∙ when-done _ _ out unrefused in
      rw (count, output) (take_at word (drop n out) n (length_attached_under w (generator w) m bits))

  word-bits : AreBits (take r.count o)
  unfolding attached_under
  word-bits = rw append-word (bits-append bits (digits w (checksum_under w (generator w) m bits)) append-takes.1 (digits-bits w (checksum_under w (generator w) m bits)))

  -- ---- "added bit by bit without carry": the bits as they were, and then p_k + x_k modulo two for the checksum's bits p_k and the mask's bits x_k, both
  -- the highest first (5.3.1.1 and 5.3.3.2 of 5G.212)

  pub appended-front : take (length bits) (take r.count o) ≡ bits
  appended-front = rw append-word (attached_under_front w (generator w) m bits)

  pub appended-bit : (k : ℕ)
      → get_or (take r.count o) (length bits + k) 0 ≡ (get_or (digits w (checksum w (generator w) bits)) k 0 + get_or (digits w m) k 0) % 2
  appended-bit k = rw append-word (attached_under_bit w (generator w) m bits k)

  -- ---- what was appended under m tests under n exactly when the two agree in the width

  module _ {n : ℕ} {s : Tested} (t : WordTested w n (take r.count o) s) where
    pub appended-tested : s.number ≡ 0
    appended-tested = t.number ∙ taken w (take r.count o) append-takes.0 word-bits

    tested-is : s.holds ≡ tests_under w (generator w) n (attached_under w (generator w) m bits)
    tested-is =
        t.holds ∙ when-done (bits_number w (take r.count o)) _ false (sym t.number ∙ appended-tested)
        ∙ ap (tests_under w (generator w) n) append-word

    pub appended-holds : m % 2 ^ w ≡ n % 2 ^ w → s.holds ≡ true
    appended-holds e = tested-is ∙ tests_same w (generator w) m n bits e

    pub holds-agreeing : s.holds ≡ true → m % 2 ^ w ≡ n % 2 ^ w
    holds-agreeing e = tests_only w (generator w) (fits-register w append-takes.0).below m n bits (sym tested-is ∙ e)

-- ---- what tests was appended: where the test holds, appending writes the word from the bits before its last w

module _ {w m : ℕ} {word : List ℕ} {s : Tested} (t : WordTested w m word s) where
  holds-done : s.holds ≡ true → (bits_number w word ≡ 0) × (tests_under w (generator w) m word ≡ true)
  holds-done h =
      equal_or (bits_number w word) 0
      (λ e. (e, sym (when-done (bits_number w word) _ false e) ∙ sym t.holds ∙ h))
      (λ n. absurd (true≢false (sym h ∙ t.holds ∙ when_refused (bits_number w word) _ false n)))

  pub holds-appended : s.holds ≡ true → {out : List ℕ} {r : Written} {o : List ℕ} → length word ≤ length out
      → Appended w m (take (length word - w) word) out r o → (r.number ≡ 0) × (take r.count o ≡ word)
  holds-appended h {out} {r} {o} room a =
      let bits = take (length word - w) word in
      let done = holds-done h in
      let whole : word ≡ attached_under w (generator w) m bits = tests_sound w (generator w) m word done.1 in
      let long : length word ≡ length bits + w = ap length whole ∙ length_attached_under w (generator w) m bits in
      let single : AreBits bits = bits-take (length word - w) word (bits-done w word done.0).1 in
      let number : r.number ≡ 0 = a.number ∙ roomy w bits (length out) (three w word done.0) single (omega arith) in
      (number, append-word a number ∙ sym whole)

  -- a word shorter than its checksum: done, no
  pub short-tested : other_width w ≡ false → AreBits word → length word < w → (s.number ≡ 0) × (s.holds ≡ false)
  short-tested other single short =
      let done : bits_number w word ≡ 0 = taken w word other single in
      (t.number ∙ done, t.holds ∙ when-done (bits_number w word) _ false done ∙ short_fails w (generator w) m word short)

-- ---- "A zero mask gives today's answers": each call with the mask 0

-- the sum is that of `checksum::of_bits`, refusals included
pub sum_zero : {w : ℕ} {bits : List ℕ} {r : Sum} → SumUnder w 0 bits r → OfBits w bits r
sum_zero {w} {bits} a =
    record { number = a.number; value = a.value ∙ ap (λ (v : ℕ). when_done (bits_number w bits) v 0) (checksum_zero_mask w (generator w) bits) }

pub zero_sum : {w : ℕ} {bits : List ℕ} {r : Sum} → OfBits w bits r → SumUnder w 0 bits r
zero_sum {w} {bits} a =
    record { number = a.number; value = a.value ∙ ap (λ (v : ℕ). when_done (bits_number w bits) v 0) (sym (checksum_zero_mask w (generator w) bits)) }

pub append_zero : {w : ℕ} {bits out : List ℕ} {r : Written} {o : List ℕ} → Appended w 0 bits out r o → r.number ≡ 0
    → take r.count o ≡ attached w (generator w) bits
append_zero {w} {bits} a done = append-word a done ∙ attached_zero_mask w (generator w) bits

pub test_zero : {w : ℕ} {word : List ℕ} {s : Tested} → WordTested w 0 word s → s.number ≡ 0 → w ≤ length word → s.holds ≡ checks w (generator w) word
test_zero {w} {word} t done long =
    let n : bits_number w word ≡ 0 = sym t.number ∙ done in
    let known = bits-done w word n in
    t.holds ∙ when-done (bits_number w word) _ false n ∙ tests_zero_mask w (generator w) known.0.below word known.1 long

-- ---- "(higher bits ignored)": masks that agree in the width get the same answers, and the same is written

module _ (w m n : ℕ) (e : m % 2 ^ w ≡ n % 2 ^ w) where
  sums_same : (g : ℕ) (bits : List ℕ) → checksum_under w g m bits ≡ checksum_under w g n bits
  unfolding checksum_under
  sums_same g bits = under_same w m n (checksum w g bits) e

  pub sum_ignores : {bits : List ℕ} {r : Sum} → SumUnder w m bits r → SumUnder w n bits r
  sum_ignores {bits} a =
      record { number = a.number; value = a.value ∙ ap (λ (v : ℕ). when_done (bits_number w bits) v 0) (sums_same (generator w) bits) }

  pub append_ignores : {bits out : List ℕ} {r : Written} {o : List ℕ} → Appended w m bits out r o → Appended w n bits out r o
  append_ignores {bits} {out} a =
      record {
        number = a.number;
        count = a.count;
        output = a.output
            ∙ ap (λ (x : List ℕ). when_done (append_number w bits (length out)) (x ++ drop (length bits + w) out) out) (attached_under_same w (generator w) m n bits e);
      }

  pub test_ignores : {word : List ℕ} {s : Tested} → WordTested w m word s → WordTested w n word s
  unfolding tests_under
  test_ignores {word} t =
      record {
        number = t.number;
        holds = t.holds
            ∙ ap (λ (x : List ℕ). when_done (bits_number w word) (same word x) false) (attached_under_same w (generator w) m n (take (length word - w) word) e);
      }

-- ---- no statement is empty: the single bit 1, whose checksums are 1021 and 9B (P4, P5), with every bit changed, with the last one, and with every second;
-- and appending it, with each number

abbrev bit : List ℕ
bit = 1 ∷ []

pub worked-sums :
    ◌≡◌ {A = List ℕ} (checksum_under 16 gen16 0xFFFF bit ∷ checksum_under 8 gen8 0x1FF bit ∷ checksum_under 16 gen16 0x0001 bit ∷ checksum_under 16 gen16 0x5555 bit ∷ [])
    (0xEFDE ∷ 0x64 ∷ 0x1020 ∷ 0x4574 ∷ [])
unfolding under checksum_under reduce divide_on remainder checksum
worked-sums = refl

pub worked-word : attached_under 16 gen16 0xFFFF bit ≡ 1 ∷ 1 ∷ 1 ∷ 1 ∷ 0 ∷ 1 ∷ 1 ∷ 1 ∷ 1 ∷ 1 ∷ 1 ∷ 0 ∷ 1 ∷ 1 ∷ 1 ∷ 1 ∷ 0 ∷ []
unfolding under checksum_under attached_under digits reduce divide_on remainder checksum
worked-word = refl

pub worked_tests : ◌≡◌ {A = List Bool} (tests_under 16 gen16 0xFFFF (attached_under 16 gen16 0xFFFF bit) ∷ tests_under 16 gen16 0 (attached_under 16 gen16 0xFFFF bit) ∷ [])
    (true ∷ false ∷ [])
unfolding under checksum_under attached_under tests_under same digits reduce divide_on remainder checksum
worked_tests = refl

pub worked-numbers : ◌≡◌ {A = List ℕ} (append_number 7 bit 0 ∷ append_number 16 bit 16 ∷ append_number 16 (2 ∷ []) 17 ∷ append_number 16 bit 17 ∷ []) (8 ∷ 11 ∷ 12 ∷ 0 ∷ [])
unfolding append_number answered other_width some_over
worked-numbers = refl
