-- "A noisy control word should still be read" (document 02, CR 10): what the request says of the word and the number that `nearest_word` answers, over its promise.
use mathlib.Core.Path.{◌≡◌, refl, sym, ap, ap₂, ◌∙◌}
use mathlib.Core.Bool.{true, cond}
use mathlib.Core.List.{List, [], ◌∷◌, ◌++◌, map}
use Prim.Native.Nat.{ℕ, ◌^◌, ◌≤◌, ◌<◌}
use native.Mathlib.Omega.{arith}
use borrow.Author.Tests.{eq-eqb, le-ltb, le-leb}
use lib.Count.{ones, ones_in}
use lib.Dec.{eqb, ltb, leb, lit<}
use lib.ListN.{length, take, drop, replicate}
use lib.Seq.{take_at}
use Rattle.bits.specs.Bits.{AreBits, some_over, digits, value_of}
use Rattle.bits.specs.Numbers.{answered}
use Rattle.bits.specs.Ranges.{sum_below, all_below}
use Rattle.bits.specs.declared.number.Written.{Written}
use Rattle.bits.proofs.Answers.{when-done}
use Rattle.bits.proofs.Digits.{length_digits, digits-bits, digits_value, value-digits, value_lt}
use Rattle.bits.proofs.Over.{bits_not_over}
use Rattle.control.specs.Register.{output, stream, after, preset, streams}
use Rattle.control.specs.Promises.{WordCoded}
use Rattle.control.proofs.Answers.{Word}
use Rattle.control.proofs.Apart.{words-apart}
use Rattle.control.proofs.Registers.{length-streams, streams-bits}
use Rattle.nearest.specs.Nearest.{unlike, differences, away, nearest}
use Rattle.nearest.specs.Promises.{nearest_word_number, WordFound}
use Rattle.nearest.specs.declared.Found.{Found}
use Rattle.nearest.proofs.Nearest.{nearest_lt, none_fewer, smallest_of_equals, nearest-is, differences-none, differences-same}
use Rattle.demands.specs.Worked.{three_streams, nearest_of, nearest_words, computed, due}
use Rattle.demands.proofs.Control.{coded-streams}

module _ (D : ℕ) (heard : List ℕ) {out : List ℕ} {r : Found} {o : List ℕ} (found : WordFound D heard out r o) (z : r.number ≡ 0) where
  done : nearest_word_number D heard (length out) ≡ 0
  done = sym found.number ∙ z

  reported : r.differences ≡ away D heard (nearest D heard)
  reported = found.differences ∙ when-done (nearest_word_number D heard (length out)) (away D heard (nearest D heard)) 0 done

  -- the word that is written
  pub word_is : take r.count o ≡ digits D (nearest D heard)
  word_is =
      ap (λ (n : ℕ). take n o) (found.count ∙ when-done (nearest_word_number D heard (length out)) D 0 done)
      ∙ ap (take D) (found.output ∙ when-done (nearest_word_number D heard (length out)) (digits D (nearest D heard) ++ drop D out) out done)
      ∙ take_at (digits D (nearest D heard)) (drop D out) D (length_digits D (nearest D heard))

  pub word_of_bits : AreBits (take r.count o) × (length (take r.count o) ≡ D)
  word_of_bits = (rw word_is (digits-bits D (nearest D heard)), ap length word_is ∙ length_digits D (nearest D heard))

  -- a word as a number
  away_of : (c : List ℕ) → AreBits c → length c ≡ D → (away D heard (value_of c) ≡ differences (streams c) heard) × (value_of c < 2 ^ D)
  unfolding away
  away_of c bits e = (
    ap (λ (w : List ℕ). differences (streams w) heard) (ap (λ (n : ℕ). digits n (value_of c)) (sym e) ∙ digits_value c bits),
    rw e at (value_lt c bits),
  )

  -- "No word may exist with fewer differences than reported"
  pub no_word_nearer : (c : List ℕ) → AreBits c → length c ≡ D → r.differences ≤ differences (streams c) heard
  no_word_nearer c bits e = let a = away_of c bits e in omega (arith, reported, a.0, none_fewer D heard (value_of c) a.1)

  -- "find the input word whose tail-biting code differs in the fewest places, and that number of places"
  pub differences_attained : differences (streams (take r.count o)) heard ≡ r.differences
  unfolding away
  differences_attained = ap (λ (w : List ℕ). differences (streams w) heard) word_is ∙ sym reported

  -- "Among equals take the smallest, read as binary with the first bit highest"
  pub smallest-taken : (c : List ℕ) → AreBits c → length c ≡ D → differences (streams c) heard ≡ r.differences → value_of (take r.count o) ≤ value_of c
  smallest-taken c bits e q =
      let a = away_of c bits e in
      let is : value_of (take r.count o) ≡ nearest D heard = ap value_of word_is ∙ value-digits D (nearest D heard) (nearest_lt D heard) in
      omega (arith, is, smallest_of_equals D heard (value_of c) a.1 (a.0 ∙ q ∙ reported))

-- ---- an unharmed word is read as it is

module _ (c : List ℕ) (w : Word c) where
  heard-number : (lent : ℕ) → length c ≤ lent → nearest_word_number (length c) (streams c) lent ≡ 0
  unfolding nearest_word_number answered
  heard-number lent room =
      rw (
        le-leb 6 (length c) w.six,
        le-leb (length c) 128 w.most,
        eq-eqb _ _ (length-streams c),
        le-ltb lent (length c) room,
        bits_not_over (streams c) (streams-bits c),
      )

  unharmed : {out : List ℕ} {r : Found} {o : List ℕ} → length c ≤ length out → WordFound (length c) (streams c) out r o
      → (r.number ≡ 0) × (r.differences ≡ 0) × (take r.count o ≡ c)
  unharmed {out} {r} {o} room found =
      let z : r.number ≡ 0 = found.number ∙ heard-number (length out) room in
      let word = take r.count o in
      let bits = word_of_bits (length c) (streams c) found z in
      let none = no_word_nearer (length c) (streams c) found z c w.bits refl in
      let no : r.differences ≡ 0 = omega (arith, none, differences-none (streams c)) in
      let long : length (streams word) ≡ length (streams c) = omega (arith, length-streams word, length-streams c, bits.1) in
      let same : streams word ≡ streams c =
      differences-same (streams word) (streams c) long (differences_attained (length c) (streams c) found z ∙ no) in
      (z, no, words-apart word c bits.0 w.bits (omega (arith, bits.1, w.six)) (sym bits.1) same)

pub unharmed_word : (c : List ℕ) {mid : List ℕ} {q : Written} {m out : List ℕ} {r : Found} {o : List ℕ} → WordCoded c mid q m → q.number ≡ 0
    → length c ≤ length out → WordFound (length c) (take q.count m) out r o → (r.number ≡ 0) × (r.differences ≡ 0) × (take r.count o ≡ c)
unharmed_word c coded z room found = let word = coded-streams c coded z in unharmed c word.0 room (rw word.1 at found)

-- ---- the worked numbers, in one table

-- what is computed of a word that is the nearest: no word is nearer, all before it are further away, and how many words are as near
abbrev Computed : ℕ → List ℕ → ℕ → ℕ → ℕ → Type 0
Computed D heard n far count =
    (all_below (2 ^ D) (λ k. leb (away D heard n) (away D heard k)) ≡ true) × (all_below n (λ j. ltb (away D heard n) (away D heard j)) ≡ true)
    × (away D heard n ≡ far) × (sum_below (2 ^ D) (λ k. cond (eqb (away D heard k) far) 1 0) ≡ count)

as_computed : (D : ℕ) (heard : List ℕ) (n far count : ℕ) → n < 2 ^ D → Computed D heard n far count → nearest_of D heard far ≡ n ∷ far ∷ count ∷ []
as_computed D heard n far count l c =
    let is = nearest-is D heard n l c.0 c.1 in
    ap (λ (x : ℕ). x ∷ away D heard x ∷ sum_below (2 ^ D) (λ k. cond (eqb (away D heard k) far) 1 0) ∷ []) is
    ∙ ap₂ (λ (x y : ℕ). n ∷ x ∷ y ∷ []) c.2 c.3

first : Computed 6 (three_streams 6 26 56 52) 1 0 1
unfolding output stream after preset streams ones ones_in digits unlike differences away all_below sum_below
first = (refl, refl, refl, refl)

second : Computed 6 (three_streams 6 11 50 54) 27 4 3
unfolding output stream after preset streams ones ones_in digits unlike differences away all_below sum_below
second = (refl, refl, refl, refl)

third : Computed 7 (three_streams 7 105 104 77) 41 6 4
unfolding output stream after preset streams ones ones_in digits unlike differences away all_below sum_below
third = (refl, refl, refl, refl)

pub worked-nearest : map computed nearest_words ≡ map due nearest_words
unfolding nearest_words
worked-nearest =
    ap₂ (λ (a : List ℕ) (l : List (List ℕ)). a ∷ l) (as_computed 6 (three_streams 6 26 56 52) 1 0 1 (lit< tt) first)
    (ap₂ (λ (a : List ℕ) (l : List (List ℕ)). a ∷ l) (as_computed 6 (three_streams 6 11 50 54) 27 4 3 (lit< tt) second)
    (ap (λ (a : List ℕ). a ∷ []) (as_computed 7 (three_streams 7 105 104 77) 41 6 4 (lit< tt) third)))

-- ---- every number is met

pub nearest-numbers :
    nearest_word_number 5 [] 0 ∷ nearest_word_number 129 [] 0 ∷ nearest_word_number 6 (replicate 17 0) 0 ∷ nearest_word_number 6 (replicate 19 0) 0
    ∷ nearest_word_number 6 (replicate 18 2) 5 ∷ nearest_word_number 6 (2 ∷ replicate 17 0) 6 ∷ nearest_word_number 6 (replicate 18 1) 6 ∷ []
    ≡ 17 ∷ 17 ∷ 8 ∷ 8 ∷ 11 ∷ 12 ∷ 0 ∷ []
unfolding nearest_word_number answered some_over
nearest-numbers = refl
