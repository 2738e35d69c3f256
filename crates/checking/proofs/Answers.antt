-- What the public calls answer, by their tests.
use mathlib.Core.Path.{◌≡◌, refl, sym, ap, ◌∙◌}
use mathlib.Core.Bool.{Bool, true, false, cond}
use mathlib.Core.List.{List, [], ◌∷◌, ◌++◌}
use Prim.Native.Nat.{ℕ, ◌*◌, ◌≤◌, ◌<◌}
use native.Mathlib.Nat.{mul-le-mul}
use native.Mathlib.Omega.{arith}
use lib.Dec.{ltb, lit<}
use lib.ListN.{length, drop}
use borrow.Author.Tests.{lt-ltb, le-ltb, ltb-false}
use Rattle.bits.specs.Bits.{some_over}
use Rattle.bits.specs.Numbers.{answered}
use Rattle.bits.specs.Refusals.{refusal_number}
use Rattle.bits.specs.declared.number.Refusal.{Refusal}
use Rattle.bits.proofs.Answers.{applies, passes, passed, none_left, Refusals, first_part, last_part, when-done, when_refused, refusal-numbered}
use Rattle.bits.proofs.Ranges.{equal_or}
use Rattle.profile.specs.Record.{rows, columns}
use Rattle.profile.specs.Promises.{judged}
use Rattle.profile.proofs.Answers.{judged-first, judged-passed}
use Rattle.parity.specs.Matrix.{checks}
use Rattle.parity.specs.Promises.{has_size, table_for, unfit}
use Rattle.parity.specs.Steps.Grouped.{Shape}
use Rattle.parity.proofs.Answers.{done_first, fits}
use Rattle.parity.proofs.Ready.{ready}
use Rattle.checking.specs.Promises.{check_number, WordChecked, sums_number, RowsSummed}
use Rattle.checking.specs.Sums.{row_sums}
use Rattle.checking.specs.Steps.Gate.{fit_conditions, fit_number}

-- ---- what is read from the profile: the table T, and n and c for its rows and columns

module _ (R : List ℕ) (z' : ℕ) (T : List ℕ) (n c : ℕ) (table_is : T ≡ table_for R z') (n-is : n ≡ rows R) (c-is : c ≡ columns R) where
  pub shape_is : Shape (table_for R z') (rows R) (columns R) z' → Shape T n c z'
  shape_is h = rw (table_is, n-is, c-is) h

  pub check_read : (w : List ℕ) {r : Bool} → r ≡ checks T n c z' w → r ≡ checks (table_for R z') (rows R) (columns R) z' w
  check_read w e = rw (table_is, n-is, c-is) at e

  pub sums_read : (w out : List ℕ) {out' : List ℕ} → out' ≡ row_sums T n c z' w ++ drop (n * z') out
      → out' ≡ row_sums (table_for R z') (rows R) (columns R) z' w ++ drop (rows R * z') out
  sums_read w out e = rw (table_is, n-is, c-is) at e

-- ---- 5, 6 and 8

module _ (R : List ℕ) (z' : ℕ) (word : List ℕ) where
  abbrev eight : List (ℕ × Bool)
  eight = (8, unfit R z' (columns R) word) ∷ []

  pub fit_unjudged : (e : Refusal) → refusal_number e ≡ judged R → refusal_number e ≡ fit_number R z' word
  unfolding fit_number
  fit_unjudged e q = q ∙ sym (judged-first R eight (λ n. refusal-numbered e (q ∙ n)))

  pub fit_judged : judged R ≡ 0 → fit_number R z' word ≡ cond (unfit R z' (columns R) word) 8 0
  unfolding fit_number answered
  fit_judged e = judged-passed R eight e

  -- the profile is accepted, z' is one of its sizes, and the word is as long as its coded blocks
  pub record Fit : Type 0 where
    pub judged : judged R ≡ 0
    pub size : has_size R z' ≡ true
    pub long : length word ≡ columns R * z'
    pub shape : Shape (table_for R z') (rows R) (columns R) z'

  pub fit : fit_number R z' word ≡ 0 → Fit
  unfolding fit_number
  fit e =
      let first = done_first R eight e in
      let taken = fits R z' (columns R) word (passed 8 [] (unfit R z' (columns R) word) (lit< tt) first.1).0 in
      record { judged = first.0; size = taken.0; long = taken.1; shape = (ready R z' first.0 taken.0).shape }

  -- what stands behind them
  module _ (rest : List (ℕ × Bool)) (f : ℕ) (found : f ≡ fit_number R z' word) where
    pub fit-first : (f ≡ 0 → ⊥) → f ≡ answered (fit_conditions R z' word ++ rest)
    unfolding fit_number
    fit-first h = found ∙ sym (first_part (fit_conditions R z' word) rest (λ q. h (found ∙ q)))

    pub fit_passed : f ≡ 0 → answered rest ≡ answered (fit_conditions R z' word ++ rest)
    unfolding fit_number Refusals
    fit_passed e = sym (last_part (fit_conditions R z' word) rest tt (sym found ∙ e))

  fit-done : (rest : List (ℕ × Bool)) → answered (fit_conditions R z' word ++ rest) ≡ 0 → (fit_number R z' word ≡ 0) × (answered rest ≡ 0)
  fit-done rest e =
      let n = fit_number R z' word in
      equal_or n 0 (λ q. (q, fit_passed rest n refl q ∙ e)) (λ h. absurd (h (fit-first rest n refl h ∙ e)))

-- ---- checking a word

module _ (R : List ℕ) (z' : ℕ) (word : List ℕ) where
  module _ (f : ℕ) (found : f ≡ fit_number R z' word) where
    pub word_first : (f ≡ 0 → ⊥) → f ≡ check_number R z' word
    unfolding check_number
    word_first h = fit-first R z' word _ f found h

    module _ (done : f ≡ 0) (o : Bool) (over : o ≡ some_over 1 word) where
      pub word-12 : o ≡ true → 12 ≡ check_number R z' word
      unfolding check_number
      word-12 q = sym (applies 12 [] (sym over ∙ q)) ∙ fit_passed R z' word _ f found done

      pub word-0 : o ≡ false → 0 ≡ check_number R z' word
      unfolding check_number
      word-0 q = sym (passes 12 [] (sym over ∙ q) ∙ none_left) ∙ fit_passed R z' word _ f found done

  pub word_fit : check_number R z' word ≡ 0 → Fit R z' word
  unfolding check_number
  word_fit e = fit R z' word (fit-done R z' word ((12, some_over 1 word) ∷ []) e).0

  pub checked_refused : (n : ℕ) → n ≡ check_number R z' word → (n ≡ 0 → ⊥) → WordChecked R z' word (record { number = n; checks = false })
  checked_refused n e h = record { number = e; checks = sym (when_refused (check_number R z' word) _ false (λ q. h (e ∙ q))) }

  pub checked-done : (n : ℕ) → n ≡ check_number R z' word → n ≡ 0 → (b : Bool) → b ≡ checks (table_for R z') (rows R) (columns R) z' word
      → WordChecked R z' word (record { number = n; checks = b })
  checked-done n e h b q = record { number = e; checks = q ∙ sym (when-done (check_number R z' word) _ false (sym e ∙ h)) }

-- ---- the sums of its rows

module _ (R : List ℕ) (z' : ℕ) (word : List ℕ) (room : ℕ) where
  abbrev single : List (ℕ × Bool)
  single = (12, some_over 1 word) ∷ []

  abbrev behind : List (ℕ × Bool)
  behind = (11, ltb room (rows R * z')) ∷ single

  module _ (f : ℕ) (found : f ≡ fit_number R z' word) where
    pub sums_first : (f ≡ 0 → ⊥) → f ≡ sums_number R z' word room
    unfolding sums_number
    sums_first h = fit-first R z' word behind f found h

    module _ (done : f ≡ 0) (n : ℕ) (n-is : n ≡ rows R) where
      long-is : n * z' ≡ rows R * z'
      long-is = ap (λ (x : ℕ). x * z') n-is

      -- the rows are at most 40 groups of 81
      pub rows_most : n * z' ≤ 3240
      rows_most =
          let shape = (fit R z' word (sym found ∙ done)).shape in
          rw n-is (mul-le-mul shape.rows_most shape.z_most)

      pub sums-11 : room < n * z' → 11 ≡ sums_number R z' word room
      unfolding sums_number
      sums-11 l = sym (applies 11 single (lt-ltb room (rows R * z') (omega (arith, long-is)))) ∙ fit_passed R z' word behind f found done

      module _ (l : n * z' ≤ room) (o : Bool) (over : o ≡ some_over 1 word) where
        enough : answered behind ≡ answered single
        enough = passes 11 single (le-ltb room (rows R * z') (omega (arith, long-is)))

        pub sums-12 : o ≡ true → 12 ≡ sums_number R z' word room
        unfolding sums_number
        sums-12 q = sym (enough ∙ applies 12 [] (sym over ∙ q)) ∙ fit_passed R z' word behind f found done

        pub sums-0 : o ≡ false → 0 ≡ sums_number R z' word room
        unfolding sums_number
        sums-0 q = sym (enough ∙ passes 12 [] (sym over ∙ q) ∙ none_left) ∙ fit_passed R z' word behind f found done

  pub sums-fit : sums_number R z' word room ≡ 0 → Fit R z' word × (rows R * z' ≤ room)
  unfolding sums_number
  sums-fit e =
      let both = fit-done R z' word behind e in
      (fit R z' word both.0, ltb-false room (rows R * z') (passed 11 single (ltb room (rows R * z')) (lit< tt) both.1).0)

module _ (R : List ℕ) (z' : ℕ) (word out : List ℕ) where
  pub summed-refused : (n : ℕ) → n ≡ sums_number R z' word (length out) → (n ≡ 0 → ⊥) → RowsSummed R z' word out (record { number = n; count = 0 }) out
  summed-refused n e h =
      let refused : sums_number R z' word (length out) ≡ 0 → ⊥ = λ q. h (e ∙ q) in
      record { number = e; count = sym (when_refused _ (rows R * z') 0 refused); output = sym (when_refused _ _ out refused) }

  pub summed-done : (n : ℕ) → n ≡ sums_number R z' word (length out) → n ≡ 0 → (count : ℕ) → count ≡ rows R * z' → (out' : List ℕ)
      → out' ≡ row_sums (table_for R z') (rows R) (columns R) z' word ++ drop (rows R * z') out
      → RowsSummed R z' word out (record { number = n; count = count }) out'
  summed-done n e h count p out' q =
      let done : sums_number R z' word (length out) ≡ 0 = sym e ∙ h in
      record { number = e; count = p ∙ sym (when-done _ (rows R * z') 0 done); output = q ∙ sym (when-done _ _ out done) }
