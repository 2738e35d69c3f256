-- "a checker that they can read next to the printed matrix. It goes bit by bit through the spread-out matrix, with no rotation of whole groups. For every
-- profile, z and word it is to say the same as the one in use, proved once over z. Hosted calls may ask for either." (document 02, CR 4) No promise says
-- which checker was asked, and every call that takes the choice meets its promise with either. So two answers to the same call, each by whichever checker,
-- are equal: for every record, every z and all octets at once.
use mathlib.Core.Path.{◌≡◌, refl, sym, ap, ◌∙◌}
use mathlib.Core.Bool.{Bool, true, false}
use mathlib.Core.List.{List, [], ◌∷◌}
use mathlib.Core.Logic.{◌⊎◌}
use Prim.Native.Nat.{ℕ, ◌*◌, ◌<◌}
use lib.Dec.{eqb}
use lib.ListN.{length, get_or, drop, get_or-append}
use native.Mathlib.Omega.{arith}
use borrow.Author.Tests.{eqb-true}
use Rattle.bits.specs.Bits.{number_at, some_over}
use Rattle.bits.specs.Numbers.{answered}
use Rattle.bits.specs.Ranges.{sum_below, parity_below, all_below, any_below, list_below}
use Rattle.bits.specs.declared.number.Written.{Written}
use Rattle.bits.specs.declared.count.Terms.{Terms}
use Rattle.bits.proofs.Answers.{when-done}
use Rattle.bits.proofs.Listed.{length_list, at_list}
use Rattle.bits.proofs.Ranges.{all-at, all_of}
use Rattle.profile.specs.Record.{kb, m, x, kind, t, z, offset, rows, columns, table_size, table, entry, kind_right, header_right, rises, sizes_right, offset_due, offsets_right, ends_right, shift_right, table_right, well_formed}
use Rattle.profile.specs.Staircase.{filled, filled_between, first_column, next_due, next_column, staircase, row_ends, extension_row, extended, staircases}
use Rattle.parity.specs.Matrix.{square, spread, bit_at, row_even, checks}
use Rattle.parity.specs.Promises.{has_size, table_for, unfit}
use Rattle.checking.specs.Promises.{check_number, WordChecked, sums_number, RowsSummed}
use Rattle.checking.specs.Sums.{row_sum, row_sums}
use Rattle.checking.specs.declared.Verdict.{Verdict}
use Rattle.checking.proofs.Agreement.{word_checked_agree}
use Rattle.coding.specs.Promises.{Received}
use Rattle.coding.proofs.Agreement.{receive-agree}
use Rattle.shelf.specs.Shelf.{private_shelf}
use Rattle.shelf.specs.Isolation.{Own, Public, AgreeFor}
use Rattle.shelf.specs.Lookup.{lookup_record}
use Rattle.shelf.specs.Promises.{HostedReceived, HostedChecked}
use Rattle.shelf.proofs.Agreement.{hosted_receive_agree, hosted_check_agree}
use Rattle.shelf.proofs.Hosted.{found_with}
use Rattle.shelf.proofs.Isolation.{same_check, served}

-- ---- "For every profile, z and word it is to say the same as the one in use": checking, and receiving, which tests every block

pub checkers_agree : {R : List ℕ} {z : ℕ} {word : List ℕ} {quick plain : Verdict} → WordChecked R z word quick → WordChecked R z word plain → quick ≡ plain
checkers_agree a b = word_checked_agree a b

pub receivers_agree : {R : List ℕ} {a : ℕ} {terms : Terms} {bits out : List ℕ} {quick plain : Written} {o o' : List ℕ}
    → Received R a terms bits out quick o → Received R a terms bits out plain o' → (quick ≡ plain) × (o ≡ o')
receivers_agree a b = receive-agree a b

-- ---- "Hosted calls may ask for either"

pub hosted_checkers_agree : {private public : List ℕ} {t p z : ℕ} {word : List ℕ} {quick plain : Verdict}
    → HostedChecked private public t p z word quick → HostedChecked private public t p z word plain → quick ≡ plain
hosted_checkers_agree a b = hosted_check_agree a b

pub hosted_receivers_agree : {private public : List ℕ} {t p a : ℕ} {terms : Terms} {bits out : List ℕ} {quick plain : Written} {o o' : List ℕ}
    → HostedReceived private public t p a terms bits out quick o → HostedReceived private public t p a terms bits out plain o' → (quick ≡ plain) × (o ≡ o')
hosted_receivers_agree a b = hosted_receive_agree a b

-- the second demand of the hosted check: "A tenant is served from its own private records or the public shelf", whatever is answered but 1 to 4
pub check_served : {private public : List ℕ} {t p z : ℕ} {word : List ℕ} {r : Verdict} → HostedChecked private public t p z word r
    → (r.number ≡ 0) ⊎ (4 < r.number)
    → (Own private t p (lookup_record private public t p) ⊎ Public private public t p (lookup_record private public t p))
    × WordChecked (lookup_record private public t p) z word r
check_served {private} {public} {t} {p} {r = r} h other =
    let found = found_with private public t p r.number (λ n. ap (λ (v : Verdict). v.number) (h.refused n)) other in
    (served private public t p found, h.found found)

-- and its isolation: what other tenants keep on a well-formed shelf decides nothing of it
pub check_isolated : {t : ℕ} {S S' : List ℕ} → private_shelf S ≡ true → private_shelf S' ≡ true → AgreeFor t S S' → (public : List ℕ) (p : ℕ)
    {z : ℕ} {word : List ℕ} {r r' : Verdict} → HostedChecked S public t p z word r → HostedChecked S' public t p z word r' → r ≡ r'
check_isolated formed formed' agree public p a b =
    hosted_check_agree (same_check (record { formed = formed ∙ sym formed'; agree = agree }) public p a) b

-- ---- the sums of the rows are those of the check: each is 0 exactly where its row is even, and all are exactly where the word checks

even_is : (T : List ℕ) (columns' z : ℕ) (w : List ℕ) (row : ℕ) → row_even T columns' z w row ≡ eqb (row_sum T columns' z w row) 0
unfolding row_even row_sum
even_is T columns' z w row = refl

module _ {R : List ℕ} {z : ℕ} {word out : List ℕ} {s : Written} {o : List ℕ} (sums : RowsSummed R z word out s o) (done : s.number ≡ 0) where
  abbrev T : List ℕ
  T = table_for R z

  -- the octet of a row
  pub sum-at : (row : ℕ) → row < rows R * z → get_or o row 0 ≡ row_sum T (columns R) z word row
  unfolding row_sums
  sum-at row l =
      let number : sums_number R z word (length out) ≡ 0 = sym sums.number ∙ done in
      let long = length_list (rows R * z) (row_sum T (columns R) z word) in
      ap (λ (x : List ℕ). get_or x row 0) (sums.output ∙ when-done _ _ out number)
      ∙ get_or-append (row_sums T (rows R) (columns R) z word) (drop (rows R * z) out) 0 row (omega (arith, long))
      ∙ at_list (rows R * z) (row_sum T (columns R) z word) row l

  pub row_is_even : (row : ℕ) → row < rows R * z → row_even T (columns R) z word row ≡ eqb (get_or o row 0) 0
  row_is_even row l = even_is T (columns R) z word row ∙ ap (λ (x : ℕ). eqb x 0) (sym (sum-at row l))

  module _ {r : Verdict} (check : WordChecked R z word r) (taken : r.number ≡ 0) where
    checks-is : r.checks ≡ checks T (rows R) (columns R) z word
    checks-is = check.checks ∙ when-done (check_number R z word) _ _ (sym check.number ∙ taken)

    pub checked-sums : r.checks ≡ true → (row : ℕ) → row < rows R * z → get_or o row 0 ≡ 0
    unfolding checks
    checked-sums e row l =
        eqb-true (get_or o row 0) 0
        (sym (row_is_even row l) ∙ all-at (rows R * z) (row_even T (columns R) z word) (sym checks-is ∙ e) row l)

    pub sums-checked : ((row : ℕ) → row < rows R * z → get_or o row 0 ≡ 0) → r.checks ≡ true
    unfolding checks
    sums-checked h =
        checks-is ∙ all_of (rows R * z) (row_even T (columns R) z word) (λ row l. row_is_even row l ∙ ap (λ (x : ℕ). eqb x 0) (h row l))

-- ---- no statement is empty: a table with z 5, which tells a shift from one the other way round, as z 2 does not; the word of docs/CHECKER.md that checks,
-- the same with place 6 turned over, and 5, 8, 11, 12 and 0 of `row_sums`

abbrev five : List ℕ
five = 2 ∷ 1 ∷ 0 ∷ 255 ∷ 4 ∷ 0 ∷ 0 ∷ 0 ∷ 1 ∷ 1 ∷ 255 ∷ 0 ∷ []

abbrev good : List ℕ
good = 1 ∷ 0 ∷ 0 ∷ 0 ∷ 0 ∷ 0 ∷ 1 ∷ 0 ∷ 1 ∷ 1 ∷ 1 ∷ 0 ∷ 1 ∷ 0 ∷ 0 ∷ 1 ∷ 0 ∷ 1 ∷ 1 ∷ 1 ∷ []

abbrev turned : List ℕ
turned = 1 ∷ 0 ∷ 0 ∷ 0 ∷ 0 ∷ 0 ∷ 0 ∷ 0 ∷ 1 ∷ 1 ∷ 1 ∷ 0 ∷ 1 ∷ 0 ∷ 0 ∷ 1 ∷ 0 ∷ 1 ∷ 1 ∷ 1 ∷ []

pub worked-checks : ◌≡◌ {A = List Bool} (checks five 3 4 5 good ∷ checks five 3 4 5 turned ∷ []) (true ∷ false ∷ [])
unfolding checks row_even spread square bit_at entry sum_below parity_below all_below
worked-checks = refl

pub worked-sums : row_sums five 3 4 5 turned ≡ 1 ∷ 0 ∷ 0 ∷ 0 ∷ 0 ∷ 0 ∷ 1 ∷ 0 ∷ 0 ∷ 0 ∷ 1 ∷ 0 ∷ 0 ∷ 0 ∷ 0 ∷ []
unfolding row_sums row_sum list_below spread square bit_at entry sum_below parity_below
worked-sums = refl

-- the record of that table
abbrev record5 : List ℕ
record5 = 0 ∷ 1 ∷ 0 ∷ 3 ∷ 0 ∷ 0 ∷ 0 ∷ 1 ∷ 0 ∷ 1 ∷ 0 ∷ 5 ∷ 0 ∷ 14 ∷ five

pub worked-numbers : ◌≡◌ {A = List ℕ}
    (sums_number [] 5 good 15 ∷ sums_number record5 4 good 15 ∷ sums_number record5 5 good 14 ∷ sums_number record5 5 (2 ∷ drop 1 good) 15 ∷ sums_number record5 5 good 15 ∷ [])
    (5 ∷ 8 ∷ 11 ∷ 12 ∷ 0 ∷ [])
unfolding sums_number answered some_over unfit has_size sum_below any_below all_below number_at kb m x kind t z offset rows columns table_size table entry well_formed kind_right header_right rises sizes_right offset_due
    offsets_right ends_right shift_right table_right filled filled_between first_column next_due next_column staircase row_ends extension_row extended staircases
worked-numbers = refl
