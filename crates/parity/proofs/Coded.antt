-- The coded block: there are parity bits with which the places check, what the definition, a search over all choices of them, gives, and that the quick
-- way gives it.
use mathlib.Core.Path.{◌≡◌, sym, ap, ap₂, ◌∙◌, subst}
use mathlib.Core.Bool.{true}
use mathlib.Core.List.{List, ◌++◌}
use Prim.Native.Nat.{ℕ, ◌+◌, ◌-◌, ◌*◌, ◌^◌, ◌≤◌, ◌<◌}
use native.Mathlib.Nat.{add-mul}
use native.Mathlib.Omega.{arith}
use lib.ListN.{length, get_or, take, drop, length-append, length-drop, take-append-drop, get_or-append}
use lib.Seq.{ext_get_or, get_or-append-add, get_or-take, get_or-drop, length-take-le, take_at}
use Rattle.bits.specs.Bits.{AreBits, digits, value_of}
use Rattle.bits.specs.Ranges.{first_below}
use Rattle.bits.proofs.Digits.{length_digits, digits-bits, digits_value, value_lt}
use Rattle.bits.proofs.Ranges.{any_of, first_some}
use Rattle.parity.specs.Matrix.{checks}
use Rattle.parity.specs.Coded.{with_parity, checks_with, has_parity, coded}
use Rattle.parity.specs.Steps.Grouped.{Solution}
use Rattle.parity.proofs.Rows.{Solvable}
use Rattle.parity.proofs.Solve.{checked-solved, solved-checked}
use Rattle.parity.proofs.Unique.{solution_unique}
use Rattle.parity.proofs.Solutions.{some_solution}

module _ (T : List ℕ) (rows columns z : ℕ) (sys : List ℕ) where
  -- the choice that is made
  abbrev choice : ℕ
  choice = first_below (2 ^ (rows * z)) (checks_with T rows columns z sys)

  module _ (kb : ℕ) (size : length sys ≡ kb * z) where
    -- ---- a block with any choice of parity bits

    with-length : (n : ℕ) → length (with_parity rows z sys n) ≡ (kb + rows) * z
    unfolding with_parity
    with-length n = length-append sys (digits (rows * z) n) ∙ omega (arith, length_digits (rows * z) n, add-mul kb rows z)

    with-front : (n p : ℕ) → p < kb * z → get_or (with_parity rows z sys n) p 0 ≡ get_or sys p 0
    unfolding with_parity
    with-front n p h = get_or-append sys (digits (rows * z) n) 0 p (omega arith)

    with-bits : (n p : ℕ) → kb * z ≤ p → get_or (with_parity rows z sys n) p 0 < 2
    unfolding with_parity
    with-bits n p h =
        let at : length sys + (p - kb * z) ≡ p = omega arith in
        subst (λ (x : ℕ). get_or (sys ++ digits (rows * z) n) x 0 < 2) at
        (rw (get_or-append-add sys (digits (rows * z) n) (p - kb * z) 0) (digits-bits (rows * z) n (p - kb * z)))

    with-take : (n : ℕ) → take (kb * z) (with_parity rows z sys n) ≡ sys
    unfolding with_parity
    with-take n = take_at sys (digits (rows * z) n) (kb * z) size

    -- ---- the laws of the coded block

    pub coded-take : take (kb * z) (coded T rows columns z sys) ≡ sys
    unfolding coded
    coded-take = with-take choice

    pub coded-bits : (p : ℕ) → kb * z ≤ p → get_or (coded T rows columns z sys) p 0 < 2
    unfolding coded
    coded-bits = with-bits choice

    pub coded-length : columns ≡ kb + rows → length (coded T rows columns z sys) ≡ columns * z
    unfolding coded
    coded-length wide = with-length choice ∙ ap (λ (n : ℕ). n * z) (sym wide)

    -- a word that has the places in front, and then bits, is the block with one of the choices
    module _ (w : List ℕ) (long : length w ≡ (kb + rows) * z) (front : take (kb * z) w ≡ sys) (bits : (p : ℕ) → kb * z ≤ p → get_or w p 0 < 2) where
      rest-bits : AreBits (drop (kb * z) w)
      rest-bits k = rw (get_or-drop (kb * z) w k 0) (bits (kb * z + k) (omega arith))

      rest-length : length (drop (kb * z) w) ≡ rows * z
      rest-length = length-drop (kb * z) w ∙ omega (arith, add-mul kb rows z)

      choice-lt : value_of (drop (kb * z) w) < 2 ^ (rows * z)
      choice-lt = subst (λ (n : ℕ). value_of (drop (kb * z) w) < 2 ^ n) rest-length (value_lt (drop (kb * z) w) rest-bits)

      choice-is : with_parity rows z sys (value_of (drop (kb * z) w)) ≡ w
      unfolding with_parity
      choice-is =
          ap₂ (λ (a b : List ℕ). a ++ b) (sym front)
          (ap (λ (n : ℕ). digits n (value_of (drop (kb * z) w))) (sym rest-length) ∙ digits_value (drop (kb * z) w) rest-bits)
          ∙ take-append-drop (kb * z) w

    module _ {m : ℕ} (S : Solvable T kb m rows columns) where
      -- a word that solves the staircase and its extension from the places is the block with one of the choices, and that choice checks
      module _ (w : List ℕ) (h : Solution T kb m rows columns z sys w) where
        long-word : length w ≡ (kb + rows) * z
        long-word = h.size ∙ ap (λ (n : ℕ). n * z) S.wide

        front-taken : take (kb * z) w ≡ sys
        front-taken =
            let l : length (take (kb * z) w) ≡ kb * z = length-take-le (kb * z) w (omega (arith, long-word, add-mul kb rows z)) in
            ext_get_or 0 (take (kb * z) w) sys (l ∙ sym size) (λ p o. get_or-take (kb * z) w p 0 (omega arith) ∙ h.front p (omega arith))

        solution-has : has_parity T rows columns z sys ≡ true
        unfolding has_parity checks_with
        solution-has =
            any_of (2 ^ (rows * z)) (checks_with T rows columns z sys) (value_of (drop (kb * z) w)) (choice-lt w long-word front-taken h.bits)
            (ap (checks T rows columns z) (choice-is w long-word front-taken h.bits) ∙ solved-checked T kb m rows columns z w S h.solved)

      some : 0 < m
      some = omega (arith, S.stairs.before)

      -- existence: there are parity bits with which the places check
      pub has-parity : has_parity T rows columns z sys ≡ true
      has-parity = solution-has _ (some_solution T kb m rows columns z sys size some S.tall S.wide)

      pub coded-checks : checks T rows columns z (coded T rows columns z sys) ≡ true
      unfolding has_parity coded checks_with
      coded-checks = (first_some (2 ^ (rows * z)) (checks_with T rows columns z sys) has-parity).holds

      coded-solution : Solution T kb m rows columns z sys (coded T rows columns z sys)
      unfolding coded
      coded-solution =
          record {
            size = coded-length S.wide;
            front = with-front choice;
            bits = coded-bits;
            solved = checked-solved T kb m rows columns z (coded T rows columns z sys) S coded-checks;
          }

      -- a word that solves the staircase and its extension from the places is the coded block
      pub solved-coded : (w : List ℕ) → Solution T kb m rows columns z sys w → w ≡ coded T rows columns z sys
      solved-coded w h = solution_unique T kb m rows columns z some S.wide sys w (coded T rows columns z sys) h coded-solution

      -- uniqueness: a word that has the places in front, then bits, and checks is the coded block
      pub coded-unique : (w : List ℕ) → length w ≡ columns * z → take (kb * z) w ≡ sys
          → ((p : ℕ) → kb * z ≤ p → get_or w p 0 < 2) → checks T rows columns z w ≡ true → w ≡ coded T rows columns z sys
      coded-unique w long front bits e =
          solved-coded w
          (record {
            size = long;
            front = λ p l. sym (get_or-take (kb * z) w p 0 l) ∙ ap (λ (s : List ℕ). get_or s p 0) front;
            bits = bits;
            solved = checked-solved T kb m rows columns z w S e;
          })

-- a word solved behind some places is one solved behind equal ones
pub solution_front : {T : List ℕ} {kb m rows columns z : ℕ} {sys u w : List ℕ} → ((p : ℕ) → p < kb * z → get_or u p 0 ≡ get_or sys p 0)
    → Solution T kb m rows columns z u w → Solution T kb m rows columns z sys w
solution_front e h = record { size = h.size; front = λ p l. h.front p l ∙ e p l; bits = h.bits; solved = h.solved }
