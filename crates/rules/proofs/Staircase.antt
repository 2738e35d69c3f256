-- The rules of a table are those of a staircase with its extension, and where the entries that the code reads stand.
use mathlib.Core.Path.{◌≡◌, refl, sym, ap, subst, ◌∙◌}
use Rattle.std.specs.Prelude.{Option}
use Rattle.std.specs.List.{position}
use Rattle.std.proofs.lemmas.Grind.{common_steps}
use Rattle.std.proofs.lemmas.List.{get_or-take, get_or-drop}
use native.Mathlib.Omega.{arith}
use mathlib.Core.Bool.{Bool, true, false, cond, not, ◌&&◌, ◌||◌}
use mathlib.Core.List.{List, [], ◌∷◌, ◌++◌}
use Prim.Native.Nat.{ℕ, suc, ◌+◌, ◌-◌, ◌*◌, ◌≤◌, ◌<◌}
use lib.Dec.{eqb}
use lib.ListN.{length, take, drop, get_or}
use borrow.Author.Tests.{eq-eqb, ne_eqb}
use Rattle.bits.specs.Numbers.{answered}
use Rattle.bits.specs.Ranges.{all_below}
use Rattle.bits.proofs.Answers.{first_part, Refusals, last_part}
use Rattle.profile.specs.Record.{entry}
use Rattle.profile.specs.Staircase.{filled, filled_between, first_column, next_column, staircase, row_ends, extension_row, extended}
use Rattle.profile.specs.Steps.Walk.{column, next_right, empty_from}
use Rattle.profile.proofs.Extension.{ends_at, extension_at}
use Rattle.rules.specs.declared.stairs.Spot.{Spot}
use Rattle.rules.specs.Faults.{record_number}
use Rattle.rules.specs.Places.{place_of, filled_column, table_row, table_column}
use Rattle.rules.specs.Steps.Walks.{FirstNot}
use Rattle.rules.specs.Steps.Sizes.{Spotted, SpotOf, ExtensionSpot}
use Rattle.rules.specs.Rules.{first_not, own_zero, first_rules, extension_rules, stair_rules, table_rule}
use Rattle.rules.proofs.Firsts.{first-some-not, first-position, not_not}
use Rattle.rules.proofs.Lists.{ranged, answered-most, answered-least}

-- no rule is broken exactly where all tests hold; o tells only 23 from 24
none_broken : (a b c d e f g h o : Bool)
    → eqb (answered ((16, not a) ∷ (17, not b) ∷ (18, not c) ∷ (19, not d) ∷ (20, not e) ∷ (21, not f) ∷ (22, not g) ∷ (23, not h && not o) ∷ (24, not h) ∷ [])) 0
    ≡ a && b && c && d && e && f && (g && h)
unfolding answered
none_broken true true true true true true true true o = refl
none_broken true true true true true true true false true = refl
none_broken true true true true true true true false false = refl
none_broken true true true true true true false h o = refl
none_broken true true true true true false g h o = refl
none_broken true true true true false f g h o = refl
none_broken true true true false e f g h o = refl
none_broken true true false d e f g h o = refl
none_broken true false c d e f g h o = refl
none_broken false b c d e f g h o = refl

module _ (T : List ℕ) (kb m x columns : ℕ) where
  -- what column kb holds in each row
  abbrev C : ℕ → ℕ
  C row = entry T columns row kb

  pub table_none : eqb (table_rule T kb m x columns) 0 ≡ staircase T kb m columns && extended T kb m x columns
  unfolding table_rule staircase first_column extended
  table_none =
      none_broken (filled (C 0)) (filled (C (m - 1))) (eqb (filled_between m C) 1) (eqb (C 0) (C (m - 1)))
      (all_below (m - 2) (λ i. not (filled (C (suc i))) || eqb (C (suc i)) 0)) (all_below (m - 1) (λ i. next_column m (suc i) (column T columns (kb + suc i))))
      (all_below m (row_ends T kb m x columns)) (all_below x (extension_row T kb m x columns))
      (own_zero T kb m columns (first_not x (extension_row T kb m x columns)))

  pub table-most : table_rule T kb m x columns ≤ 24
  unfolding table_rule ranged
  table-most = answered-most 16 24 (first_rules m C ++ stair_rules T kb m x columns) refl

  pub table-least : (table_rule T kb m x columns ≡ 0 → ⊥) → 16 ≤ table_rule T kb m x columns
  unfolding table_rule ranged
  table-least n = answered-least 16 24 (first_rules m C ++ stair_rules T kb m x columns) refl n

  -- the rules of column kb go before the others
  table-first : (n : ℕ) → n ≡ answered (first_rules m C) → (n ≡ 0 → ⊥) → n ≡ table_rule T kb m x columns
  unfolding table_rule
  table-first n e d = e ∙ sym (first_part (first_rules m C) (stair_rules T kb m x columns) (λ q. d (e ∙ q)))

  table-later : (n : ℕ) → answered (first_rules m C) ≡ 0 → n ≡ answered (stair_rules T kb m x columns) → n ≡ table_rule T kb m x columns
  unfolding table_rule Refusals
  table-later n z e = e ∙ sym (last_part (first_rules m C) (stair_rules T kb m x columns) tt z)

  pub table-spotted : (r : Spot) → Spotted T kb m x columns (answered (first_rules m C)) r → Spotted T kb m x columns (table_rule T kb m x columns) r
  table-spotted r s =
      record {
        first = table-first (record_number r.rule) s.first (λ z. omega (arith, s.late, z));
        row_is = s.row_is;
        column_is = s.column_is;
        inside = s.inside;
        late = s.late;
      }

  pub table-unspotted : (r : Option Spot) → answered (first_rules m C) ≡ 0 → SpotOf T kb m x columns (answered (stair_rules T kb m x columns)) r
      → SpotOf T kb m x columns (table_rule T kb m x columns) r
  table-unspotted r z h = subst (λ (n : ℕ). SpotOf T kb m x columns n r) (table-later (answered (stair_rules T kb m x columns)) z refl) h

  -- ---- the columns after column kb

  pub column_is : (i : ℕ) → all_below m (λ row. next_right T kb columns row i) ≡ next_column m (suc i) (column T columns (kb + suc i))
  unfolding next_column next_right
  column_is i = refl

  -- ---- the extension columns of a staircase row

  pub row-is : (row : ℕ) → all_below x (empty_from T (row * columns + (kb + m))) ≡ row_ends T kb m x columns row
  row-is row = ends_at T kb m x columns row refl refl refl

  -- ---- an extension row

  abbrev own : ℕ → ℕ
  own i = (m + i) * columns + (kb + (m + i))

  module _ (i : ℕ) (l : i < x) where
    pub own-wrong : (get_or T (own i) 0 ≡ 0 → ⊥) → (extension_row T kb m x columns i ≡ false) × (own_zero T kb m columns i ≡ false)
    unfolding own_zero entry
    own-wrong n = let off = ne_eqb (get_or T (own i) 0) 0 n in (rw (extension_at T kb m x columns i l, off), off)

    module _ (z : get_or T (own i) 0 ≡ 0) where
      pub own-right : own_zero T kb m columns i ≡ true
      unfolding own_zero entry
      own-right = eq-eqb (get_or T (own i) 0) 0 z

      pub later-is : all_below (x - (i + 1)) (empty_from T (own i + 1)) ≡ extension_row T kb m x columns i
      later-is = sym (rw (extension_at T kb m x columns i l, eq-eqb (get_or T (own i) 0) 0 z))

  abbrev right : ℕ → Bool
  right = extension_row T kb m x columns

  pub extension-none : all_below x right ≡ true → answered (extension_rules T kb m x columns) ≡ 0
  unfolding answered
  extension-none e = rw e

  pub extension-some : (i : ℕ) → i ≡ first_not x right → i < x → answered (extension_rules T kb m x columns) ≡ cond (own_zero T kb m columns i) 24 23
  unfolding answered
  extension-some i is l = rw (first-some-not x right is l, ← is) (by_own (own_zero T kb m columns i))
    where
      by_own : (b : Bool) → ◌≡◌ {A = ℕ} (cond (true && not b) 23 (cond true 24 0)) (cond b 24 23)
      by_own true = refl
      by_own false = refl

  -- what is wrong in the first row that is, is what is wrong with the extension
  pub extension-spotted : (i : ℕ) → i ≡ first_not x right → i < x → (r : Spot) → ExtensionSpot T kb m x columns i r
      → Spotted T kb m x columns (answered (extension_rules T kb m x columns)) r
  unfolding place_of table_row table_column
  extension-spotted i is l r s =
      let told = extension-some i is l in
      by_own (own_zero T kb m columns i) (s.rule_is ∙ sym told) s.rule_is s.column_is
    where
      by_own : (b : Bool) → record_number r.rule ≡ answered (extension_rules T kb m x columns) → record_number r.rule ≡ cond b 24 23
          → r.column ≡ cond b (filled_column T columns (m + i) (kb + (m + i) + 1) (x - (i + 1))) (kb + (m + i))
          → Spotted T kb m x columns (answered (extension_rules T kb m x columns)) r
      by_own true first e c =
          record {
            first = first;
            row_is = s.row_is ∙ ap (λ (j : ℕ). m + j) is ∙ sym (ap (table_row T kb m x columns) e);
            column_is = c ∙ ap (λ (j : ℕ). filled_column T columns (m + j) (kb + (m + j) + 1) (x - (j + 1))) is ∙ sym (ap (table_column T kb m x columns) e);
            inside = s.inside;
            late = omega (arith, e);
          }
      by_own false first e c =
          record {
            first = first;
            row_is = s.row_is ∙ ap (λ (j : ℕ). m + j) is ∙ sym (ap (table_row T kb m x columns) e);
            column_is = c ∙ ap (λ (j : ℕ). kb + (m + j)) is ∙ sym (ap (table_column T kb m x columns) e);
            inside = s.inside;
            late = omega (arith, e);
          }

-- ---- the first entry that is filled, of n from `from` on

pub filled-first : (T : List ℕ) (from n : ℕ) → from + n ≤ length T → (r : Option ℕ)
    → r ≡ position (λ x. not (eqb x 255)) (take (from + n - from) (drop from T)) → FirstNot n (empty_from T from) r
unfolding empty_from
filled-first T from n l r e =
    first-position n (empty_from T from) (λ x. not (eqb x 255)) (take (from + n - from) (drop from T)) (grind (arith, common_steps))
    (λ k m. not_not (eqb (get_or (take (from + n - from) (drop from T)) k 0) 255)
    ∙ ap (λ (x : ℕ). eqb x 255) (get_or-take (from + n - from) (drop from T) k 0 (omega arith) ∙ get_or-drop from T k 0))
    r e
