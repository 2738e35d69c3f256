-- The rules of a record are those of one that is judged 0, and the number that refuses it goes with its rule.
use mathlib.Core.Path.{◌≡◌, refl, sym, ap, ◌∙◌}
use mathlib.Core.Bool.{Bool, true, false, cond, not, ◌&&◌, ◌||◌}
use mathlib.Core.List.{List, ◌++◌}
use Prim.Native.Nat.{ℕ, zero, suc, ◌+◌, ◌-◌, ◌*◌, ◌≤◌, ◌<◌}
use native.Mathlib.Nat.{mul-le-mul}
use native.Mathlib.Omega.{arith}
use lib.Dec.{eqb}
use lib.ListN.{length, get_or}
use Rattle.std.specs.Prelude.{Option, Some, None}
use Rattle.std.specs.List.{position}
use borrow.Author.Tests.{ltb-false, not-false, lt-ltb, le-ltb, le-leb, lt-leb, eq-eqb, ne_eqb}
use Rattle.bits.specs.Numbers.{answered}
use Rattle.bits.specs.Ranges.{all_below, within}
use Rattle.bits.proofs.Answers.{passes, passed, none_left, first_part, Refusals, last_part}
use Rattle.bits.proofs.Ranges.{both, equal_or, all-at, all_of, within-is}
use Rattle.profile.specs.Record.{kb, m, x, kind, t, z, offset, rows, columns, table_size, table, kind_right, header_right, rises, offset_due, ends_right, shift_right, table_right, well_formed}
use Rattle.profile.specs.Staircase.{staircases}
use Rattle.profile.specs.Promises.{judged}
use Rattle.profile.specs.Steps.Shape.{front_right, size_right, shape_right}
use Rattle.profile.proofs.Shape.{rows_is, area-is, Header, header_is, size-third, shape-third, shape_is, table-long, formed-is}
use Rattle.rules.specs.declared.pairs.Sizes.{Sizes}
use Rattle.rules.specs.Rules.{or_else, first_not, linked, header_rules, pair_rules, form_rules, table_rule, stairs, stair_rule, record_rule, number_of}
use Rattle.rules.specs.Steps.Walks.{TestWith}
use Rattle.rules.specs.Steps.Sizes.{SizesOf, SpotOf, OverIn, StairsIn}
use Rattle.rules.specs.declared.stairs.Spot.{Spot}
use Rattle.rules.specs.Places.{entry_over}
use Rattle.rules.proofs.Firsts.{first-fails, first_below, first-position, not-with, not_not}
use Rattle.rules.proofs.Lists.{ranged, answered-most, or_first, or_later}
use Rattle.rules.proofs.Staircase.{table_none, table-most, table-least}

module _ (R : List ℕ) where
  -- ---- the header

  plain : (k n : ℕ) → within 1 2 k ≡ true → eqb k 1 && not (eqb n 0) ≡ false → eqb k 2 || eqb n 0 ≡ true
  plain k n w e =
      equal_or k 1
      (λ q. rw (ne_eqb k 2 (λ d. omega arith)) (not-false (eqb n 0) (rw (eq-eqb k 1 q) at e)))
      (λ d. rw (eq-eqb k 2 (omega (arith, within-is 1 2 k w))))

  abbrev heads : List (ℕ × Bool)
  heads = header_rules (kb R) (m R) (x R) (kind R) (t R)

  header-passed : answered heads ≡ 0 → header_right R ≡ true
  unfolding header_right kind_right rows
  header-passed e =
      let two = passed 2 _ _ (omega arith) e in
      let three = passed 3 _ _ (omega arith) two.1 in
      let four = passed 4 _ _ (omega arith) three.1 in
      let five = passed 5 _ _ (omega arith) four.1 in
      let six = passed 6 _ _ (omega arith) five.1 in
      let seven = passed 7 _ _ (omega arith) six.1 in
      let eight = passed 8 _ _ (omega arith) seven.1 in
      let kinds = not-false (within 1 2 (kind R)) six.0 in
      rw (
        not-false (within 1 20 (kb R)) two.0,
        not-false (within 3 12 (m R)) three.0,
        le-leb (x R) 37 (ltb-false 37 (x R) four.0),
        le-leb (m R + x R) 40 (ltb-false 40 (m R + x R) five.0),
        kinds,
        plain (kind R) (x R) kinds seven.0,
        not-false (within 1 3 (t R)) eight.0,
      )

  pub front-passed : 10 ≤ length R → answered heads ≡ 0 → front_right R ≡ true
  unfolding front_right
  front-passed l e = rw (le-leb 10 (length R) l, header-passed e)

  within_of : (least most n : ℕ) → least ≤ n → n ≤ most → within least most n ≡ true
  within_of least most n a b = rw (le-leb least n a, le-leb n most b)

  type-1 : Header R → eqb (kind R) 1 && not (eqb (x R) 0) ≡ false
  type-1 h = equal_or (kind R) 1 (λ q. rw (eq-eqb (kind R) 1 q, eq-eqb (x R) 0 (h.plain q))) (λ d. rw (ne_eqb (kind R) 1 d))

  header-none : Header R → answered heads ≡ 0
  unfolding answered
  header-none h =
      rw (
        within_of 1 20 (kb R) h.kb_low h.kb_high,
        within_of 3 12 (m R) h.m_low h.m_high,
        le-ltb 37 (x R) h.x_high,
        le-ltb 40 (m R + x R) (omega (arith, h.rows_high, rows_is R)),
        within_of 1 2 (kind R) h.kind_low h.kind_high,
        type-1 h,
        within_of 1 3 (t R) h.t_low h.t_high,
      )

  header-refusals : Refusals heads
  unfolding Refusals
  header-refusals = tt

  -- the rule of a record that has a header: the header's, or else the rest's
  pub header-first : 10 ≤ length R → (n : ℕ) → n ≡ answered heads → (n ≡ 0 → ⊥) → n ≡ record_rule R
  unfolding record_rule answered
  header-first l n e d =
      let some : answered heads ≡ 0 → ⊥ = λ q. d (e ∙ q) in
      let whole : answered (heads ++ pair_rules R) ≡ n = first_part heads (pair_rules R) some ∙ sym e in
      rw (le-ltb (length R) 10 l) (sym (ap (λ (k : ℕ). or_else k (stair_rule R)) whole ∙ or_first n (stair_rule R) d))

  pub header-last : 10 ≤ length R → answered heads ≡ 0 → or_else (answered (pair_rules R)) (stair_rule R) ≡ record_rule R
  unfolding record_rule answered
  header-last l e =
      let whole : answered (heads ++ pair_rules R) ≡ answered (pair_rules R) = last_part heads (pair_rules R) header-refusals e in
      rw (le-ltb (length R) 10 l) (sym (ap (λ (k : ℕ). or_else k (stair_rule R)) whole))

  pub no_header : length R < 10 → 1 ≡ record_rule R
  unfolding record_rule answered or_else
  no_header l = rw (lt-ltb (length R) 10 l)

  -- ---- the form

  linked-is : (i : ℕ) → linked R i ≡ true → eqb (offset R i) (offset_due R i) ≡ true
  unfolding linked
  linked-is i e = e

  is-linked : (i : ℕ) → offset R i ≡ offset_due R i → linked R i ≡ true
  unfolding linked
  is-linked i e = eq-eqb (offset R i) (offset_due R i) e

  abbrev ranges : ℕ → Bool
  ranges i = within 1 81 (z R i)

  pub shape-passed : front_right R ≡ true → all_below (t R) ranges ≡ true → all_below (t R) (rises R) ≡ true → all_below (t R) (linked R) ≡ true
      → ends_right R ≡ true → shape_right R ≡ true
  shape-passed front range rising links ends =
      let each : (i : ℕ) → i < t R → size_right R i ≡ true =
      λ i l. sym
      (size-third R i (all-at (t R) ranges range i l) (all-at (t R) (rises R) rising i l) true (sym (linked-is i (all-at (t R) (linked R) links i l)))) in
      sym (shape-third R front ends true (sym (all_of (t R) (size_right R) each)))

  none-formed : answered (form_rules R) ≡ 0 → well_formed R ≡ true
  none-formed e =
      let one = passed 1 _ _ (omega arith) e in
      let long = ltb-false (length R) 10 one.0 in
      let none = equal_or (answered heads) 0 (λ q. q) (λ d. absurd (d (sym (first_part heads (pair_rules R) d) ∙ one.1))) in
      let nine = passed 9 _ _ (omega arith) (sym (last_part heads (pair_rules R) header-refusals none) ∙ one.1) in
      let ten = passed 10 _ _ (omega arith) nine.1 in
      let eleven = passed 11 _ _ (omega arith) ten.1 in
      let twelve = passed 12 _ _ (omega arith) eleven.1 in
      let thirteen = passed 13 _ _ (omega arith) twelve.1 in
      let fourteen = passed 14 _ _ (omega arith) thirteen.1 in
      let fifteen = passed 15 _ _ (omega arith) fourteen.1 in
      let shape =
      shape-passed (front-passed long none) (not-false _ ten.0) (not-false _ eleven.0) (not-false _ thirteen.0) (not-false _ fourteen.0) in
      rw (formed-is R, shape) (not-false _ fifteen.0)

  -- the end as the code tests it
  pub ends-right : length R ≡ 10 + 4 * t R + t R * table_size R → ends_right R ≡ true
  unfolding ends_right offset_due
  ends-right e = eq-eqb (length R) (offset_due R (t R)) e

  pub ends_wrong : (length R ≡ 10 + 4 * t R + t R * table_size R → ⊥) → ends_right R ≡ false
  unfolding ends_right offset_due
  ends_wrong n = ne_eqb (length R) (offset_due R (t R)) n

  -- where the shape is right, only 15 is left
  ends_of : shape_right R ≡ true → ends_right R ≡ true
  unfolding shape_right
  ends_of e = (both (front_right R) (ends_right R) (both (front_right R && ends_right R) (all_below (t R) (size_right R)) e).0).1

  room_of : shape_right R ≡ true → 10 + 4 * t R ≤ length R
  room_of e =
      let s = shape_is R e in
      let l = s.header.t_low in
      omega (arith, s.pair (t R - 1) (omega arith))

  formed-none : well_formed R ≡ true → answered (form_rules R) ≡ 0
  formed-none e =
      let parts = both (shape_right R) (all_below (t R) (table_right R)) (sym (formed-is R) ∙ e) in
      let s = shape_is R parts.0 in
      let links : (i : ℕ) → i < t R → linked R i ≡ true = λ i l. is-linked i (s.size i l).chained in
      let rest : answered (pair_rules R) ≡ 0 =
      pairs-none (room_of parts.0) (all_of (t R) ranges (λ i l. within_of 1 81 (z R i) (s.size i l).z_low (s.size i l).z_high))
      (all_of (t R) (rises R) (λ i l. (s.size i l).rising)) (links 0 (omega (arith, s.header.t_low))) (all_of (t R) (linked R) links) (ends_of parts.0)
      parts.1 in
      passes 1 (heads ++ pair_rules R) (le-ltb (length R) 10 s.header.long) ∙ last_part heads (pair_rules R) header-refusals (header-none s.header) ∙ rest
    where
      pairs-none : 10 + 4 * t R ≤ length R → all_below (t R) ranges ≡ true → all_below (t R) (rises R) ≡ true → linked R 0 ≡ true
          → all_below (t R) (linked R) ≡ true → ends_right R ≡ true → all_below (t R) (table_right R) ≡ true → answered (pair_rules R) ≡ 0
      pairs-none room range rising first links ends entries =
          passes 9 _ (le-ltb (length R) (10 + 4 * t R) room) ∙ passes 10 _ (ap not range) ∙ passes 11 _ (ap not rising) ∙ passes 12 _ (ap not first)
          ∙ passes 13 _ (ap not links) ∙ passes 14 _ (ap not ends) ∙ passes 15 _ (ap not entries) ∙ none_left

  form-most : answered (form_rules R) ≤ 15
  unfolding ranged
  form-most = answered-most 1 15 (form_rules R) refl

  -- ---- the staircases

  stairs-is : staircases R ≡ all_below (t R) (stairs R)
  unfolding staircases stairs
  stairs-is = refl

  abbrev pub rule_of : ℕ → ℕ
  rule_of i = table_rule (table R i) (kb R) (m R) (x R) (columns R)

  pub stairs-test : (i : ℕ) → eqb (rule_of i) 0 ≡ stairs R i
  unfolding stairs
  stairs-test i = table_none (table R i) (kb R) (m R) (x R) (columns R)

  pub stair_none : all_below (t R) (stairs R) ≡ true → stair_rule R ≡ 0
  unfolding stair_rule
  stair_none e = rw (stairs-is, e)

  pub stair_some : (i : ℕ) → i ≡ first_not (t R) (stairs R) → all_below (t R) (stairs R) ≡ false → stair_rule R ≡ rule_of i
  unfolding stair_rule
  stair_some i is e = rw (stairs-is, e, ← is)

  -- of the first table that breaks one it is a rule of a table
  pub stair_range : all_below (t R) (stairs R) ≡ false → (16 ≤ stair_rule R) × (stair_rule R ≤ 24)
  stair_range e =
      let i = first_not (t R) (stairs R) in
      let is = stair_some i refl e in
      let wrong = first-fails (t R) (stairs R) {r = i} refl (first_below (t R) (stairs R) {r = i} refl e) in
      let some : rule_of i ≡ 0 → ⊥ = λ q. clash (sym (eq-eqb (rule_of i) 0 q) ∙ stairs-test i ∙ wrong) in (
        omega (arith, is, table-least (table R i) (kb R) (m R) (x R) (columns R) some),
        omega (arith, is, table-most (table R i) (kb R) (m R) (x R) (columns R)),
      )
    where
      clash : ◌≡◌ {A = Bool} true false → ⊥
      clash q = let y : ◌≡◌ {A = ℕ} 0 1 = cc in omega arith

  -- ---- the number that goes with the rule

  low : (n : ℕ) → (n ≡ 0 → ⊥) → n ≤ 15 → number_of n ≡ 5
  unfolding number_of
  low zero d l = absurd (d refl)
  low (suc n) d l = rw (le-leb (suc n) 15 l)

  high : (n : ℕ) → 16 ≤ n → number_of n ≡ 6
  unfolding number_of
  high zero l = absurd (omega arith)
  high (suc n) l = rw (lt-leb (suc n) 15 (omega arith))

  numbered-zero : number_of 0 ≡ 0
  unfolding number_of
  numbered-zero = refl

  judged_by : (a b : Bool) → well_formed R ≡ a → staircases R ≡ b → judged R ≡ cond a (cond b 0 6) 5
  unfolding judged answered
  judged_by true true p q = rw (p, q)
  judged_by true false p q = rw (p, q)
  judged_by false b p q = rw p

  abbrev form : ℕ
  form = answered (form_rules R)

  unformed : well_formed R ≡ false → form ≡ 0 → ⊥
  unformed e q = let k : ◌≡◌ {A = Bool} true false = sym (none-formed q) ∙ e in let y : ◌≡◌ {A = ℕ} 0 1 = cc in omega arith

  pub record_number : judged R ≡ number_of (record_rule R)
  unfolding record_rule
  record_number = by_tests (well_formed R) (staircases R) refl refl
    where
      by_tests : (a b : Bool) → well_formed R ≡ a → staircases R ≡ b → judged R ≡ number_of (record_rule R)
      by_tests false b p q =
          let some = unformed p in
          judged_by false b p q ∙ sym (ap number_of (or_first form (stair_rule R) some) ∙ low form some form-most)
      by_tests true true p q =
          judged_by true true p q ∙ sym (ap number_of (or_later form (stair_rule R) (formed-none p) ∙ stair_none (sym stairs-is ∙ q)) ∙ numbered-zero)
      by_tests true false p q =
          judged_by true false p q
          ∙ sym (ap number_of (or_later form (stair_rule R) (formed-none p)) ∙ high (stair_rule R) (stair_range (sym stairs-is ∙ q)).0)

  pub record_most : record_rule R ≤ 24
  unfolding record_rule
  record_most = by_tests (well_formed R) (staircases R) refl refl
    where
      by_tests : (a b : Bool) → well_formed R ≡ a → staircases R ≡ b → record_rule R ≤ 24
      by_tests false b p q = omega (arith, or_first form (stair_rule R) (unformed p), form-most)
      by_tests true true p q = omega (arith, or_later form (stair_rule R) (formed-none p), stair_none (sym stairs-is ∙ q))
      by_tests true false p q = omega (arith, or_later form (stair_rule R) (formed-none p), (stair_range (sym stairs-is ∙ q)).1)

  -- ---- the numbers that are handed on

  module _ {k n e : ℕ} (p : k ≡ kb R) (q : n ≡ m R) (r : e ≡ x R) where
    pub columns_of : k + (n + e) ≡ columns R
    unfolding columns rows
    columns_of = rw (p, q, r)

    pub size_of : (n + e) * (k + (n + e)) ≡ table_size R
    unfolding table_size columns rows
    size_of = rw (p, q, r)

  module _ {s : Sizes} (n : SizesOf R s) where
    pub record Small : Type 0 where
      pub few : s.t ≤ 3
      pub short : s.size ≤ 2400
      pub wide : 0 < s.columns

    pub small : Small
    small =
        let h = header_is R n.front in
        let area : rows R * columns R ≤ 40 * 60 = mul-le-mul h.rows_high h.columns_high in
        record {
          few = omega (arith, n.t_is, h.t_high);
          short = omega (arith, n.size_is, area-is R, area);
          wide = omega (arith, n.columns_is, h.columns_low);
        }

    module _ (shape : shape_right R ≡ true) (i : ℕ) (l : i < s.t) where
      pub table-start : 10 + 4 * s.t + i * s.size ≡ offset R i
      unfolding offset_due
      table-start = rw (n.t_is, n.size_is) (sym ((shape_is R shape).size i (omega (arith, n.t_is))).chained)

      pub table-inside : 10 + 4 * s.t + i * s.size + s.size ≤ length R
      table-inside = omega (arith, table-start, n.size_is, (shape_is R shape).inside i (omega (arith, n.t_is)))

      pub table-length : length (table R i) ≡ s.size
      table-length = table-long R (shape_is R shape) i (omega (arith, n.t_is)) ∙ sym n.size_is

-- the walk of a table as the code makes it
pub over-with : (R : List ℕ) (i : ℕ) {v : ℕ} {T : List ℕ} → v ≡ z R i → T ≡ table R i → length (table R i) ≡ table_size R
    → (r : Option ℕ) → r ≡ position (λ x. not (shift_right v x)) T → TestWith (table_right R i) (OverIn R i) r
unfolding table_right entry_over
over-with R i e f l r q =
    not-with (table_size R) (λ k. shift_right (z R i) (get_or (table R i) k 0)) r
    (first-position (table_size R) (λ k. shift_right (z R i) (get_or (table R i) k 0)) (λ x. not (shift_right (z R i) x)) (table R i) l
    (λ k m. not_not (shift_right (z R i) (get_or (table R i) k 0))) r (rw (← e, ← f) q))

pub stairs-with : (R : List ℕ) (i : ℕ) (r : Option Spot) → SpotOf (table R i) (kb R) (m R) (x R) (columns R) (rule_of R i) r → TestWith (stairs R i) (StairsIn R i) r
stairs-with R i (Some r) h = (sym (stairs-test R i) ∙ ne_eqb (rule_of R i) 0 (λ q. omega (arith, h.first, h.late, q)), h)
stairs-with R i None h = sym (stairs-test R i) ∙ eq-eqb (rule_of R i) 0 h
