-- The numbers that are answered before a block is coded, 5 to 11, 16 and 19: how each is found, and what a request that none refuses has passed.
use mathlib.Core.Path.{◌≡◌, refl, sym, ◌∙◌}
use mathlib.Core.Bool.{Bool, true, false, not, ◌||◌, true≢false}
use mathlib.Core.List.{List, [], ◌∷◌}
use Prim.Native.Nat.{ℕ, ◌≤◌}
use native.Mathlib.Omega.{arith}
use borrow.Author.Tests.{ltb-false, le-ltb, eqb-true, eq-eqb, ne_eqb}
use lib.Dec.{eqb, ltb, lit<}
use Rattle.bits.specs.Numbers.{answered}
use Rattle.bits.specs.Ranges.{within}
use Rattle.bits.specs.declared.count.Terms.{Terms}
use Rattle.bits.proofs.Answers.{applies, passes, passed, none_left, first_part, Refusals, last_part}
use Rattle.bits.proofs.Ranges.{equal_or, neither}
use Rattle.profile.specs.Record.{kind, well_formed}
use Rattle.profile.specs.Staircase.{staircases}
use Rattle.profile.specs.Promises.{judged}
use Rattle.profile.proofs.Answers.{judged-first, judged-passed}
use Rattle.cutting.specs.Plan.{block_bits, other_edition, too_many_blocks}
use Rattle.cutting.specs.Promises.{plan_number}
use Rattle.cutting.proofs.Answers.{plan-judged}
use Rattle.cutting.proofs.Plans.{plan-passed}
use Rattle.matching.specs.Matching.{misversioned}
use Rattle.coding.specs.Allocation.{misallocated}
use Rattle.coding.specs.Promises.{cut_conditions, too_few_places, request_conditions}
use Rattle.coding.specs.Steps.Numbers.{cut_number, request_number}

-- ---- 19, 7 and 9 of a plan

nineteen_is : (o a b : Bool) → answered ((19, o) ∷ (7, a) ∷ (9, b) ∷ []) ≡ 19 → o ≡ true
unfolding answered
nineteen_is true a b e = refl
nineteen_is false true b e = absurd (omega arith)
nineteen_is false false true e = absurd (omega arith)
nineteen_is false false false e = absurd (omega arith)

not_nineteen : (o a b : Bool) → (answered ((19, o) ∷ (7, a) ∷ (9, b) ∷ []) ≡ 19 → ⊥) → o ≡ false
unfolding answered
not_nineteen true a b n = absurd (n refl)
not_nineteen false a b n = refl

seven_is : (a b : Bool) → answered ((7, a) ∷ (9, b) ∷ []) ≡ 7 → a ≡ true
unfolding answered
seven_is true b e = refl
seven_is false true e = absurd (omega arith)
seven_is false false e = absurd (omega arith)

not_seven : (a b : Bool) → (answered ((7, a) ∷ (9, b) ∷ []) ≡ 7 → ⊥) → a ≡ false
unfolding answered
not_seven true b n = absurd (n refl)
not_seven false b n = refl

pub not-refused : (p : ℕ) → (eqb p 19 || eqb p 7) ≡ false → (p ≡ 19 → ⊥) × (p ≡ 7 → ⊥)
not-refused p e =
    let both = neither (eqb p 19) (eqb p 7) e in
    (λ q. true≢false (sym (eq-eqb p 19 q) ∙ both.0), λ q. true≢false (sym (eq-eqb p 7 q) ∙ both.1))

-- ---- 5 to 9, 16 and 19

module _ (R : List ℕ) (octets : ℕ) (terms : Terms) (g : ℕ) where
  nineteen : Bool
  nineteen = other_edition terms.edition

  seven : Bool
  seven = not (within 1 2048 octets)

  sixteen : Bool
  sixteen = misversioned (kind R) terms.rv

  nine : Bool
  nine = too_many_blocks R terms.edition (block_bits octets)

  cut-judged : judged R ≡ 0
      → cut_number R octets terms g ≡ answered ((19, nineteen) ∷ (7, seven) ∷ (16, sixteen) ∷ (8, misallocated terms g) ∷ (9, nine) ∷ [])
  unfolding cut_number nineteen seven sixteen nine
  cut-judged e = judged-passed R _ e

  -- each way out, by its test
  pub cut-first : (judged R ≡ 0 → ⊥) → judged R ≡ cut_number R octets terms g
  unfolding cut_number
  cut-first n = sym (judged-first R _ n)

  module _ (e : judged R ≡ 0) (p : ℕ) (plan : p ≡ plan_number R terms.edition octets) where
    plan-is : p ≡ answered ((19, nineteen) ∷ (7, seven) ∷ (9, nine) ∷ [])
    unfolding nineteen seven nine
    plan-is = plan ∙ plan-judged R terms.edition octets e

    pub cut-nineteen : p ≡ 19 → 19 ≡ cut_number R octets terms g
    cut-nineteen q = sym (cut-judged e ∙ applies 19 _ (nineteen_is nineteen seven nine (sym plan-is ∙ q)))

    module _ (known : p ≡ 19 → ⊥) where
      past-nineteen : nineteen ≡ false
      past-nineteen = not_nineteen nineteen seven nine (λ q. known (plan-is ∙ q))

      from-seven : p ≡ answered ((7, seven) ∷ (9, nine) ∷ [])
      from-seven = plan-is ∙ passes 19 _ past-nineteen

      pub cut_seven : p ≡ 7 → 7 ≡ cut_number R octets terms g
      cut_seven q = sym (cut-judged e ∙ passes 19 _ past-nineteen ∙ applies 7 _ (seven_is seven nine (sym from-seven ∙ q)))

      module _ (n : p ≡ 7 → ⊥) where
        past-seven : seven ≡ false
        past-seven = not_seven seven nine (λ q. n (from-seven ∙ q))

        from-sixteen : cut_number R octets terms g ≡ answered ((16, sixteen) ∷ (8, misallocated terms g) ∷ (9, nine) ∷ [])
        from-sixteen = cut-judged e ∙ passes 19 _ past-nineteen ∙ passes 7 _ past-seven

        pub cut-sixteen : misversioned (kind R) terms.rv ≡ true → 16 ≡ cut_number R octets terms g
        unfolding sixteen
        cut-sixteen t = sym (from-sixteen ∙ applies 16 _ t)

        module _ (version : misversioned (kind R) terms.rv ≡ false) where
          from-eight : cut_number R octets terms g ≡ answered ((8, misallocated terms g) ∷ (9, nine) ∷ [])
          unfolding sixteen
          from-eight = from-sixteen ∙ passes 16 _ version

          pub cut-eight : misallocated terms g ≡ true → 8 ≡ cut_number R octets terms g
          cut-eight t = sym (from-eight ∙ applies 8 _ t)

          pub cut-nine : misallocated terms g ≡ false → p ≡ cut_number R octets terms g
          cut-nine right = from-seven ∙ passes 7 _ past-seven ∙ sym (from-eight ∙ passes 8 _ right)

  -- a plan that is refused with 19 or 7, and one that is not
  pub cut-refused : judged R ≡ 0 → (p : ℕ) → p ≡ plan_number R terms.edition octets → (eqb p 19 || eqb p 7) ≡ true → p ≡ cut_number R octets terms g
  cut-refused e p plan t =
      equal_or p 19
      (λ q. q ∙ cut-nineteen e p plan q)
      (λ n. let q : p ≡ 7 = eqb-true p 7 (rw (ne_eqb p 19 n) at t) in q ∙ cut_seven e p plan n q)

  -- what a block that none of them refuses has passed
  pub cut-passed : cut_number R octets terms g ≡ 0 → (plan_number R terms.edition octets ≡ 0) × (misallocated terms g ≡ false) × (misversioned (kind R) terms.rv ≡ false)
  unfolding cut_number plan_number
  cut-passed e =
      let wf = not (well_formed R) in
      let st = not (staircases R) in
      let a = not (within 1 2048 octets) in
      let b = too_many_blocks R terms.edition (block_bits octets) in
      let o = other_edition terms.edition in
      let l9 : List (ℕ × Bool) = (9, b) ∷ [] in
      let l8 : List (ℕ × Bool) = (8, misallocated terms g) ∷ l9 in
      let v = misversioned (kind R) terms.rv in
      let l16 : List (ℕ × Bool) = (16, v) ∷ l8 in
      let l7 : List (ℕ × Bool) = (7, a) ∷ l16 in
      let l19 : List (ℕ × Bool) = (19, o) ∷ l7 in
      let p5 = passed 5 ((6, st) ∷ l19) wf (lit< tt) e in
      let p6 = passed 6 l19 st (lit< tt) p5.1 in
      let p19 = passed 19 l7 o (lit< tt) p6.1 in
      let p7 = passed 7 l16 a (lit< tt) p19.1 in
      let p16 = passed 16 l8 v (lit< tt) p7.1 in
      let p8 = passed 8 l9 (misallocated terms g) (lit< tt) p16.1 in
      (passes 5 ((6, st) ∷ (19, o) ∷ (7, a) ∷ l9) p5.0 ∙ passes 6 ((19, o) ∷ (7, a) ∷ l9) p6.0 ∙ passes 19 ((7, a) ∷ l9) p19.0 ∙ passes 7 l9 p7.0 ∙ p8.1, p8.0, p16.0)

-- ---- and then 10 and 11

module _ (R : List ℕ) (octets : ℕ) (terms : Terms) (g need room : ℕ) where
  abbrev first : List (ℕ × Bool)
  first = cut_conditions R (not (within 1 2048 octets)) octets terms g

  abbrev last : List (ℕ × Bool)
  last = (10, too_few_places R octets terms g) ∷ (11, ltb room need) ∷ []

  pub request_first : (cut_number R octets terms g ≡ 0 → ⊥) → cut_number R octets terms g ≡ request_number R octets terms g need room
  unfolding cut_number request_number
  request_first n = sym (first_part first last n)

  from-ten : cut_number R octets terms g ≡ 0 → request_number R octets terms g need room ≡ answered ((10, too_few_places R octets terms g) ∷ (11, ltb room need) ∷ [])
  unfolding cut_number request_number Refusals
  from-ten e = last_part first last tt e

  module _ (e : cut_number R octets terms g ≡ 0) where
    pub request-ten : too_few_places R octets terms g ≡ true → 10 ≡ request_number R octets terms g need room
    request-ten t = sym (from-ten e ∙ applies 10 _ t)

    module _ (enough : too_few_places R octets terms g ≡ false) where
      pub request-eleven : ltb room need ≡ true → 11 ≡ request_number R octets terms g need room
      request-eleven t = sym (from-ten e ∙ passes 10 _ enough ∙ applies 11 _ t)

      pub request-done : ltb room need ≡ false → 0 ≡ request_number R octets terms g need room
      request-done t = sym (from-ten e ∙ passes 10 ((11, ltb room need) ∷ []) enough ∙ passes 11 [] t ∙ none_left)

  -- ---- where none of them applies

  pub request_passed : request_number R octets terms g need room ≡ 0 → (plan_number R terms.edition octets ≡ 0) × (misallocated terms g ≡ false) × (need ≤ room) × (misversioned (kind R) terms.rv ≡ false)
  request_passed z =
      equal_or (cut_number R octets terms g) 0
      (λ e.
      let cut = cut-passed R octets terms g e in
      let p10 = passed 10 ((11, ltb room need) ∷ []) (too_few_places R octets terms g) (lit< tt) (sym (from-ten e) ∙ z) in
      let p11 = passed 11 [] (ltb room need) (lit< tt) p10.1 in
      (cut.0, cut.1, ltb-false room need p11.0, cut.2))
      (λ n. absurd (n (request_first n ∙ z)))

  -- the other way round, where the length is not refused with 7
  pub request_none : (other : Bool) → other ≡ false → plan_number R terms.edition octets ≡ 0 → misversioned (kind R) terms.rv ≡ false → misallocated terms g ≡ false → too_few_places R octets terms g ≡ false → need ≤ room
      → answered (request_conditions R other octets terms g need room) ≡ 0
  request_none other seven plan version right enough fits =
      let p = plan-passed R terms.edition octets plan in
      let l9 : List (ℕ × Bool) = (9, too_many_blocks R terms.edition (block_bits octets)) ∷ last in
      let l8 : List (ℕ × Bool) = (8, misallocated terms g) ∷ l9 in
      let l16 : List (ℕ × Bool) = (16, misversioned (kind R) terms.rv) ∷ l8 in
      judged-passed R ((19, other_edition terms.edition) ∷ (7, other) ∷ l16) p.0 ∙ passes 19 ((7, other) ∷ l16) p.4 ∙ passes 7 l16 seven ∙ passes 16 l8 version ∙ passes 8 l9 right ∙ passes 9 last p.3
      ∙ passes 10 ((11, ltb room need) ∷ []) enough ∙ passes 11 [] (le-ltb room need fits) ∙ none_left
