-- The best of the goals, crossed off one by one, is the nearest of all words.
use mathlib.Core.Path.{◌≡◌, refl, sym, ap, ◌∙◌, subst}
use mathlib.Core.Bool.{Bool, true, false, cond, ◌&&◌, ◌||◌}
use mathlib.Core.List.{List}
use Prim.Native.Nat.{ℕ, ◌+◌, ◌*◌, ◌/◌, ◌%◌, ◌^◌, ◌≤◌, ◌<◌}
use native.Mathlib.Nat.{add-zero, le_refl, le_antisymm}
use native.Mathlib.Omega.{arith}
use borrow.Author.Tests.{ltb-true, ltb-false, eqb-true, eqb-false, le-leb, lt-leb, lt-ltb, eq-eqb, ne_eqb}
use lib.Dec.{eqb, ltb, leb}
use lib.ListN.{length, get_or, set, length-set}
use lib.Seq.{get_or-set_same, get_or-set_other}
use Rattle.bits.specs.Bits.{AreBits, digits, value_of}
use Rattle.bits.proofs.Digits.{length_digits, digits-bits, value-digits, digits_value, value_lt}
use Rattle.bits.specs.Ranges.{sum_below}
use Rattle.bits.proofs.Sums.{sum_same, sum_add, sum_one}
use Rattle.bits.proofs.Ranges.{below_or, equal_or, all_of, all_fails, First, first-is}
use Rattle.control.specs.Register.{preset, streams}
use Rattle.nearest.specs.Nearest.{differences, away, is_nearest, nearest}
use Rattle.nearest.specs.Steps.Trellis.{end_at, charge, cost, goal_cost, goal_word, beats, Best}
use Rattle.nearest.specs.Steps.Rows.{AtMost, Heard, Ranked, Least}
use Rattle.control.proofs.Registers.{preset_lt}
use Rattle.nearest.proofs.Trellis.{length-walk, bits-walk, least-most, walk_attains, walk_first}
use Rattle.nearest.proofs.Charges.{charge-own, charge-other, differences-code}

-- ---- a goal

module _ (f : ℕ → ℕ → ℕ) (D goal : ℕ) where
  pub length-goal : length (goal_word f D goal) ≡ D
  unfolding goal_word
  length-goal = length-walk f (end_at goal) D 0 goal

  pub bits-goal : AreBits (goal_word f D goal)
  unfolding goal_word
  bits-goal = bits-walk f (end_at goal) D 0 goal

  pub goal-most : (w : List ℕ) → AreBits w → length w ≡ D → goal_cost f D goal ≤ charge f (end_at goal) 0 goal w
  unfolding goal_cost
  goal-most w h e = least-most f (end_at goal) D 0 goal w h e

  pub goal_attains : charge f (end_at goal) 0 goal (goal_word f D goal) ≡ goal_cost f D goal
  unfolding goal_cost goal_word
  goal_attains = walk_attains f (end_at goal) D 0 goal

  pub goal-first : (w : List ℕ) → AreBits w → length w ≡ D → charge f (end_at goal) 0 goal w ≡ goal_cost f D goal → value_of (goal_word f D goal) ≤ value_of w
  unfolding goal_cost goal_word value_of
  goal-first w h e q = walk_first f (end_at goal) D 0 goal 0 w h e q

-- ---- the loop over the goals

-- a goal that is crossed off, and the others
module _ (left : List ℕ) (goal : ℕ) (l : goal < length left) where
  pub crossed_here : get_or (set left goal 65535) goal 0 ≡ 65535
  crossed_here = get_or-set_same left goal 65535 0 l

  pub crossed_other : (s : ℕ) → (s ≡ goal → ⊥) → get_or (set left goal 65535) s 0 ≡ get_or left s 0
  crossed_other s n = get_or-set_other left goal s 65535 0 n

module _ (f : ℕ → ℕ → ℕ) (D : ℕ) where
  -- the first goal
  pub best_one : (row left : List ℕ) (first : ℕ) → first < 64 → AtMost 384 row → ((s : ℕ) → s < 64 → get_or row s 0 ≤ goal_cost f D s) → Ranked row 64 left
      → Best f D (set left first 65535) (goal_cost f D first) (goal_word f D first)
  best_one row left first l low cheap r =
      let inside : first < length left = omega (arith, r.len) in
      let key : (s : ℕ) → s < 64 → (s ≡ first → ⊥) → get_or (set left first 65535) s 0 ≡ get_or row s 0 * 64 + s = λ s m n. crossed_other left first inside s n ∙ r.at s m in
      record {
        goal = first;
        inside = l;
        cost_is = refl;
        word_is = refl;
        len = length-set left first 65535 ∙ r.len;
        others = λ s m h.
            equal_or s first
            (λ q. let here = crossed_here left first inside in absurd (omega (arith, here, rw q at h)))
            (λ n. let k = key s m n in let o = cheap s m in (omega (arith, k), omega (arith, k, o)));
        fewest = λ s m h.
            equal_or s first (λ q. rw q (le_refl (goal_cost f D first)))
            (λ n. let k = key s m n in absurd (omega (arith, k, h, low s m)));
        smallest = λ s m h e.
            equal_or s first (λ q. rw q (le_refl (value_of (goal_word f D first))))
            (λ n. let k = key s m n in absurd (omega (arith, k, h, low s m)));
      }

  module _ (left : List ℕ) (v : ℕ) (w : List ℕ) (b : Best f D left v w) (goal : ℕ) (l : goal < 64) where
    inside : goal < length left
    inside = omega (arith, b.len)

    kept : (s : ℕ) → s < 64 → get_or (set left goal 65535) s 0 < 65535 → (get_or (set left goal 65535) s 0 % 64 ≡ s) × (get_or (set left goal 65535) s 0 / 64 ≤ goal_cost f D s)
    kept s m h =
        equal_or s goal
        (λ q. let here = crossed_here left goal inside in absurd (omega (arith, here, rw q at h)))
        (λ n.
        let e = crossed_other left goal inside s n in
        rw e (b.others s m (omega (arith, e, h))))

    off : (s : ℕ) → (s ≡ goal → ⊥) → 65535 ≤ get_or (set left goal 65535) s 0 → 65535 ≤ get_or left s 0
    off s n h = rw (crossed_other left goal inside s n) at h

    -- the goal is better
    better : (v' : ℕ) (w' : List ℕ) → v' ≡ goal_cost f D goal → w' ≡ goal_word f D goal → v' ≤ v → (v' ≡ v → value_of w' < value_of w)
        → Best f D (set left goal 65535) v' w'
    better v' w' v-is w-is low small =
        record {
          goal = goal;
          inside = l;
          cost_is = v-is;
          word_is = w-is;
          len = length-set left goal 65535 ∙ b.len;
          others = kept;
          fewest = λ s m h.
              equal_or s goal (λ q. rw (q, v-is) (le_refl (goal_cost f D goal)))
              (λ n. let before = b.fewest s m (off s n h) in omega (arith, before));
          smallest = λ s m h e.
              equal_or s goal (λ q. rw (q, w-is) (le_refl (value_of (goal_word f D goal))))
              (λ n.
              let h' = off s n h in
              let same : v' ≡ v = le_antisymm low (omega (arith, b.fewest s m h')) in
              omega (arith, small same, b.smallest s m h' (omega arith)));
        }

    -- or it is not
    no-better : v ≤ goal_cost f D goal → (goal_cost f D goal ≡ v → value_of w ≤ value_of (goal_word f D goal)) → Best f D (set left goal 65535) v w
    no-better low small =
        record {
          goal = b.goal;
          inside = b.inside;
          cost_is = b.cost_is;
          word_is = b.word_is;
          len = length-set left goal 65535 ∙ b.len;
          others = kept;
          fewest = λ s m h. equal_or s goal (λ q. rw q low) (λ n. b.fewest s m (off s n h));
          smallest = λ s m h e.
              equal_or s goal (λ q. rw q (small (ap (λ (x : ℕ). goal_cost f D x) (sym q) ∙ e)))
              (λ n. b.smallest s m (off s n h) e);
        }

    -- it costs more
    pub best-skip : v < goal_cost f D goal → Best f D (set left goal 65535) v w
    best-skip m = no-better (omega arith) (λ e. absurd (omega arith))

    pub best-new : (v' : ℕ) (w' : List ℕ) → v' ≡ goal_cost f D goal → w' ≡ goal_word f D goal → beats v w v' w' ≡ true → Best f D (set left goal 65535) v' w'
    unfolding beats
    best-new v' w' v-is w-is e = by-test (ltb v' v) (eqb v' v) (ltb (value_of w') (value_of w)) refl refl refl e
      where
        by-test : (x y z : Bool) → ltb v' v ≡ x → eqb v' v ≡ y → ltb (value_of w') (value_of w) ≡ z → x || (y && z) ≡ true → Best f D (set left goal 65535) v' w'
        by-test true y z p q r e = let m : v' < v = ltb-true v' v p in better v' w' v-is w-is (omega arith) (λ n. absurd (omega arith))
        by-test false true true p q r e = let m : v' ≡ v = eqb-true v' v q in better v' w' v-is w-is (omega arith) (λ n. ltb-true (value_of w') (value_of w) r)
        by-test false true false p q r e = absurd (let z : ◌≡◌ {A = ℕ} 0 1 = cc in omega arith)
        by-test false false z p q r e = absurd (let z : ◌≡◌ {A = ℕ} 0 1 = cc in omega arith)

    pub best-old : (v' : ℕ) (w' : List ℕ) → v' ≡ goal_cost f D goal → w' ≡ goal_word f D goal → beats v w v' w' ≡ false → Best f D (set left goal 65535) v w
    unfolding beats
    best-old v' w' v-is w-is e = by-test (ltb v' v) (eqb v' v) (ltb (value_of w') (value_of w)) refl refl refl e
      where
        made : v ≤ v' → (v' ≡ v → value_of w ≤ value_of w') → Best f D (set left goal 65535) v w
        made low small = no-better (omega (arith, v-is)) (λ q. rw w-is at (small (v-is ∙ q)))

        by-test : (x y z : Bool) → ltb v' v ≡ x → eqb v' v ≡ y → ltb (value_of w') (value_of w) ≡ z → x || (y && z) ≡ false → Best f D (set left goal 65535) v w
        by-test true y z p q r e = absurd (let z : ◌≡◌ {A = ℕ} 0 1 = cc in omega arith)
        by-test false true true p q r e = absurd (let z : ◌≡◌ {A = ℕ} 0 1 = cc in omega arith)
        by-test false true false p q r e = made (ltb-false v' v p) (λ n. ltb-false (value_of w') (value_of w) r)
        by-test false false z p q r e = made (ltb-false v' v p) (λ n. absurd (eqb-false v' v q n))

-- ---- how many goals are left

unfoldable pub uncrossed : List ℕ → ℕ
uncrossed left = sum_below 64 (λ s. cond (ltb (get_or left s 0) 65535) 1 0)

-- crossing one off leaves one less
pub one_less : (left : List ℕ) (goal : ℕ) → length left ≡ 64 → goal < 64 → get_or left goal 0 < 65535 → uncrossed (set left goal 65535) < uncrossed left
unfolding uncrossed
one_less left goal e l h = omega (arith, same, sum_add 64 after one, sum_one 64 one goal l none, self)
  where
    inside : goal < length left
    inside = omega arith

    before : ℕ → ℕ
    before s = cond (ltb (get_or left s 0) 65535) 1 0

    after : ℕ → ℕ
    after s = cond (ltb (get_or (set left goal 65535) s 0) 65535) 1 0

    one : ℕ → ℕ
    one s = cond (eqb s goal) 1 0

    none : (k : ℕ) → k < 64 → (k ≡ goal → ⊥) → one k ≡ 0
    none k m n = rw (ne_eqb k goal n)

    self : one goal ≡ 1
    self = rw (eq-eqb goal goal refl)

    at-goal : before goal ≡ after goal + one goal
    at-goal = rw (lt-ltb (get_or left goal 0) 65535 h, crossed_here left goal inside, eq-eqb goal goal refl)

    each : (s : ℕ) → s < 64 → before s ≡ after s + one s
    each s m =
        equal_or s goal (λ q. rw q at-goal) (λ n. let z = none s m n in let o = crossed_other left goal inside s n in rw (o, z) (sym (add-zero (before s))))

    same : sum_below 64 before ≡ sum_below 64 (λ s. after s + one s)
    same = sum_same 64 before (λ s. after s + one s) each

-- ---- all words

-- what was heard, and how it is made ready
pub record Given (D : ℕ) (heard T : List ℕ) : Type 0 where
  pub six : 6 ≤ D
  pub most : D ≤ 128
  pub size : length heard ≡ D + D + D
  pub single : AreBits heard
  pub steps : Heard D heard D T

module _ (D : ℕ) (heard T : List ℕ) (given : Given D heard T) (left : List ℕ) (v : ℕ) (w : List ℕ) (b : Best (cost T) D left v w) (key : ℕ) (low : Least left 64 key) (over : v < key / 64) where
  six : 6 ≤ D
  six = given.six

  -- a goal that is not crossed off costs more
  dearer : (p : ℕ) → p < 64 → get_or left p 0 < 65535 → v < goal_cost (cost T) D p
  dearer p m h = let at_least_lem = low.low p m in let o = b.others p m h in omega (arith, at_least_lem, o.1)

  goal-fewest : (p : ℕ) → p < 64 → v ≤ goal_cost (cost T) D p
  goal-fewest p m = below_or (get_or left p 0) 65535 (λ h. let more = dearer p m h in omega (arith, more)) (λ h. b.fewest p m h)

  goal-smallest : (p : ℕ) → p < 64 → goal_cost (cost T) D p ≡ v → value_of w ≤ value_of (goal_word (cost T) D p)
  goal-smallest p m e = below_or (get_or left p 0) 65535 (λ h. let more = dearer p m h in absurd (omega (arith, more))) (λ h. b.smallest p m h e)

  -- "No word may exist with fewer differences than reported"
  pub best_fewest : (c : List ℕ) → AreBits c → length c ≡ D → v ≤ differences (streams c) heard
  best_fewest c h e =
      omega (
        arith,
        goal-fewest (preset c) (preset_lt c h (omega arith)),
        goal-most (cost T) D (preset c) c h e,
        charge-own D heard T given.size given.single given.steps c h e six,
      )

  best-length : length w ≡ D
  best-length = ap length b.word_is ∙ length-goal (cost T) D b.goal

  best-bits : AreBits w
  best-bits = rw b.word_is (bits-goal (cost T) D b.goal)

  best-charge : charge (cost T) (end_at b.goal) 0 b.goal w ≡ v
  best-charge = ap (λ (x : List ℕ). charge (cost T) (end_at b.goal) 0 b.goal x) b.word_is ∙ goal_attains (cost T) D b.goal ∙ sym b.cost_is

  -- the best word ends at its own start, for some word costs no more than 384
  pub best_attains : differences (streams w) heard ≡ v
  best_attains =
      let low = best_fewest w best-bits best-length in
      let code = differences-code D heard T given.size given.single given.steps w best-bits best-length six in
      let own : preset w ≡ b.goal = charge-other D heard T given.size given.single given.steps w best-bits best-length six b.goal b.inside (omega (arith, best-charge, given.most)) in
      sym (charge-own D heard T given.size given.single given.steps w best-bits best-length six)
      ∙ ap (λ (g : ℕ). charge (cost T) (end_at g) 0 g w) own ∙ best-charge

  -- "Among equals take the smallest"
  pub best_smallest : (c : List ℕ) → AreBits c → length c ≡ D → differences (streams c) heard ≡ v → value_of w ≤ value_of c
  best_smallest c h e q =
      let p = preset c in
      let m : p < 64 = preset_lt c h (omega arith) in
      let own = charge-own D heard T given.size given.single given.steps c h e six in
      let same : goal_cost (cost T) D p ≡ v = le_antisymm (omega (arith, goal-most (cost T) D p c h e)) (goal-fewest p m) in
      omega (arith, goal-smallest p m same, goal-first (cost T) D p c h e (omega arith))

  -- in numbers
  away-most : (k : ℕ) → v ≤ away D heard k
  unfolding away
  away-most k = best_fewest (digits D k) (digits-bits D k) (length_digits D k)

  back : digits D (value_of w) ≡ w
  back = ap (λ (n : ℕ). digits n (value_of w)) (sym best-length) ∙ digits_value w best-bits

  pub best_away : away D heard (value_of w) ≡ v
  unfolding away
  best_away = ap (λ (c : List ℕ). differences (streams c) heard) back ∙ best_attains

  away-smallest : (k : ℕ) → k < 2 ^ D → away D heard k ≡ v → value_of w ≤ k
  unfolding away
  away-smallest k l q =
      let s = best_smallest (digits D k) (digits-bits D k) (length_digits D k) q in
      omega (arith, s, value-digits D k l)

  below : value_of w < 2 ^ D
  below = subst (λ (n : ℕ). value_of w < 2 ^ n) best-length (value_lt w best-bits)

  first-nearest : First (2 ^ D) (is_nearest D heard) (value_of w)
  unfolding is_nearest
  first-nearest =
      record {
        below = below;
        holds = all_of (2 ^ D) (λ k. leb (away D heard (value_of w)) (away D heard k)) (λ k l. le-leb _ _ (no_more k));
        none = λ j l.
            all_fails (2 ^ D) (λ k. leb (away D heard j) (away D heard k)) (value_of w) below
            (lt-leb _ _ (less j l));
      }
    where
      no_more : (k : ℕ) → away D heard (value_of w) ≤ away D heard k
      no_more k = omega (arith, best_away, away-most k)

      less : (j : ℕ) → j < value_of w → away D heard (value_of w) < away D heard j
      less j l =
          equal_or (away D heard j) v (λ q. absurd (omega (arith, below, away-smallest j (omega (arith, below)) q)))
          (λ n. omega (arith, best_away, away-most j, n))

  pub best_nearest : nearest D heard ≡ value_of w
  unfolding nearest
  best_nearest = first-is (2 ^ D) (is_nearest D heard) (value_of w) first-nearest

  pub best_word : digits D (nearest D heard) ≡ w
  best_word = ap (λ (n : ℕ). digits D n) best_nearest ∙ back

  pub best_count : away D heard (nearest D heard) ≡ v
  best_count = ap (λ (n : ℕ). away D heard n) best_nearest ∙ best_away
