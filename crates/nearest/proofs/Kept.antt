-- The better of two words is kept.
use mathlib.Core.Path.{◌≡◌, refl, sym, ap, ◌∙◌}
use mathlib.Core.Bool.{Bool, true, false}
use mathlib.Core.List.{List, ◌++◌}
use Prim.Native.Nat.{ℕ, ◌/◌, ◌%◌, ◌≤◌, ◌<◌}
use native.Mathlib.Omega.{arith}
use borrow.Author.Tests.{le-ltb, eq-eqb}
use lib.Dec.{ltb}
use lib.ListN.{length, get_or, take, drop, set, take-append-drop}
use lib.Seq.{take_at, drop_at}
use Rattle.bits.specs.Bits.{AreBits, digits, value_of}
use Rattle.nearest.specs.Nearest.{away, nearest}
use Rattle.nearest.specs.Steps.Trellis.{cost, goal_cost, goal_word, beats, Best}
use Rattle.nearest.specs.Steps.Rows.{AtMost, Ranked, Least, Kept}
use Rattle.nearest.proofs.Best.{length-goal, bits-goal, best_one, best-new, best-old, Given, best_word, best_count}

-- ---- which is better

module _ (v : ℕ) (w : List ℕ) (v' : ℕ) (w' : List ℕ) where
  pub beats-same : v' ≡ v → beats v w v' w' ≡ ltb (value_of w') (value_of w)
  unfolding beats
  beats-same e = let h : v ≤ v' = omega arith in rw (le-ltb v' v h, eq-eqb v' v e)

-- ---- the loop over the goals

module _ (f : ℕ → ℕ → ℕ) (D : ℕ) where
  -- the word of a goal in front of what was there
  pub goal-front : (goal : ℕ) (word word' : List ℕ) → word' ≡ goal_word f D goal ++ drop D word → take D word' ≡ goal_word f D goal
  goal-front goal word word' e = ap (take D) e ∙ take_at (goal_word f D goal) (drop D word) D (length-goal f D goal)

  pub goal-rest : (goal : ℕ) (word word' : List ℕ) → word' ≡ goal_word f D goal ++ drop D word → drop D word' ≡ drop D word
  goal-rest goal word word' e = ap (drop D) e ∙ drop_at (goal_word f D goal) (drop D word) D (length-goal f D goal)

  pub goal-bits : (goal : ℕ) (w : List ℕ) → w ≡ goal_word f D goal → AreBits w
  goal-bits goal w e = rw e (bits-goal f D goal)

  pub best_front : (row left : List ℕ) (first v : ℕ) (out out' : List ℕ) → first < 64 → AtMost 384 row → ((s : ℕ) → s < 64 → get_or row s 0 ≤ goal_cost f D s)
      → Ranked row 64 left → v ≡ goal_cost f D first → out' ≡ goal_word f D first ++ drop D out → Best f D (set left first 65535) v (take D out')
  best_front row left first v out out' l low cheap r e q = rw (e, goal-front first out out' q) (best_one f D row left first l low cheap r)

  pub best_kept : (left : List ℕ) (goal best : ℕ) (out : List ℕ) (v : ℕ) (word : List ℕ) (r : ℕ) (out' : List ℕ) → Best f D left best (take D out) → goal < 64
      → v ≡ goal_cost f D goal → take D word ≡ goal_word f D goal → Kept D best out v word r out'
      → Best f D (set left goal 65535) r (take D out') × (drop D out' ≡ drop D out)
  best_kept left goal best out v word r out' b l e q k = by-test (beats best (take D out) v (take D word)) refl
    where
      long : length (take D word) ≡ D
      long = ap length q ∙ length-goal f D goal

      by-test : (t : Bool) → beats best (take D out) v (take D word) ≡ t → Best f D (set left goal 65535) r (take D out') × (drop D out' ≡ drop D out)
      by-test true p =
          let both = k.new p in
          let taken : take D out' ≡ take D word = ap (take D) both.1 ∙ take_at (take D word) (drop D out) D long in (
            rw (both.0, taken) (best-new f D left best (take D out) b goal l v (take D word) e q p),
            ap (drop D) both.1 ∙ drop_at (take D word) (drop D out) D long,
          )
      by-test false p =
          let both = k.old p in (
            rw (both.0, both.1) (best-old f D left best (take D out) b goal l v (take D word) e q p),
            ap (drop D) both.1,
          )

  -- a goal that is still left, and what the best costs
  pub best_low : (left : List ℕ) (v : ℕ) (w : List ℕ) → ((goal : ℕ) → goal < 64 → goal_cost f D goal ≤ 884) → Best f D left v w → v ≤ 884
  best_low left v w low b = let m = low b.goal b.inside in omega (arith, m, b.cost_is)

  pub next-left : (left : List ℕ) (v : ℕ) (w : List ℕ) (key : ℕ) → Best f D left v w → v ≤ 884 → Least left 64 key → key / 64 ≤ v
      → get_or left (key % 64) 0 < 65535
  next-left left v w key b most low h =
      let under : get_or left low.place 0 < 65535 = omega (arith, low.is) in
      let o = b.others low.place low.inside under in
      let at : key % 64 ≡ low.place = ap (λ (x : ℕ). x % 64) (sym low.is) ∙ o.0 in
      rw at under

-- ---- all goals

pub best_all : (D : ℕ) (heard T left : List ℕ) (v key : ℕ) (out out₀ : List ℕ) → Given D heard T → Best (cost T) D left v (take D out) → Least left 64 key
    → v < key / 64 → drop D out ≡ drop D out₀ → (v ≡ away D heard (nearest D heard)) × (out ≡ digits D (nearest D heard) ++ drop D out₀)
best_all D heard T left v key out out₀ given b low over e = (
  sym (best_count D heard T given left v (take D out) b key low over),
  sym (take-append-drop D out) ∙ ap (λ (x : List ℕ). take D out ++ x) e
      ∙ ap (λ (x : List ℕ). x ++ drop D out₀) (sym (best_word D heard T given left v (take D out) b key low over)),
)
