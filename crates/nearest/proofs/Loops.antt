-- The loops of the quick way: the prices, a step back, the rows and the walk.
use mathlib.Core.Path.{◌≡◌, refl, sym, ap, ap₂, ◌∙◌, subst}
use mathlib.Core.Bool.{Bool, true, false, cond}
use mathlib.Core.List.{List, [], ◌++◌}
use Prim.Native.Nat.{ℕ, zero, suc, ◌+◌, ◌-◌, ◌*◌, ◌/◌, ◌≤◌, ◌<◌, min}
use native.Mathlib.Nat.{zero-add, sub-zero, le_refl}
use mir.Val.{bool_byte}
use native.Mathlib.Numerals.{add-one}
use native.Mathlib.Omega.{arith}
use lib.Dec.{ltb, lit<}
use lib.ListN.{length, get_or, take, drop, set, replicate, length-set}
use lib.Seq.{get_or-take, get_or-drop, get_or-set_same, get_or-set_other, sets, sets-eq}
use Rattle.bits.specs.Bits.{AreBits}
use Rattle.bits.proofs.Ranges.{last_or}
use Rattle.nearest.specs.Steps.Trellis.{price, cost, way, lower, choice, least, walk, end_at, end_open, goal_cost, goal_word}
use Rattle.nearest.specs.Steps.Rows.{Made, Prices, Heard, Ready, way_of, Stepped, Low, AtMost, chosen, Row, Filled, Least}
use Rattle.nearest.proofs.Trellis.{lower-min, lower-left, lower-right, lower-is, least_open, least_bound, length-walk}
use Rattle.nearest.proofs.Charges.{end_low, low_open}
use Rattle.nearest.proofs.Tolls.{price-one, price_odd, cost-most, heard-low}

-- a place that a loop has just stored: those before it stay
stored : (n : ℕ) (f : ℕ → ℕ) (b : List ℕ) (v : ℕ) → ((k : ℕ) → k < n → get_or b k 0 ≡ f k) → n < length b → v ≡ f n
    → (k : ℕ) → k < n + 1 → get_or (set b n v) k 0 ≡ f k
stored n f b v h l e k m =
    last_or k n (omega arith) (λ o. get_or-set_other b n k v 0 (λ q. omega arith) ∙ h k o)
    (λ q. ap (λ (x : ℕ). get_or (set b n v) x 0) q ∙ get_or-set_same b n v 0 l ∙ e ∙ ap f (sym q))

-- ---- a list that is made from the front

module _ (size : ℕ) (g : ℕ → ℕ) where
  pub made_more : (n : ℕ) (t : List ℕ) (v : ℕ) → Made size g n t → n < size → v ≡ g n → Made size g (n + 1) (set t n v)
  made_more n t v h l e = record { len = length-set t n v ∙ h.len; at = stored n g t v h.at (omega (arith, h.len)) e }

-- ---- rows stored one after the other

-- a row that a loop has just stored: those before it stay
stored_row : (P : ℕ → List ℕ → Type 0) (n : ℕ) (t : List (List ℕ)) (row : List ℕ) → n < length t → ((m : ℕ) → m < n → P m (get_or t m [])) → P n row
    → (m : ℕ) → m < n + 1 → P m (get_or (set t n row) m [])
stored_row P n t row l h p m o =
    last_or m n (omega arith)
    (λ u. subst (P m) (sym (get_or-set_other t n m row [] (λ q. omega arith))) (h m u))
    (λ q. subst (λ (x : ℕ). P x (get_or (set t n row) x [])) (sym q) (subst (P n) (sym (get_or-set_same t n row [] l)) p))

-- ---- the prices

pub price_at : (t : List (List ℕ)) → Prices 8 t → (h i j : ℕ) → i ≡ h → h < 8 → j < 32 → get_or (get_or t i []) j 0 ≡ price h (2 * j)
price_at t p h i j e l m = rw e ((p.at h l).at j m)

-- ---- what is heard

zeros : (n k : ℕ) → ◌≡◌ {A = ℕ} (get_or (replicate n 0) k 0) 0
zeros zero k = refl
zeros (suc n) zero = refl
zeros (suc n) (suc k) = zeros n k

module _ (D : ℕ) (heard : List ℕ) where
  pub heard-none : Heard D heard 0 (replicate 128 0)
  heard-none = record { len = refl; at = λ k l. absurd (omega arith); behind = λ k l. zeros 128 k }

-- ---- one step back

module _ (h : ℕ) (l : List ℕ) where
  -- what is due at a state
  abbrev step_at : ℕ → ℕ
  step_at s = lower (way_of h l s) (way_of h l (64 + s))

  -- a way from what it costs and the place where it goes
  pub way_to : (r p x : ℕ) → x ≡ price h r → r / 2 ≡ p → x + get_or l p 0 ≡ way_of h l r
  unfolding way_of
  way_to r p x e q = rw (e, q)

  -- the bit 1 goes 32 states further, for the rest of three
  pub way-one : (s x : ℕ) → h < 8 → s < 64 → x ≡ price h s → 3 - x + get_or l (32 + s / 2) 0 ≡ way_of h l (64 + s)
  way-one s x low m e = way_to (64 + s) (32 + s / 2) (3 - x) (omega (arith, price-one h s low m)) (omega arith)

  -- the two states that go the same ways, at one turn
  pub stepped-pair : (j x v v' : ℕ) (row : List ℕ) → h < 8 → j < 32 → x ≡ price h (2 * j)
      → v ≡ min (x + get_or l j 0) (3 - x + get_or l (32 + j) 0)
      → v' ≡ min (3 - x + get_or l j 0) (x + get_or l (32 + j) 0)
      → Stepped h l (2 * j) row → Stepped h l (2 * (j + 1)) (set (set row (2 * j) v) (2 * j + 1) v')
  stepped-pair j x v v' row low m e q q' r =
      let even-one : 3 - x ≡ price h (64 + 2 * j) = omega (arith, price-one h (2 * j) low (omega arith)) in
      let odd-zero : 3 - x ≡ price h (2 * j + 1) = omega (arith, price_odd h j low m) in
      let odd-one : x ≡ price h (64 + (2 * j + 1)) = omega (arith, price-one h (2 * j + 1) low (omega arith), price_odd h j low m) in
      let first = made_more 64 step_at (2 * j) row v r (omega arith)
      (q ∙ lower-min _ _ ∙ ap₂ lower (way_to (2 * j) j x e (omega arith)) (way_to (64 + 2 * j) (32 + j) (3 - x) even-one (omega arith))) in
      let second = made_more 64 step_at (2 * j + 1) (set row (2 * j) v) v' first (omega arith)
      (q' ∙ lower-min _ _ ∙ ap₂ lower (way_to (2 * j + 1) j (3 - x) odd-zero (omega arith)) (way_to (64 + (2 * j + 1)) (32 + j) x odd-one (omega arith))) in
      let next : 2 * j + 1 + 1 ≡ 2 * (j + 1) = omega arith in
      subst (λ (n : ℕ). Stepped h l n (set (set row (2 * j) v) (2 * j + 1) v')) next second

  -- the test of the two ways
  pub chosen-is : (s x : ℕ) → h < 8 → s < 64 → x ≡ price h s
      → (bool_byte (ltb (3 - x + get_or l (32 + s / 2) 0) (x + get_or l (s / 2) 0)) ≡ chosen h l s) × (chosen h l s < 2)
  unfolding chosen
  chosen-is s x low m e =
      rw (way-one s x low m e, way_to s (s / 2) x e refl) (as-bit (ltb (way_of h l (64 + s)) (way_of h l s)))
    where
      as-bit : (t : Bool) → (bool_byte t ≡ cond t 1 0) × (cond t 1 0 < 2)
      as-bit true = (refl, lit< tt)
      as-bit false = (refl, lit< tt)

-- ---- rows of the least costs

module _ (D : ℕ) (T : List ℕ) (t : List (List ℕ)) (ready : Ready D T t) (E : List ℕ) (low : AtMost 500 E) where
  bound : (n k s : ℕ) → s < 64 → least (cost T) E n k s ≤ 500 + 3 * n
  bound = least_bound (cost T) (cost-most T ready.low) E 500 low

  pub row_last : length E ≡ 64 → (k : ℕ) → Row (cost T) E 0 k E
  unfolding least
  row_last e k = record { len = e; at = λ s l. refl }

  pub row_low : (n k : ℕ) (l : List ℕ) → Row (cost T) E n k l → n ≤ 128 → Low l
  row_low n k l r h s m = omega (arith, r.at s m, bound n k s m)

  -- a way by a row is the trellis' way
  way-is : (n k : ℕ) (l : List ℕ) (r s b : ℕ) → b < 2 → s < 64 → r ≡ b * 64 + s → Row (cost T) E n (suc k) l
      → way_of (get_or T k 0) l r ≡ way (cost T) k (least (cost T) E n (suc k)) s b
  unfolding way_of way cost
  way-is n k l r s b hb hs e h =
      subst (λ (x : ℕ). price (get_or T k 0) r + get_or l (r / 2) 0 ≡ price (get_or T k 0) x + least (cost T) E n (suc k) (x / 2)) e
      (ap (λ (x : ℕ). price (get_or T k 0) r + x) (h.at (r / 2) (omega arith)))

  row_step : (n k : ℕ) (l row : List ℕ) → Row (cost T) E n (suc k) l → Stepped (get_or T k 0) l 64 row → Row (cost T) E (suc n) k row
  unfolding least
  row_step n k l row r p =
      record {
        len = p.len;
        at = λ s m.
            p.at s m
            ∙ ap₂ lower (way-is n k l s s 0 (omega arith) m (omega arith) r) (way-is n k l (64 + s) s 1 (omega arith) m (omega arith) r);
      }

  -- ---- all rows

  pub filled-first : length E ≡ 64 → (a : List (List ℕ)) → length a ≡ 129 → Filled (cost T) E D 0 (set a 0 E)
  filled-first long a e =
      record {
        len = length-set a 0 E ∙ e;
        at = λ m k q l.
            stored_row (λ m row. (k : ℕ) → m + k ≡ D → Row (cost T) E m k row) 0 a E (omega arith) (λ i o. absurd (omega arith)) (λ k q. row_last long k) m (omega arith) k q;
      }

  -- one turn of the loop that fills them
  pub row_turn : (n i : ℕ) (l row : List ℕ) → n < D → i ≡ D - 1 - n → Row (cost T) E n (D - n) l → Stepped (get_or T i 0) l 64 row
      → Row (cost T) E (n + 1) (D - (n + 1)) row
  row_turn n i l row m at r p =
      let k = D - 1 - n in
      let before : D - n ≡ suc k = omega arith in
      let then : D - (n + 1) ≡ k = omega arith in
      rw (then, add-one n) (row_step n k l row (subst (λ (x : ℕ). Row (cost T) E n x l) before r) (subst (λ (x : ℕ). Stepped (get_or T x 0) l 64 row) at p))

  pub filled_turn : (n : ℕ) (row : List ℕ) (a : List (List ℕ)) → n < D → Row (cost T) E (n + 1) (D - (n + 1)) row → Filled (cost T) E D n a
      → Filled (cost T) E D (n + 1) (set a (n + 1) row)
  filled_turn n row a l r h =
      record {
        len = length-set a (n + 1) row ∙ h.len;
        at = λ m k q o.
            stored_row (λ m row. (k : ℕ) → m + k ≡ D → Row (cost T) E m k row) (n + 1) a row (omega (arith, h.len, ready.most)) (λ i u k q. h.at i k q (omega arith))
            (λ k q. subst (λ (x : ℕ). Row (cost T) E (n + 1) x row) (omega arith) r) m (omega arith) k q;
      }

  -- ---- the walk

  module _ (costs : List (List ℕ)) (filled : Filled (cost T) E D D costs) where
    pub filled-low : (n : ℕ) → n ≤ D → Low (get_or costs n [])
    filled-low n l = row_low n (D - n) (get_or costs n []) (filled.at n (D - n) (omega arith) l) (omega (arith, ready.most))

    chosen_is : (n k s : ℕ) → n + suc k ≡ D → s < 64 → chosen (get_or T k 0) (get_or costs n []) s ≡ choice (cost T) k (least (cost T) E n (suc k)) s
    unfolding chosen choice
    chosen_is n k s e l =
        let row = get_or costs n [] in
        let here = filled.at n (suc k) e (omega arith) in
        ap₂ (λ (x y : ℕ). cond (ltb x y) 1 0) (way-is n k row (64 + s) s 1 (omega arith) l (omega arith) here) (way-is n k row s s 0 (omega arith) l (omega arith) here)

    -- one turn
    pub walk_turn : (k s b : ℕ) (word : List ℕ) → k < D → s < 64 → b ≡ chosen (get_or T k 0) (get_or costs (D - 1 - k) []) s
        → sets word k (walk (cost T) E (D - k) k s) ≡ sets (set word k b) (k + 1) (walk (cost T) E (D - (k + 1)) (k + 1) ((b * 64 + s) / 2))
    unfolding walk
    walk_turn k s b word l m e =
        let n = D - 1 - k in
        let left : D - k ≡ suc n = omega arith in
        let then : D - (k + 1) ≡ n = omega arith in
        let b-is : b ≡ choice (cost T) k (least (cost T) E n (suc k)) s = e ∙ chosen_is n k s (omega arith) m in
        rw (left, then, b-is, add-one k)

    pub walk_end : (k s : ℕ) (word : List ℕ) → D ≤ k → sets word k (walk (cost T) E (D - k) k s) ≡ word
    unfolding walk
    walk_end k s word l = let none : D - k ≡ 0 = omega arith in rw none

-- the walk of a goal, written from the front
pub walk_start : (T : List ℕ) (D goal : ℕ) (word : List ℕ) → D ≤ length word
    → sets word 0 (walk (cost T) (end_at goal) (D - 0) 0 goal) ≡ goal_word (cost T) D goal ++ drop D word
unfolding goal_word
walk_start T D goal word l =
    let w = walk (cost T) (end_at goal) D 0 goal in
    let long = length-walk (cost T) (end_at goal) D 0 goal in
    rw (sub-zero D) (sets-eq w word 0 (omega (arith, long)) ∙ ap (λ (n : ℕ). w ++ drop n word) (zero-add (length w) ∙ long))

-- ---- a goal, whatever its end was computed as

module _ (T : List ℕ) (D goal : ℕ) (E : List ℕ) (e : E ≡ end_at goal) where
  pub row-goal : (row : List ℕ) → goal < 64 → Row (cost T) E D 0 row → get_or row goal 0 ≡ goal_cost (cost T) D goal
  unfolding goal_cost
  row-goal row l r = r.at goal l ∙ ap (λ (x : List ℕ). least (cost T) x D 0 goal) e

pub goal_bound : (D : ℕ) (T : List ℕ) (t : List (List ℕ)) → Ready D T t → (goal : ℕ) → goal < 64 → goal_cost (cost T) D goal ≤ 884
unfolding goal_cost
goal_bound D T t h goal l = omega (arith, h.most, least_bound (cost T) (cost-most T h.low) (end_at goal) 500 (end_low goal l) D 0 goal l)

-- with an open end it costs no more
pub open_row : (T : List ℕ) (D : ℕ) (E row : List ℕ) → E ≡ end_open → Row (cost T) E D 0 row → Row (cost T) end_open D 0 row
open_row T D E row e r = subst (λ (x : List ℕ). Row (cost T) x D 0 row) e r

pub open_goal : (T : List ℕ) (D goal : ℕ) (row : List ℕ) → goal < 64 → Row (cost T) end_open D 0 row → get_or row goal 0 ≤ goal_cost (cost T) D goal
unfolding goal_cost
open_goal T D goal row l r = let here = r.at goal l in let low = least_open (cost T) (end_at goal) D 0 goal l in omega (arith, here, low)

-- and it is low, so that it has room beside its state
pub open_low : (D : ℕ) (T : List ℕ) (t : List (List ℕ)) → Ready D T t → (row : List ℕ) → Row (cost T) end_open D 0 row → AtMost 384 row
open_low D T t h row r s l =
    omega (arith, h.most, r.at s l, least_bound (cost T) (cost-most T h.low) end_open 0 (low_open end_open 0 refl) D 0 s l)

-- ---- the least of a row

module _ (row : List ℕ) where
  pub least_first : Least row 1 (get_or row 0 0)
  least_first = record { place = 0; inside = omega arith; is = refl; low = λ k l. let z : k ≡ 0 = omega arith in rw z (le_refl (get_or row 0 0)) }

  pub least_more : (n v u : ℕ) → Least row n v → u ≡ min v (get_or row n 0) → Least row (n + 1) u
  least_more n v u h e = subst (λ (x : ℕ). Least row (n + 1) x) (sym (e ∙ lower-min v (get_or row n 0))) (lower-is v (get_or row n 0) (λ (x : ℕ). x ≡ lower v (get_or row n 0) → Least row (n + 1) x) one two refl)
    where
      low : (x : ℕ) → x ≡ lower v (get_or row n 0) → (k : ℕ) → k < n + 1 → x ≤ get_or row k 0
      low x q k l =
          last_or k n (omega arith) (λ m. omega (arith, q, lower-left v (get_or row n 0), h.low k m))
          (λ m. rw m (omega (arith, q, lower-right v (get_or row n 0))))

      one : v ≡ lower v (get_or row n 0) → Least row (n + 1) v
      one q = record { place = h.place; inside = omega (arith, h.inside); is = h.is; low = low v q }

      two : get_or row n 0 ≡ lower v (get_or row n 0) → Least row (n + 1) (get_or row n 0)
      two q = record { place = n; inside = omega arith; is = refl; low = low (get_or row n 0) q }

  -- the elements behind the first
  pub behind-first : (n i : ℕ) → i < n → get_or (take n (drop 1 row)) i 0 ≡ get_or row (i + 1) 0
  behind-first n i h = get_or-take n (drop 1 row) i 0 h ∙ get_or-drop 1 row i 0 ∙ ap (λ (j : ℕ). get_or row j 0) (omega arith)

pub ready : (D : ℕ) (heard T : List ℕ) (t : List (List ℕ)) → D ≤ 128 → AreBits heard → Heard D heard D T → Prices 8 t → Ready D T t
ready D heard T t most single h p = record { most = most; low = heard-low D heard T single h; table = p }
