-- The loops over the order: one turn of each, and what they make.
use mathlib.Core.Path.{◌≡◌, refl, sym, ap, ap₂, subst, ◌∙◌}
use mathlib.Core.List.{List, [], ◌∷◌, ◌++◌}
use Prim.Native.Nat.{ℕ, zero, suc, ◌+◌, ◌-◌, ◌*◌, ◌%◌, ◌≤◌, ◌<◌}
use native.Mathlib.Nat.{add-mul, mul_comm}
use native.Mathlib.Omega.{arith}
use lib.Arith.{digits_lt}
use lib.ListN.{length, get_or, take, drop, length-append, get_or-append}
use lib.Seq.{get_or-append_seam, take_at}
use Rattle.bits.specs.Ranges.{list_below}
use Rattle.bits.proofs.Listed.{length_list, written}
use Rattle.bits.proofs.Ranges.{last_or, below_or}
use Rattle.control.specs.Interleaver.{rows, dummies, columns, matrix_place}
use Rattle.control.specs.Steps.Order.{order_to, order, place, before, spot, Three, Threes, collected, Scattered}
use Rattle.control.proofs.Ordering.{rows_of, read_at, column_lt, order_skip, order_put, order-length, place_lt, place_once, spot-first, spot-second, spot-third}

-- ---- the order, column by column

-- what is read stays where it stands
order_more : (D k m i : ℕ) → i < length (order_to D k) → (length (order_to D k) ≤ length (order_to D (k + m))) × (get_or (order_to D (k + m)) i 0 ≡ get_or (order_to D k) i 0)
order_more D k zero i h = let at : k + 0 ≡ k = omega arith in rw at (omega arith, refl)
order_more D k (suc m) i h =
    let on : k + suc m ≡ suc (k + m) = omega arith in
    let e = order_more D k m i h in
    below_or (matrix_place (rows D) (k + m)) (dummies D)
    (λ l. rw (on, order_skip D (k + m) l) e)
    (λ l. rw (on, order_put D (k + m) l) (
      omega (arith, e.0, length-append (order_to D (k + m)) ((matrix_place (rows D) (k + m) - dummies D) ∷ [])),
      get_or-append (order_to D (k + m)) _ 0 i (omega (arith, e.0)) ∙ e.1,
    ))

-- so many rows of the j-th column are read, with n places up to there, and p is the place of the stream in the next
pub record Column (D j p n : ℕ) : Type 0 where
  pub some : 0 < D
  pub fits : D ≤ 128
  pub inside : j < 32
  pub row : ℕ
  pub most : row ≤ rows D
  pub is : row * 32 + get_or columns j 0 ≡ p + dummies D
  pub size : length (order_to D (j * rows D + row)) ≡ n

pub before-none : (D : ℕ) → 0 ≡ before D 0
unfolding before order_to
before-none D = let none : 0 * rows D ≡ 0 = omega arith in rw none

pub before-all : (D : ℕ) → D ≤ 128 → (j : ℕ) → j ≡ 32 → before D j ≡ D
unfolding before order
before-all D most j e = ap (λ (x : ℕ). length (order_to D x)) (ap (λ (x : ℕ). x * rows D) e ∙ mul_comm 32 (rows D)) ∙ order-length D most

pub column-first : (D j n p : ℕ) → 0 < D → D ≤ 128 → j < 32 → n ≡ before D j → p ≡ (get_or columns j 0 + D) % 32 → Column D j p n
unfolding before
column-first D j n p some fits inside o q =
    let R = rows_of D some fits in
    let low = column_lt j inside in
    let start : j * rows D + 0 ≡ j * rows D = omega arith in
    let first : matrix_place (rows D) (j * rows D) ≡ get_or columns j 0 = ap (matrix_place (rows D)) (sym start) ∙ read_at (rows D) 0 j R.some ∙ omega arith in
    below_or (get_or columns j 0) (dummies D)
    (λ l.
    let next : j * rows D + 1 ≡ suc (j * rows D) = omega arith in
    record {
      some = some;
      fits = fits;
      inside = inside;
      row = 1;
      most = R.some;
      is = omega (arith, R.all, R.less, low);
      size = ap (λ (x : ℕ). length (order_to D x)) next ∙ ap length (order_skip D (j * rows D) (omega arith)) ∙ sym o;
    })
    (λ l.
    record {
      some = some;
      fits = fits;
      inside = inside;
      row = 0;
      most = omega arith;
      is = omega (arith, R.all, R.less, low);
      size = ap (λ (x : ℕ). length (order_to D x)) start ∙ sym o;
    })

module _ {D j p n : ℕ} (k : Column D j p n) where
  module _ (l : p < D) where
    here : ℕ
    here = j * rows D + k.row

    inside : k.row < rows D
    inside = let R = rows_of D k.some k.fits in omega (arith, R.all, k.is)

    cell : matrix_place (rows D) here ≡ p + dummies D
    unfolding here
    cell = read_at (rows D) k.row j inside ∙ omega (arith, k.is)

    more : order_to D (suc here) ≡ order_to D here ++ (p ∷ [])
    more = order_put D here (omega (arith, cell)) ∙ ap (λ (x : ℕ). order_to D here ++ (x ∷ [])) (omega (arith, cell))

    -- it is the n-th that is sent
    pub column-at : (n < D) × (p ≡ place D n)
    unfolding place order here
    column-at =
        let size : length (order_to D here) ≡ n = k.size in
        let longer : length (order_to D (suc here)) ≡ n + 1 = ap length more ∙ length-append (order_to D here) (p ∷ []) ∙ omega arith in
        let left : suc here + (rows D * 32 - suc here) ≡ rows D * 32 = omega (arith, digits_lt k.inside inside, mul_comm 32 (rows D)) in
        let on = order_more D (suc here) (rows D * 32 - suc here) n (omega arith) in
        let whole : length (order_to D (suc here + (rows D * 32 - suc here))) ≡ D = ap (λ (x : ℕ). length (order_to D x)) left ∙ order-length D k.fits in (
          omega (arith, on.0),
          sym (ap (λ (x : ℕ). get_or (order_to D x) n 0) (sym left) ∙ on.1 ∙ ap₂ (λ (y : List ℕ) (i : ℕ). get_or y i 0) more (sym size) ∙ get_or-append_seam (order_to D here) p [] 0),
        )

    pub column-turn : Column D j (p + 32) (n + 1)
    unfolding here
    column-turn =
        let next : j * rows D + (k.row + 1) ≡ suc here = omega arith in
        record {
          some = k.some;
          fits = k.fits;
          inside = k.inside;
          row = k.row + 1;
          most = omega (arith, inside);
          is = omega (arith, k.is);
          size = ap (λ (x : ℕ). length (order_to D x)) next ∙ ap length more ∙ length-append (order_to D here) (p ∷ []) ∙ omega (arith, k.size);
        }

  pub column-end : D ≤ p → n ≡ before D (j + 1)
  unfolding before
  column-end l =
      let R = rows_of D k.some k.fits in
      let all : k.row ≡ rows D = omega (arith, R.all, k.is, k.most, column_lt j k.inside) in
      let next : j * rows D + k.row ≡ (j + 1) * rows D = omega (arith, add-mul j 1 (rows D)) in
      sym k.size ∙ ap (λ (x : ℕ). length (order_to D x)) next

-- so there are fewer than D up to there
pub column_bound : {D j p n : ℕ} → Column D j p n → p < D → n < D
column_bound k l = (column-at k l).0

-- ---- three streams in one pass

-- what holds of each stream holds of all places
each_of_three : (D : ℕ) (P : ℕ → Type 0) → ((j : ℕ) → j < D → P j) → ((j : ℕ) → j < D → P (D + j)) → ((j : ℕ) → j < D → P (D + D + j))
    → (k : ℕ) → k < D + D + D → P k
each_of_three D P one two three k h =
    below_or k D (one k)
    (λ l. below_or k (D + D)
    (λ m. let at : D + (k - D) ≡ k = omega arith in subst P at (two (k - D) (omega arith)))
    (λ m. let at : D + D + (k - (D + D)) ≡ k = omega arith in subst P at (three (k - (D + D)) (omega arith))))

module _ (D : ℕ) (f : ℕ → ℕ) (a : List ℕ) where
  pub threes_none : Threes D f 0 a a
  threes_none =
      record { len = refl; first = λ j h. absurd (omega arith); second = λ j h. absurd (omega arith); third = λ j h. absurd (omega arith); above = λ p h. refl }

  pub threes_turn : (k x y z : ℕ) (b c : List ℕ) → k < D → x ≡ f k → y ≡ f (D + k) → z ≡ f (D + D + k) → Threes D f k a b → Three D k x y z b c → Threes D f (k + 1) a c
  threes_turn k x y z b c h ex ey ez t s =
      record {
        len = s.len ∙ t.len;
        first = λ j m.
            last_or j k (omega arith)
            (λ l. s.other j (λ q. omega arith) (λ q. omega arith) (λ q. omega arith) ∙ t.first j l)
            (λ q. ap (λ (i : ℕ). get_or c i 0) q ∙ s.first ∙ ex ∙ ap f (sym q));
        second = λ j m.
            last_or j k (omega arith)
            (λ l. s.other (D + j) (λ q. omega arith) (λ q. omega arith) (λ q. omega arith) ∙ t.second j l)
            (λ q. ap (λ (i : ℕ). get_or c (D + i) 0) q ∙ s.second ∙ ey ∙ ap (λ (i : ℕ). f (D + i)) (sym q));
        third = λ j m.
            last_or j k (omega arith)
            (λ l. s.other (D + D + j) (λ q. omega arith) (λ q. omega arith) (λ q. omega arith) ∙ t.third j l)
            (λ q. ap (λ (i : ℕ). get_or c (D + D + i) 0) q ∙ s.third ∙ ez ∙ ap (λ (i : ℕ). f (D + D + i)) (sym q));
        above = λ p m. s.other p (λ q. omega arith) (λ q. omega arith) (λ q. omega arith) ∙ t.above p m;
      }

  pub threes_all : (k : ℕ) (b : List ℕ) → k ≡ D → D + D + D ≤ length a → Threes D f k a b → b ≡ list_below (D + D + D) f ++ drop (D + D + D) a
  threes_all k b e room t =
      written (D + D + D) f a b room t.len
      (each_of_three D (λ k. get_or b k 0 ≡ f k) (λ j h. t.first j (omega arith)) (λ j h. t.second j (omega arith)) (λ j h. t.third j (omega arith)))
      t.above

-- ---- collecting and scattering

module _ (D : ℕ) (some : 0 < D) (most : D ≤ 128) where
  pub collected_turn : (S a b c : List ℕ) (j p : ℕ) → j < D → p ≡ place D j → Threes D (λ k. get_or S (spot D k) 0) j a b
      → Three D j (get_or S p 0) (get_or S (D + p) 0) (get_or S (D + D + p) 0) b c → Threes D (λ k. get_or S (spot D k) 0) (j + 1) a c
  collected_turn S a b c j p h e t s =
      threes_turn D (λ k. get_or S (spot D k) 0) a j _ _ _ b c h
      (ap (λ (i : ℕ). get_or S i 0) (e ∙ sym (spot-first D some most j h)))
      (ap (λ (i : ℕ). get_or S i 0) (ap (λ (i : ℕ). D + i) e ∙ sym (spot-second D some most j h)))
      (ap (λ (i : ℕ). get_or S i 0) (ap (λ (i : ℕ). D + D + i) e ∙ sym (spot-third D some most j h))) t s

  pub collected_on : {j p n : ℕ} (S a b c : List ℕ) → Column D j p n → p < D → Threes D (λ k. get_or S (spot D k) 0) n a b
      → Three D n (get_or S p 0) (get_or S (D + p) 0) (get_or S (D + D + p) 0) b c → Threes D (λ k. get_or S (spot D k) 0) (n + 1) a c
  collected_on {p = p} {n} S a b c k l t s = let at = column-at k l in collected_turn S a b c n p at.0 at.1 t s

  pub collected-all : (S a b : List ℕ) (j : ℕ) → j ≡ D → D + D + D ≤ length a → Threes D (λ k. get_or S (spot D k) 0) j a b → take (3 * D) b ≡ collected D S
  unfolding collected
  collected-all S a b j e room t =
      let three : 3 * D ≡ D + D + D = omega arith in
      rw three
      (ap (take (D + D + D)) (threes_all D (λ k. get_or S (spot D k) 0) a j b e room t)
      ∙ take_at (list_below (D + D + D) (λ k. get_or S (spot D k) 0)) _ (D + D + D) (length_list (D + D + D) (λ k. get_or S (spot D k) 0)))

  pub scattered_none : (bits a : List ℕ) → Scattered D bits 0 a a
  scattered_none bits a =
      record { len = refl; first = λ j h. absurd (omega arith); second = λ j h. absurd (omega arith); third = λ j h. absurd (omega arith); above = λ p h. refl }

  pub scattered_turn : (k p : ℕ) (bits a b c : List ℕ) → k < D → p ≡ place D k → Scattered D bits k a b
      → Three D p (get_or bits k 0) (get_or bits (D + k) 0) (get_or bits (D + D + k) 0) b c → Scattered D bits (k + 1) a c
  scattered_turn k p bits a b c h e t s =
      let low : p < D = rw e (place_lt D some most k h) in
      let apart : (j : ℕ) → j < k → place D j ≡ p → ⊥ = λ j l q. let once : j ≡ k = place_once D some most j k (omega arith) h (q ∙ e) in omega arith in
      let inside : (j : ℕ) → j < k → place D j < D = λ j l. place_lt D some most j (omega arith) in
      record {
        len = s.len ∙ t.len;
        first = λ j m.
            last_or j k (omega arith)
            (λ l.
            let i = inside j l in
            s.other (place D j) (apart j l) (λ q. omega arith) (λ q. omega arith) ∙ t.first j l)
            (λ q. ap (λ (i : ℕ). get_or c i 0) (ap (place D) q ∙ sym e) ∙ s.first ∙ ap (λ (i : ℕ). get_or bits i 0) (sym q));
        second = λ j m.
            last_or j k (omega arith)
            (λ l.
            let i = inside j l in
            s.other (D + place D j) (λ q. omega arith) (λ q. apart j l (omega arith)) (λ q. omega arith) ∙ t.second j l)
            (λ q. ap (λ (i : ℕ). get_or c (D + i) 0) (ap (place D) q ∙ sym e) ∙ s.second ∙ ap (λ (i : ℕ). get_or bits (D + i) 0) (sym q));
        third = λ j m.
            last_or j k (omega arith)
            (λ l.
            let i = inside j l in
            s.other (D + D + place D j) (λ q. omega arith) (λ q. omega arith) (λ q. apart j l (omega arith)) ∙ t.third j l)
            (λ q. ap (λ (i : ℕ). get_or c (D + D + i) 0) (ap (place D) q ∙ sym e) ∙ s.third ∙ ap (λ (i : ℕ). get_or bits (D + D + i) 0) (sym q));
        above = λ i m. s.other i (λ q. omega arith) (λ q. omega arith) (λ q. omega arith) ∙ t.above i m;
      }

  pub scattered_on : {j p n : ℕ} (bits a b c : List ℕ) → Column D j p n → p < D → Scattered D bits n a b
      → Three D p (get_or bits n 0) (get_or bits (D + n) 0) (get_or bits (D + D + n) 0) b c → Scattered D bits (n + 1) a c
  scattered_on {p = p} {n} bits a b c k l t s = let at = column-at k l in scattered_turn n p bits a b c at.0 at.1 t s

  pub scattered_whole : (k : ℕ) (bits a b : List ℕ) → k ≡ D → Scattered D bits k a b → Scattered D bits D a b
  scattered_whole k bits a b e s = rw e at s

  -- every bit stands at its place
  pub scattered_at : (bits a b : List ℕ) → Scattered D bits D a b → (k : ℕ) → k < D + D + D → get_or b (spot D k) 0 ≡ get_or bits k 0
  scattered_at bits a b s =
      each_of_three D (λ k. get_or b (spot D k) 0 ≡ get_or bits k 0)
      (λ j h. ap (λ (i : ℕ). get_or b i 0) (spot-first D some most j h) ∙ s.first j h)
      (λ j h. ap (λ (i : ℕ). get_or b i 0) (spot-second D some most j h) ∙ s.second j h)
      (λ j h. ap (λ (i : ℕ). get_or b i 0) (spot-third D some most j h) ∙ s.third j h)
