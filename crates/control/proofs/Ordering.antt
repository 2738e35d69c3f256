-- The order in which three streams are sent takes every place once: 3D places, each below 3D, no two the same.
use mathlib.Core.Path.{◌≡◌, refl, sym, ap, ◌∙◌}
use mathlib.Core.Bool.{Bool, true, cond}
use mathlib.Core.List.{List, [], ◌∷◌, ◌++◌, append-nil}
use Prim.Native.Nat.{ℕ, zero, suc, ◌+◌, ◌-◌, ◌*◌, ◌/◌, ◌%◌, ◌≤◌, ◌<◌}
use native.Mathlib.Nat.{mul_comm, mod-lt, div-lt_iff_lt-mul, div-add-mod, div-add-mod'}
use native.Mathlib.Omega.{arith}
use borrow.Author.Tests.{ltb-true, eqb-true, lt-ltb, le-ltb}
use lib.Arith.{digits_lt, digits_div, digits_mod}
use lib.Dec.{eqb, ltb}
use lib.ListN.{length, get_or, length-append, get_or-append}
use lib.Seq.{get_or-append_seam}
use Rattle.bits.specs.Counts.{ceil}
use Rattle.bits.specs.Ranges.{sum_below, all_below, any_below, first_below}
use Rattle.bits.proofs.Ranges.{last_or, below_or, all-at, first_some}
use Rattle.control.specs.Interleaver.{rows, dummies, columns, matrix_place}
use Rattle.control.specs.Steps.Order.{order_to, order, place, spot}

-- ---- rows, dummies, columns

pub record Rows (D : ℕ) : Type 0 where
  pub some : 0 < rows D
  pub most : rows D ≤ 4
  pub all : dummies D + D ≡ rows D * 32
  pub less : dummies D < 32

pub rows_of : (D : ℕ) → 0 < D → D ≤ 128 → Rows D
unfolding rows dummies ceil
rows_of D h l = record { some = omega arith; most = omega arith; all = omega arith; less = omega arith }

column-low : ℕ → Bool
column-low j = ltb (get_or columns j 0) 32

column_is : ℕ → ℕ → Bool
column_is c j = eqb (get_or columns j 0) c

low-test : all_below 32 column-low ≡ true
unfolding column-low columns all_below
low-test = refl

has-test : all_below 32 (λ c. any_below 32 (column_is c)) ≡ true
unfolding column_is columns all_below any_below
has-test = refl

-- each is found where it stands, so that none stands twice
first-test : all_below 32 (λ j. eqb (first_below 32 (column_is (get_or columns j 0))) j) ≡ true
unfolding column_is columns all_below any_below first_below
first-test = refl

pub column_lt : (j : ℕ) → j < 32 → get_or columns j 0 < 32
unfolding column-low
column_lt j h = ltb-true (get_or columns j 0) 32 (all-at 32 column-low low-test j h)

column_once : (i j : ℕ) → i < 32 → j < 32 → get_or columns i 0 ≡ get_or columns j 0 → i ≡ j
column_once i j h l e =
    let found : (k : ℕ) → k < 32 → first_below 32 (column_is (get_or columns k 0)) ≡ k = λ k m. eqb-true _ _ (all-at 32 (λ j. eqb (first_below 32 (column_is (get_or columns j 0))) j) first-test k m) in
    sym (found i h) ∙ ap (λ (c : ℕ). first_below 32 (column_is c)) e ∙ found j l

-- ---- every place of the matrix is read, and once

quotient_lt : (R k : ℕ) → 0 < R → k < R * 32 → k / R < 32
quotient_lt R k h l = (div-lt_iff_lt-mul h).1 (omega (arith, mul_comm R 32))

read_lt : (R k : ℕ) → 0 < R → k < R * 32 → matrix_place R k < R * 32
unfolding matrix_place
read_lt R k h l = omega (arith, mod-lt k h, column_lt (k / R) (quotient_lt R k h l))

-- the i-th place of the j-th column
pub read_at : (R i j : ℕ) → i < R → matrix_place R (j * R + i) ≡ i * 32 + get_or columns j 0
unfolding matrix_place
read_at R i j h =
    let over : (j * R + i) / R ≡ j = digits_div j h in
    let rest : (j * R + i) % R ≡ i = digits_mod j h in
    rw (rest, over)

record Read (R n : ℕ) : Type 0 where
  pub at : ℕ
  pub inside : at < R * 32
  pub is : matrix_place R at ≡ n

read_of : (R n : ℕ) → n < R * 32 → Read R n
unfolding column_is
read_of R n l =
    let row : n / 32 < R = omega arith in
    let f = first_some 32 (column_is (n % 32)) (all-at 32 (λ c. any_below 32 (column_is c)) has-test (n % 32) (omega arith)) in
    let j = first_below 32 (column_is (n % 32)) in
    let col : get_or columns j 0 ≡ n % 32 = eqb-true (get_or columns j 0) (n % 32) f.holds in
    record {
      at = j * R + n / 32;
      inside = omega (arith, digits_lt f.below row, mul_comm R 32);
      is = read_at R (n / 32) j row ∙ omega (arith, col);
    }

-- a number by its quotient and its rest
same_parts : (R k l : ℕ) → k / R ≡ l / R → k % R ≡ l % R → k ≡ l
same_parts R k l q r = sym (div-add-mod k R) ∙ rw (q, r) (div-add-mod l R)

read_once : (R k l : ℕ) → 0 < R → k < R * 32 → l < R * 32 → matrix_place R k ≡ matrix_place R l → k ≡ l
unfolding matrix_place
read_once R k l some hk hl e =
    let ck = column_lt (k / R) (quotient_lt R k some hk) in
    let cl = column_lt (l / R) (quotient_lt R l some hl) in
    let row : k % R ≡ l % R = omega arith in
    let col : get_or columns (k / R) 0 ≡ get_or columns (l / R) 0 = omega arith in
    same_parts R k l (column_once (k / R) (l / R) (quotient_lt R k some hk) (quotient_lt R l some hl) col) row

-- ---- one place more

module _ (D : ℕ) where
  pub order_skip : (k : ℕ) → matrix_place (rows D) k < dummies D → order_to D (suc k) ≡ order_to D k
  unfolding order_to
  order_skip k h = rw (lt-ltb _ _ h) (append-nil (order_to D k))

  pub order_put : (k : ℕ) → dummies D ≤ matrix_place (rows D) k
      → order_to D (suc k) ≡ order_to D k ++ ((matrix_place (rows D) k - dummies D) ∷ [])
  unfolding order_to
  order_put k h = rw (le-ltb _ _ h)

  -- ---- how many they are

  counts : ℕ → ℕ
  counts k = cond (ltb (matrix_place (rows D) k) (dummies D)) 0 1

  order-count : (k : ℕ) → length (order_to D k) ≡ sum_below k counts
  unfolding counts sum_below order_to
  order-count zero = refl
  order-count (suc k) =
      below_or (matrix_place (rows D) k) (dummies D)
      (λ l. ap length (order_skip k l) ∙ order-count k ∙ rw (lt-ltb _ _ l) (omega arith))
      (λ l. ap length (order_put k l) ∙ length-append (order_to D k) _ ∙ rw (le-ltb _ _ l) (omega (arith, order-count k)))

counted : ℕ → Bool
counted D = eqb (sum_below (rows D * 32) (counts D)) D

count-test : all_below 129 counted ≡ true
unfolding counted counts sum_below all_below columns rows ceil dummies matrix_place
count-test = refl

pub order-length : (D : ℕ) → D ≤ 128 → length (order D) ≡ D
unfolding order counted
order-length D h = order-count D (rows D * 32) ∙ eqb-true _ _ (all-at 129 counted count-test D (omega arith))

-- ---- each is a place of the stream, and stands there once

pub record Found (l : List ℕ) (i : ℕ) : Type 0 where
  pub at : ℕ
  pub inside : at < length l
  pub is : get_or l at 0 ≡ i

found_here : (l : List ℕ) (x : ℕ) → Found (l ++ (x ∷ [])) x
found_here l x = record { at = length l; inside = omega (arith, length-append l (x ∷ [])); is = get_or-append_seam l x [] 0 }

found_before : (l m : List ℕ) (i : ℕ) → Found l i → Found (l ++ m) i
found_before l m i f =
    record { at = f.at; inside = omega (arith, length-append l m, f.inside); is = get_or-append l m 0 f.at f.inside ∙ f.is }

-- an element of a list with one more is that one or one of the list
last_of : {A : Type 0} (l : List ℕ) (x j : ℕ) → j < length (l ++ (x ∷ [])) → (j < length l → get_or (l ++ (x ∷ [])) j 0 ≡ get_or l j 0 → A)
    → (j ≡ length l → get_or (l ++ (x ∷ [])) j 0 ≡ x → A) → A
last_of l x j h old new =
    last_or j (length l) (omega (arith, length-append l (x ∷ [])))
    (λ m. old m (get_or-append l (x ∷ []) 0 j m))
    (λ e. new e (ap (λ (i : ℕ). get_or (l ++ (x ∷ [])) i 0) e ∙ get_or-append_seam l x [] 0))

module _ (D : ℕ) (some : 0 < D) (most : D ≤ 128) where
  -- what is read later was not read before
  order-new : (k m : ℕ) → k ≤ m → m < rows D * 32 → dummies D ≤ matrix_place (rows D) m
      → (j : ℕ) → j < length (order_to D k) → get_or (order_to D k) j 0 ≡ matrix_place (rows D) m - dummies D → ⊥
  unfolding order_to
  order-new zero m h l d j n e = absurd (omega arith)
  order-new (suc k) m h l d j n e =
      let R = rows_of D some most in
      below_or (matrix_place (rows D) k) (dummies D)
      (λ o. order-new k m (omega arith) l d j (rw (order_skip D k o) at n) (rw (order_skip D k o) at e))
      (λ o.
      last_of (order_to D k) (matrix_place (rows D) k - dummies D) j (rw (order_put D k o) at n)
      (λ i q. order-new k m (omega arith) l d j i (sym q ∙ (rw (order_put D k o) at e)))
      (λ i q.
      let same : matrix_place (rows D) k - dummies D ≡ matrix_place (rows D) m - dummies D = sym q ∙ (rw (order_put D k o) at e) in
      let once : k ≡ m = read_once (rows D) k m R.some (omega arith) l (omega arith) in
      omega arith))

  order-once : (k : ℕ) → k ≤ rows D * 32 → (i j : ℕ) → i < length (order_to D k) → j < length (order_to D k)
      → get_or (order_to D k) i 0 ≡ get_or (order_to D k) j 0 → i ≡ j
  unfolding order_to
  order-once zero h i j hi hj e = absurd (omega arith)
  order-once (suc k) h i j hi hj e =
      let x = matrix_place (rows D) k - dummies D in
      below_or (matrix_place (rows D) k) (dummies D)
      (λ o. order-once k (omega arith) i j (rw (order_skip D k o) at hi) (rw (order_skip D k o) at hj) (rw (order_skip D k o) at e))
      (λ o.
      let same : get_or (order_to D k ++ (x ∷ [])) i 0 ≡ get_or (order_to D k ++ (x ∷ [])) j 0 = rw (order_put D k o) at e in
      let fresh = order-new k k (omega arith) (omega arith) o in
      last_of (order_to D k) x i (rw (order_put D k o) at hi)
      (λ oi qi. last_of (order_to D k) x j (rw (order_put D k o) at hj)
      (λ oj qj. order-once k (omega arith) i j oi oj (sym qi ∙ same ∙ qj))
      (λ oj qj. absurd (fresh i oi (sym qi ∙ same ∙ qj))))
      (λ oi qi. last_of (order_to D k) x j (rw (order_put D k o) at hj)
      (λ oj qj. absurd (fresh j oj (sym qj ∙ sym same ∙ qi)))
      (λ oj qj. oi ∙ sym oj)))

  order_lt : (k : ℕ) → k ≤ rows D * 32 → (j : ℕ) → j < length (order_to D k) → get_or (order_to D k) j 0 < D
  unfolding order_to
  order_lt zero h j n = absurd (omega arith)
  order_lt (suc k) h j n =
      let R = rows_of D some most in
      let new : matrix_place (rows D) k < rows D * 32 = read_lt (rows D) k R.some (omega arith) in
      below_or (matrix_place (rows D) k) (dummies D)
      (λ o. rw (order_skip D k o) (order_lt k (omega arith) j (rw (order_skip D k o) at n)))
      (λ o. rw (order_put D k o) (last_of (order_to D k) (matrix_place (rows D) k - dummies D) j (rw (order_put D k o) at n)
      (λ i q. rw q (order_lt k (omega arith) j i))
      (λ i q. rw q (omega (arith, R.all)))))

  pub place_lt : (j : ℕ) → j < D → place D j < D
  unfolding place order
  place_lt j h = order_lt (rows D * 32) (omega arith) j (omega (arith, order-length D most))

  pub place_once : (i j : ℕ) → i < D → j < D → place D i ≡ place D j → i ≡ j
  unfolding place order
  place_once i j hi hj e = order-once (rows D * 32) (omega arith) i j (omega (arith, order-length D most)) (omega (arith, order-length D most)) e

-- ---- and every place of the stream is among them

found_to : (D n i : ℕ) → (k : ℕ) → k < n → matrix_place (rows D) k ≡ dummies D + i → Found (order_to D n) i
found_to D zero i k h e = absurd (omega arith)
found_to D (suc n) i k h e =
    last_or k n h
    (λ l. below_or (matrix_place (rows D) n) (dummies D)
    (λ m. rw (order_skip D n m) (found_to D n i k l e))
    (λ m. rw (order_put D n m) (found_before (order_to D n) _ i (found_to D n i k l e))))
    (λ q.
    let here : matrix_place (rows D) n ≡ dummies D + i = ap (matrix_place (rows D)) (sym q) ∙ e in
    let is : matrix_place (rows D) n - dummies D ≡ i = omega arith in
    rw (order_put D n (omega arith), is) (found_here (order_to D n) i))

place-of : (D : ℕ) → D ≤ 128 → (i : ℕ) → i < D → Found (order D) i
unfolding order
place-of D most i h =
    let R = rows_of D (omega arith) most in
    let r = read_of (rows D) (dummies D + i) (omega (arith, R.all)) in
    found_to D (rows D * 32) i r.at r.inside r.is

-- ---- three streams: each is sent in that order, one behind the other

-- the place i of three streams is sent at-th
pub record Sent (D i : ℕ) : Type 0 where
  pub at : ℕ
  pub inside : at < D + D + D
  pub is : spot D at ≡ i

module _ (D : ℕ) (some : 0 < D) (most : D ≤ 128) where
  stream-lt : (k : ℕ) → k < D + D + D → k / D < 3
  stream-lt k h = (div-lt_iff_lt-mul some).1 (omega arith)

  rest_lt : (k : ℕ) → place D (k % D) < D
  rest_lt k = place_lt D some most (k % D) (mod-lt k some)

  three_lt : (q p : ℕ) → q < 3 → p < D → q * D + p < D + D + D
  three_lt q p h l = omega (arith, digits_lt h l)

  pub spot_lt : (k : ℕ) → k < D + D + D → spot D k < D + D + D
  unfolding spot
  spot_lt k h = three_lt (k / D) (place D (k % D)) (stream-lt k h) (rest_lt k)

  -- the j-th of the stream q
  spot_in : (q j : ℕ) → j < D → spot D (q * D + j) ≡ q * D + place D j
  unfolding spot
  spot_in q j h = rw (digits_div q h, digits_mod q h)

  pub spot-first : (j : ℕ) → j < D → spot D j ≡ place D j
  spot-first j h = ap (spot D) (omega arith) ∙ spot_in 0 j h ∙ omega arith

  pub spot-second : (j : ℕ) → j < D → spot D (D + j) ≡ D + place D j
  spot-second j h = ap (spot D) (omega arith) ∙ spot_in 1 j h ∙ omega arith

  pub spot-third : (j : ℕ) → j < D → spot D (D + D + j) ≡ D + D + place D j
  spot-third j h = ap (spot D) (omega arith) ∙ spot_in 2 j h ∙ omega arith

  pub spot_once : (i j : ℕ) → spot D i ≡ spot D j → i ≡ j
  unfolding spot
  spot_once i j e =
      let q : i / D ≡ j / D = sym (digits_div (i / D) (rest_lt i)) ∙ ap (λ (x : ℕ). x / D) e ∙ digits_div (j / D) (rest_lt j) in
      let p : place D (i % D) ≡ place D (j % D) = sym (digits_mod (i / D) (rest_lt i)) ∙ ap (λ (x : ℕ). x % D) e ∙ digits_mod (j / D) (rest_lt j) in
      same_parts D i j q (place_once D some most (i % D) (j % D) (mod-lt i some) (mod-lt j some) p)

  pub spot_of : (i : ℕ) → i < D + D + D → Sent D i
  unfolding spot place
  spot_of i h =
      let f = place-of D most (i % D) (mod-lt i some) in
      let low : f.at < D = omega (arith, f.inside, order-length D most) in
      let over : (i / D * D + f.at) / D ≡ i / D = digits_div (i / D) low in
      let rest : (i / D * D + f.at) % D ≡ f.at = digits_mod (i / D) low in
      record {
        at = i / D * D + f.at;
        inside = three_lt (i / D) f.at (stream-lt i h) low;
        is = rw (over, rest, f.is) (div-add-mod' i D);
      }
