-- The kept places of the circular buffer are the bits of the three streams in the order of the interleaver.
use mathlib.Core.Path.{◌≡◌, refl, sym, ap, ap₂, ◌∙◌}
use mathlib.Core.List.{List, [], ◌∷◌, ◌++◌, append-nil, append_assoc}
use Prim.Native.Nat.{ℕ, zero, suc, ◌+◌, ◌-◌, ◌*◌, ◌%◌, ◌≤◌, ◌<◌}
use native.Mathlib.Nat.{add-zero}
use native.Mathlib.Omega.{arith}
use borrow.Author.Tests.{lt-ltb, le-ltb, ne_eqb}
use lib.ListN.{length, get_or, take, drop, get_or-eq_default}
use lib.Seq.{get_or-take, get_or-drop}
use Rattle.bits.specs.Bits.{AreBits}
use Rattle.bits.specs.Ranges.{list_below}
use Rattle.bits.proofs.Lists.{bits-take, bits-drop}
use Rattle.bits.proofs.Listed.{length_list, at_list, list_of}
use Rattle.bits.proofs.Ranges.{below_or}
use Rattle.matching.specs.Matching.{kept, matched, turned}
use Rattle.matching.specs.Steps.Places.{Filled}
use Rattle.matching.proofs.Kept.{kept_append, unmarked}
use Rattle.matching.proofs.Turned.{turned_zero}
use Rattle.control.specs.Interleaver.{rows, dummies, matrix_place, padded, interleaved, buffer, sent}
use Rattle.control.specs.Steps.Order.{order_to, order, place, spot, collected}
use Rattle.control.proofs.Ordering.{order_skip, order_put, order-length, place_lt, spot-first, spot-second, spot-third}

-- ---- lists from a rule

list_same : (n : ℕ) (f g : ℕ → ℕ) → ((k : ℕ) → k < n → f k ≡ g k) → list_below n f ≡ list_below n g
list_same n f g h = list_of n g (list_below n f) (length_list n f) (λ k l. at_list n f k l ∙ h k l)

list_more : (m n : ℕ) (f : ℕ → ℕ) → list_below (m + n) f ≡ list_below m f ++ list_below n (λ k. f (m + k))
unfolding list_below
list_more m zero f = ap (λ (k : ℕ). list_below k f) (add-zero m) ∙ sym (append-nil (list_below m f))
list_more m (suc n) f =
    let next : m + suc n ≡ suc (m + n) = omega arith in
    ap (λ (k : ℕ). list_below k f) next ∙ ap (λ (l : List ℕ). l ++ (f (m + n) ∷ [])) (list_more m n f)
    ∙ append_assoc (list_below m f) (list_below n (λ k. f (m + k))) (f (m + n) ∷ [])

pub list_bits : (n : ℕ) (f : ℕ → ℕ) → ((k : ℕ) → f k < 2) → AreBits (list_below n f)
list_bits n f h k =
    below_or k n (λ l. rw (at_list n f k l) (h k))
    (λ l. let past = get_or-eq_default (list_below n f) 0 {n = k} (omega (arith, length_list n f)) in omega (arith, past))

-- ---- one stream

-- the elements of d at the places of l
picks : List ℕ → List ℕ → List ℕ
picks d [] = []
picks d (i ∷ l) = get_or d i 0 ∷ picks d l

picks-append : (d a b : List ℕ) → picks d (a ++ b) ≡ picks d a ++ picks d b
unfolding picks
picks-append d [] b = refl
picks-append d (i ∷ a) b = ap (λ (l : List ℕ). get_or d i 0 ∷ l) (picks-append d a b)

picks-length : (d l : List ℕ) → length (picks d l) ≡ length l
unfolding picks
picks-length d [] = refl
picks-length d (i ∷ l) = ap suc (picks-length d l)

picks_at : (d l : List ℕ) (j : ℕ) → j < length l → get_or (picks d l) j 0 ≡ get_or d (get_or l j 0) 0
unfolding picks
picks_at d [] j h = absurd (omega arith)
picks_at d (i ∷ l) zero h = refl
picks_at d (i ∷ l) (suc j) h = picks_at d l j (omega arith)

module _ (D : ℕ) (d : List ℕ) (bits : AreBits d) where
  read : ℕ → ℕ
  read k = padded D d (matrix_place (rows D) k)

  skipped : (k : ℕ) → matrix_place (rows D) k < dummies D → kept (read k ∷ []) ≡ []
  unfolding read padded kept
  skipped k l = rw (lt-ltb _ _ l)

  own : (k : ℕ) → dummies D ≤ matrix_place (rows D) k → kept (read k ∷ []) ≡ get_or d (matrix_place (rows D) k - dummies D) 0 ∷ []
  unfolding read padded kept
  own k l =
      let x = get_or d (matrix_place (rows D) k - dummies D) 0 in
      let bit : x < 2 = bits (matrix_place (rows D) k - dummies D) in
      rw (le-ltb _ _ l, ne_eqb x 2 (λ e. omega arith))

  kept-to : (k : ℕ) → kept (list_below k read) ≡ picks d (order_to D k)
  unfolding list_below kept picks order_to
  kept-to zero = refl
  kept-to (suc k) =
      let before = picks d (order_to D k) in
      kept_append (list_below k read) (read k ∷ []) ∙ ap (λ (l : List ℕ). l ++ kept (read k ∷ [])) (kept-to k)
      ∙ below_or (matrix_place (rows D) k) (dummies D)
      (λ l. ap (λ (y : List ℕ). before ++ y) (skipped k l) ∙ append-nil before ∙ ap (picks d) (sym (order_skip D k l)))
      (λ l. ap (λ (y : List ℕ). before ++ y) (own k l)
      ∙ sym (picks-append d (order_to D k) ((matrix_place (rows D) k - dummies D) ∷ [])) ∙ ap (picks d) (sym (order_put D k l)))

  kept-stream : D ≤ 128 → kept (interleaved D d) ≡ list_below D (λ j. get_or d (place D j) 0)
  unfolding interleaved place order read
  kept-stream most =
      let size = order-length D most in
      kept-to (rows D * 32)
      ∙ list_of D _ (picks d (order D)) (picks-length d (order D) ∙ size) (λ j h. picks_at d (order D) j (omega arith))

-- ---- three streams

module _ (D : ℕ) (some : 0 < D) (most : D ≤ 128) (S : List ℕ) (single : AreBits S) where
  rule : ℕ → ℕ
  rule k = get_or S (spot D k) 0

  -- one of them
  part : (from : ℕ) → ((j : ℕ) → j < D → spot D (from + j) ≡ from + place D j) → kept (interleaved D (take D (drop from S))) ≡ list_below D (λ j. rule (from + j))
  unfolding rule
  part from at =
      kept-stream D (take D (drop from S)) (bits-take D (drop from S) (bits-drop from S single)) most
      ∙ list_same D _ _
      (λ j h. get_or-take D (drop from S) (place D j) 0 (place_lt D some most j h) ∙ get_or-drop from S (place D j) 0 ∙ ap (λ (i : ℕ). get_or S i 0) (sym (at j h)))

  pub kept_buffer : kept (buffer D S) ≡ collected D S
  unfolding buffer collected rule
  kept_buffer =
      let first : kept (interleaved D (take D S)) ≡ list_below D rule =
      part 0 (λ j h. ap (spot D) (omega arith) ∙ spot-first D some most j h ∙ omega arith) ∙ list_same D _ _ (λ j h. ap rule (omega arith)) in
      let two : list_below (D + D) rule ≡ list_below D rule ++ list_below D (λ j. rule (D + j)) = list_more D D rule in
      kept_append (interleaved D (take D S)) _
      ∙ ap₂ (λ (a b : List ℕ). a ++ b) first
      (kept_append (interleaved D (take D (drop D S))) _ ∙ ap₂ (λ (a b : List ℕ). a ++ b) (part D (spot-second D some most)) (part (D + D) (spot-third D some most)))
      ∙ sym (append_assoc (list_below D rule) (list_below D (λ j. rule (D + j))) (list_below D (λ j. rule (D + D + j))))
      ∙ ap (λ (l : List ℕ). l ++ list_below D (λ j. rule (D + D + j))) (sym two) ∙ sym (list_more (D + D) D rule)

  pub length-kept : length (kept (buffer D S)) ≡ D + D + D
  unfolding collected
  length-kept = ap length kept_buffer ∙ length_list (D + D + D) _

  pub collected-bits : AreBits (collected D S)
  unfolding collected
  collected-bits = list_bits (D + D + D) _ (λ k. single (spot D k))

  -- ---- matched from what is collected

  module _ (x : List ℕ) (is : x ≡ collected D S) where
    unmarked-all : (k : ℕ) → get_or x k 0 ≡ 2 → ⊥
    unmarked-all k e = let bit : get_or x k 0 < 2 = rw is (collected-bits k) in omega arith

    pub collected-filled : Filled x 0 0
    collected-filled =
        record {
          order = omega arith;
          within = omega arith;
          before = λ p l e. omega arith;
          marked = λ p l m. absurd (omega arith);
          after = λ p l m e. unmarked-all p e;
        }

    pub collected-sent : (e : ℕ) → matched (turned 0 x) e ≡ sent D S e
    unfolding sent matched
    collected-sent e =
        let whole : kept x ≡ kept (buffer D S) = unmarked x (λ k l. unmarked-all k) ∙ is ∙ sym kept_buffer in
        rw (turned_zero x) (list_same e _ _ (λ k h. ap (λ (l : List ℕ). get_or l (k % length l) 0) whole))
