-- Blocks' bits one behind the other, and what the output holds after a part of it was lent and came back.
use mathlib.Core.Path.{◌≡◌, refl, sym, ap, ap₂, ◌∙◌}
use mathlib.Core.List.{List, [], ◌++◌, append_assoc, append-nil}
use Prim.Native.Nat.{ℕ, zero, suc, ◌+◌, ◌-◌, ◌<◌}
use native.Mathlib.Numerals.{add-one}
use native.Mathlib.Omega.{arith}
use lib.ListN.{length, take, drop, length-append, length-drop, drop_of_length-le}
use lib.Dec.{lit<}
use lib.Seq.{take_all, take_at, take-add, take-append_seam, drop_at, drop-append_seam, drop-drop}
use Rattle.bits.specs.Bits.{AreBits}
use Rattle.bits.specs.Ranges.{sum_below}
use Rattle.bits.proofs.Lists.{bits-append}
use Rattle.bits.proofs.Ranges.{last_or}
use Rattle.coding.specs.Joining.{joined}

-- ---- a part from a place to the end

-- the part is the rest of the list, and nothing stands behind it
pub part_rest : (at : ℕ) (xs : List ℕ) → take (length xs - at) (drop at xs) ≡ drop at xs
part_rest at xs = take_all (length xs - at) (drop at xs) (simp length-drop (omega arith))

part_end : (at : ℕ) (xs : List ℕ) → drop (length xs - at) (drop at xs) ≡ []
part_end at xs = drop_of_length-le (drop at xs) {i = length xs - at} (simp length-drop (omega arith))

-- the part came back with `new` in front; the whole was p and then old from `at` on
pub part_back : (at n : ℕ) (p old xs ys new : List ℕ) → xs ≡ p ++ drop at old → length p ≡ at
    → ys ≡ new ++ drop n (take (length xs - at) (drop at xs))
    → take at xs ++ (ys ++ drop (length xs - at) (drop at xs)) ≡ (p ++ new) ++ drop (at + n) old
part_back at n p old xs ys new e l y =
    let front : take at xs ≡ p = ap (take at) e ∙ take_at p (drop at old) at l in
    let rest : drop at xs ≡ drop at old = ap (drop at) e ∙ drop_at p (drop at old) at l in
    rw (part_end, front, append-nil) (rw y (rw (part_rest, rest, drop-drop) (sym (append_assoc p new _))))

-- ---- blocks one behind the other

module _ (f : ℕ → List ℕ) where
  pub length-joined : (n : ℕ) → length (joined n f) ≡ sum_below n (λ r. length (f r))
  unfolding joined sum_below
  length-joined zero = refl
  length-joined (suc n) = length-append (joined n f) (f n) ∙ omega (arith, length-joined n)

  -- r blocks stand in front of the output, up to `at`, and old behind them
  pub record Joined (old : List ℕ) (r at : ℕ) (out : List ℕ) : Type 0 where
    pub is : out ≡ joined r f ++ drop at old
    pub size : length (joined r f) ≡ at
    pub same : length out ≡ length old

  pub joined-none : (old : List ℕ) → Joined old 0 0 old
  unfolding joined
  joined-none old = record { is = refl; size = refl; same = refl }

  -- block r was written into the part that starts at `at`
  pub joined_more : (old out part : List ℕ) (r at n to : ℕ) → to ≡ at + n → Joined old r at out → length (f r) ≡ n
      → part ≡ f r ++ drop n (take (length out - at) (drop at out))
      → length (take at out ++ (part ++ drop (length out - at) (drop at out))) ≡ length out
      → Joined old (r + 1) to (take at out ++ (part ++ drop (length out - at) (drop at out)))
  unfolding joined
  joined_more old out part r at n to end j l y same =
      record {
        is = rw (end, add-one r) (part_back at n (joined r f) old out part (f r) j.is j.size y);
        size = rw (end, add-one r) (length-append (joined r f) (f r) ∙ ap₂ (λ (a b : ℕ). a + b) j.size l);
        same = same ∙ j.same;
      }

  -- block r stands where those before it end, whatever is behind
  joined-part : (n r : ℕ) (rest : List ℕ) → r < n → take (length (f r)) (drop (length (joined r f)) (joined n f ++ rest)) ≡ f r
  unfolding joined
  joined-part zero r rest h = absurd (omega arith)
  joined-part (suc n) r rest h =
      rw (append_assoc (joined n f) (f n) rest)
      (last_or r n h
      (λ l. joined-part n r (f n ++ rest) l)
      (λ e. rw e (ap (take (length (f n))) (drop-append_seam (joined n f) (f n ++ rest)) ∙ take-append_seam (f n) rest)))

  pub joined-stretch : (n r : ℕ) → r < n → take (length (f r)) (drop (length (joined r f)) (joined n f)) ≡ f r
  joined-stretch n r h = rw append-nil at (joined-part n r [] h)

  pub joined_same : (h : ℕ → List ℕ) (n : ℕ) → ((r : ℕ) → r < n → f r ≡ h r) → joined n f ≡ joined n h
  unfolding joined
  joined_same h zero e = refl
  joined_same h (suc n) e = ap₂ (λ (x y : List ℕ). x ++ y) (joined_same h n (λ r l. e r (omega arith))) (e n (omega arith))

  pub joined-bits : (n : ℕ) → ((r : ℕ) → r < n → AreBits (f r)) → AreBits (joined n f)
  unfolding joined
  joined-bits zero h k = lit< tt
  joined-bits (suc n) h k = bits-append (joined n f) (f n) (joined-bits n (λ r l. h r (omega arith))) (h n (omega arith)) k

-- a list cut into parts of so many elements, in order, and joined again
pub joined-cut : (size : ℕ → ℕ) (s : List ℕ) (n : ℕ) → joined n (λ r. take (size r) (drop (sum_below r size) s)) ≡ take (sum_below n size) s
unfolding joined sum_below
joined-cut size s zero = refl
joined-cut size s (suc n) =
    ap (λ (l : List ℕ). l ++ take (size n) (drop (sum_below n size) s)) (joined-cut size s n) ∙ sym (take-add (sum_below n size) (size n) s)
