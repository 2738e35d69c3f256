-- A stretch and the word that it is sent for: place by place, and its copies.
use mathlib.Core.Path.{◌≡◌, refl, sym, ap, ap₂, ◌∙◌}
use mathlib.Core.Bool.{Bool, true, ◌&&◌}
use mathlib.Core.List.{List}
use Prim.Native.Nat.{ℕ, zero, suc, ◌+◌, ◌-◌, ◌%◌, ◌≤◌, ◌<◌}
use native.Mathlib.Nat.{mod-eq_of_lt, mod-eq-sub-mod, mod-lt}
use native.Mathlib.Omega.{arith}
use lib.Dec.{eqb}
use lib.ListN.{length, get_or, take}
use lib.Seq.{ext_get_or, get_or-take, length-take-le}
use borrow.Author.Tests.{eqb-true, eq-eqb}
use Rattle.bits.specs.Bits.{AreBits, with_filler}
use Rattle.bits.specs.Ranges.{all_below}
use Rattle.bits.proofs.Filler.{filled-own, filled_mark}
use Rattle.bits.proofs.Listed.{at_list, list_of}
use Rattle.bits.proofs.Ranges.{below_or, all-at, all_of}
use Rattle.matching.specs.Matching.{kept, matched}
use Rattle.matching.specs.Steps.Places.{Filled}
use Rattle.matching.specs.Steps.Copies.{copies_agree}
use Rattle.matching.proofs.Runs.{kept-length, kept-first, kept_second}

-- ---- the test of the copies
pub copies_of : (n : ℕ) (s : List ℕ) → ((k : ℕ) → n + k < length s → get_or s (n + k) 0 ≡ get_or s k 0) → copies_agree n s ≡ true
unfolding copies_agree
copies_of n s h = all_of (length s - n) (λ k. eqb (get_or s (n + k) 0) (get_or s k 0)) (λ k l. eq-eqb _ _ (h k (omega arith)))

pub copies_at : (n : ℕ) (s : List ℕ) → copies_agree n s ≡ true → (k : ℕ) → n + k < length s → get_or s (n + k) 0 ≡ get_or s k 0
unfolding copies_agree
copies_at n s e k l = eqb-true _ _ (all-at (length s - n) (λ k. eqb (get_or s (n + k) 0) (get_or s k 0)) e k (omega arith))

-- ---- s is what a block v is sent as exactly where its first n octets are the kept places and the others are copies

module _ (v s : List ℕ) (n : ℕ) (size : length (kept v) ≡ n) (some : 0 < n) (long : n ≤ length s) where
  rule : ℕ → ℕ
  rule k = get_or (kept v) (k % length (kept v)) 0

  pub sent-at : matched v (length s) ≡ s → (k : ℕ) → k < length s → get_or s k 0 ≡ get_or (kept v) (k % n) 0
  unfolding matched rule
  sent-at e k l =
      ap (λ (x : List ℕ). get_or x k 0) (sym e) ∙ at_list (length s) rule k l ∙ ap (λ (j : ℕ). get_or (kept v) (k % j) 0) size

  pub sent_front : matched v (length s) ≡ s → take n s ≡ kept v
  sent_front e =
      let l : length (take n s) ≡ n = length-take-le n s long in
      ext_get_or 0 (take n s) (kept v) (l ∙ sym size)
      (λ k h.
      let low : k < n = omega arith in
      get_or-take n s k 0 low ∙ sent-at e k (omega arith) ∙ ap (λ (j : ℕ). get_or (kept v) j 0) (mod-eq_of_lt low))

  pub sent_copies : matched v (length s) ≡ s → copies_agree n s ≡ true
  sent_copies e =
      copies_of n s
      (λ k l.
      let less : n ≤ n + k = omega arith in
      let at : n + k - n ≡ k = omega arith in
      sent-at e (n + k) l ∙ ap (λ (j : ℕ). get_or (kept v) j 0) (mod-eq-sub-mod less ∙ ap (λ (j : ℕ). j % n) at) ∙ sym (sent-at e k (omega arith)))

  -- the first n places of s round again
  round : copies_agree n s ≡ true → (d k : ℕ) → k < d → k < length s → get_or s k 0 ≡ get_or s (k % n) 0
  round h zero k l m = absurd (omega arith)
  round h (suc d) k l m =
      below_or k n
      (λ under. ap (λ (j : ℕ). get_or s j 0) (sym (mod-eq_of_lt under)))
      (λ over.
      let at : n + (k - n) ≡ k = omega arith in
      ap (λ (j : ℕ). get_or s j 0) (sym at) ∙ copies_at n s h (k - n) (omega arith) ∙ round h d (k - n) (omega arith) (omega arith)
      ∙ ap (λ (j : ℕ). get_or s j 0) (sym (mod-eq-sub-mod over)))

  pub copies_sent : copies_agree n s ≡ true → take n s ≡ kept v → matched v (length s) ≡ s
  unfolding matched rule
  copies_sent h e =
      sym (list_of (length s) rule s refl
      (λ k l.
      let low : k % n < n = mod-lt k some in
      round h (suc k) k (omega arith) l ∙ sym (get_or-take n s (k % n) 0 low) ∙ ap (λ (x : List ℕ). get_or x (k % n) 0) e
      ∙ ap (λ (j : ℕ). get_or (kept v) (k % j) 0) (sym size)))

-- ---- a word with own bits and filler in front, and bits behind them

module _ (mine : List ℕ) (places : ℕ) (single : AreBits mine) (size : length mine ≤ places) (w : List ℕ) (long : places ≤ length w)
    (front : (p : ℕ) → p < places → get_or w p 0 ≡ get_or (with_filler places mine) p 0) (bits : (p : ℕ) → places ≤ p → get_or w p 0 < 2) where
  pub word-own : (p : ℕ) → p < length mine → get_or w p 0 ≡ get_or mine p 0
  word-own p h = front p (omega arith) ∙ filled-own places mine p h

  -- its filler lies between them
  pub word-filled : Filled w (length mine) places
  word-filled =
      record {
        order = size;
        within = long;
        before = λ p h e. omega (arith, word-own p h, single p);
        marked = λ p h k. front p k ∙ filled_mark places mine p h k;
        after = λ p h k e. omega (arith, bits p h);
      }

-- ---- what a word is sent as, place by place

-- s holds the word's own bits, then its parity bits, and then what stands n places before
pub record Holds (w : List ℕ) (own places n : ℕ) (s : List ℕ) : Type 0 where
  pub first : (k : ℕ) → k < own → get_or w k 0 ≡ get_or s k 0
  pub second : (k : ℕ) → own + k < n → get_or w (places + k) 0 ≡ get_or s (own + k) 0
  pub again : (k : ℕ) → n + k < length s → get_or s (n + k) 0 ≡ get_or s k 0

module _ (w : List ℕ) (own places n : ℕ) (F : Filled w own places) (is : own + (length w - places) ≡ n) (some : 0 < n) (s : List ℕ) (long : n ≤ length s) where
  kept-size : length (kept w) ≡ n
  kept-size = kept-length w own places F ∙ is

  kept-held : Holds w own places n s → (k : ℕ) → k < n → get_or (kept w) k 0 ≡ get_or s k 0
  kept-held h k l =
      below_or k own
      (λ under. kept-first w own places F k under ∙ h.first k under)
      (λ over.
      let at : own + (k - own) ≡ k = omega arith in
      ap (λ (j : ℕ). get_or (kept w) j 0) (sym at) ∙ kept_second w own places F (k - own) ∙ h.second (k - own) (omega arith) ∙ ap (λ (j : ℕ). get_or s j 0) at)

  pub held-sent : Holds w own places n s → matched w (length s) ≡ s
  held-sent h =
      let l : length (take n s) ≡ n = length-take-le n s long in
      copies_sent w s n kept-size some long (copies_of n s h.again)
      (ext_get_or 0 (take n s) (kept w) (l ∙ sym kept-size) (λ k q. get_or-take n s k 0 (omega arith) ∙ sym (kept-held h k (omega arith))))

  sent-low : matched w (length s) ≡ s → (k : ℕ) → k < n → get_or (kept w) k 0 ≡ get_or s k 0
  sent-low e k l = ap (λ (x : List ℕ). get_or x k 0) (sym (sent_front w s n kept-size some long e)) ∙ get_or-take n s k 0 l

  pub sent-held : matched w (length s) ≡ s → Holds w own places n s
  sent-held e =
      record {
        first = λ k l. sym (kept-first w own places F k l) ∙ sent-low e k (omega arith);
        second = λ k l. sym (kept_second w own places F k) ∙ sent-low e (own + k) l;
        again = copies_at n s (sent_copies w s n kept-size some long e);
      }

-- ---- a loop that makes the test of the copies: its start, one turn, and its end
pub copies_none : (n : ℕ) (s : List ℕ) → true ≡ all_below (n - n) (λ j. eqb (get_or s (n + j) 0) (get_or s j 0))
unfolding all_below
copies_none n s = let none : n - n ≡ 0 = omega arith in rw none

pub copies_turn : (n k : ℕ) (s : List ℕ) (agree : Bool) → n ≤ k → agree ≡ all_below (k - n) (λ j. eqb (get_or s (n + j) 0) (get_or s j 0))
    → agree && eqb (get_or s k 0) (get_or s (k - n) 0) ≡ all_below (k + 1 - n) (λ j. eqb (get_or s (n + j) 0) (get_or s j 0))
unfolding all_below
copies_turn n k s agree h e =
    let p : ℕ → Bool = λ j. eqb (get_or s (n + j) 0) (get_or s j 0) in
    let at : n + (k - n) ≡ k = omega arith in
    let next : suc (k - n) ≡ k + 1 - n = omega arith in
    ap₂ (λ (a b : Bool). a && b) e (ap (λ (i : ℕ). eqb (get_or s i 0) (get_or s (k - n) 0)) (sym at))
    ∙ ap (λ (i : ℕ). all_below i p) next

pub copies_all : (n k : ℕ) (s : List ℕ) (agree : Bool) → k ≡ length s → agree ≡ all_below (k - n) (λ j. eqb (get_or s (n + j) 0) (get_or s j 0)) → agree ≡ copies_agree n s
unfolding copies_agree
copies_all n k s agree h e = e ∙ ap (λ (i : ℕ). all_below (i - n) (λ j. eqb (get_or s (n + j) 0) (get_or s j 0))) h
