-- A list from a rule: its length, what it holds, and when a list is one.
use mathlib.Core.Path.{◌≡◌, refl, sym, ap, ap₂, ◌∙◌}
use mathlib.Core.List.{List, [], ◌∷◌, ◌++◌}
use Prim.Native.Nat.{ℕ, zero, suc, ◌-◌, ◌+◌, ◌≤◌, ◌<◌}
use native.Mathlib.Omega.{arith}
use lib.ListN.{length, get_or, take, drop, length-append, length-drop, take-append-drop, get_or-append}
use lib.Seq.{get_or-append_seam, get_or-drop, get_or-take, length-take-le, ext_get_or}
use Rattle.bits.specs.Ranges.{list_below}
use Rattle.bits.proofs.Ranges.{last_or}

pub length_list : (n : ℕ) (f : ℕ → ℕ) → length (list_below n f) ≡ n
unfolding list_below
length_list zero f = refl
length_list (suc n) f = length-append (list_below n f) (f n ∷ []) ∙ omega (arith, length_list n f)

pub at_list : (n : ℕ) (f : ℕ → ℕ) (k : ℕ) → k < n → get_or (list_below n f) k 0 ≡ f k
unfolding list_below
at_list zero f k h = absurd (omega arith)
at_list (suc n) f k h =
    let l = length_list n f in
    last_or k n h
    (λ m. get_or-append (list_below n f) (f n ∷ []) 0 k (omega (arith, l)) ∙ at_list n f k m)
    (λ e. ap (λ (j : ℕ). get_or (list_below n f ++ f n ∷ []) j 0) (e ∙ sym l) ∙ get_or-append_seam (list_below n f) (f n) [] 0 ∙ ap f (sym e))

pub list_of : (n : ℕ) (f : ℕ → ℕ) (l : List ℕ) → length l ≡ n → ((k : ℕ) → k < n → get_or l k 0 ≡ f k) → l ≡ list_below n f
list_of n f l e h =
    ext_get_or 0 l (list_below n f) (e ∙ sym (length_list n f)) (λ k m. h k (omega arith) ∙ sym (at_list n f k (omega arith)))

-- b holds the rule's n places in front, and is a behind them
pub written : (n : ℕ) (f : ℕ → ℕ) (a b : List ℕ) → n ≤ length a → length b ≡ length a
    → ((k : ℕ) → k < n → get_or b k 0 ≡ f k) → ((p : ℕ) → n ≤ p → get_or b p 0 ≡ get_or a p 0) → b ≡ list_below n f ++ drop n a
written n f a b h e front behind =
    let first : take n b ≡ list_below n f =
    list_of n f (take n b) (length-take-le n b (omega arith)) (λ k m. get_or-take n b k 0 m ∙ front k m) in
    let rest : drop n b ≡ drop n a =
    ext_get_or 0 (drop n b) (drop n a) (length-drop n b ∙ ap (λ (l : ℕ). l - n) e ∙ sym (length-drop n a))
    (λ k m. get_or-drop n b k 0 ∙ behind (n + k) (omega arith) ∙ sym (get_or-drop n a k 0)) in
    sym (take-append-drop n b) ∙ ap₂ (λ (x y : List ℕ). x ++ y) first rest
