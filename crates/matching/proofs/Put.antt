-- Octets put one part after the other, as far as there is room, and then repeated.
use mathlib.Core.Path.{◌≡◌, refl, sym, ap, ◌∙◌, subst}
use mathlib.Core.Bool.{false, ◌&&◌}
use mathlib.Core.List.{List, [], ◌∷◌, ◌++◌}
use Prim.Native.Nat.{ℕ, zero, suc, ◌+◌, ◌-◌, ◌%◌, ◌≤◌, ◌<◌}
use native.Mathlib.Nat.{zero-add, add-zero, mod-eq_of_lt, mod-lt}
use native.Mathlib.Numerals.{add-one}
use native.Mathlib.Omega.{arith}
use lib.ListN.{length, get_or, take, drop, set, length-append, length-drop, length-set, get_or-append}
use lib.Seq.{get_or-append-add, get_or-set_same, get_or-set_other, take-suc, take_all}
use lib.Dec.{eqb, ltb}
use borrow.Author.Tests.{eq-eqb, ne_eqb, eqb-false, lt-ltb}
use Rattle.bits.proofs.Listed.{written}
use Rattle.bits.proofs.Ranges.{below_or, equal_or, neither}
use Rattle.matching.specs.Matching.{kept, matched, turned}
use Rattle.matching.specs.Promises.{unmatchable}
use Rattle.matching.specs.Steps.Places.{Repeated, Filled, least, Put}
use Rattle.matching.proofs.Kept.{kept_append}
use Rattle.matching.proofs.Runs.{kept-length}
use Rattle.matching.proofs.Turned.{turned-length, kept-turned, kept_runs}

-- ---- nothing; nothing for want of room; one part more

pub put_none : (a : List ℕ) (at e : ℕ) → at ≤ e → Put [] a at e at a
put_none a at e h =
    record {
      len = refl;
      low = omega arith;
      most = h;
      count = omega arith;
      full = λ l. omega arith;
      inside = λ k l. absurd (omega arith);
      below = λ p l. refl;
      above = λ p l. refl;
    }

pub put_full : (part a : List ℕ) (at e : ℕ) → at ≡ e → Put part a at e at a
put_full part a at e h =
    record {
      len = refl;
      low = omega arith;
      most = omega arith;
      count = omega arith;
      full = λ l. absurd (omega arith);
      inside = λ k l. absurd (omega arith);
      below = λ p l. refl;
      above = λ p l. refl;
    }

pub put_more : {p a b : List ℕ} {at e k : ℕ} (q : List ℕ) {r : ℕ} {c : List ℕ} → Put p a at e k b → Put q b k e r c → Put (p ++ q) a at e r c
put_more {p} {a} {b} {at} {e} {k} q {r} {c} g d =
    let size : length (p ++ q) ≡ length p + length q = length-append p q in
    let low : k ≤ r = d.low in
    let first : at ≤ k = g.low in
    let count : r ≤ k + length q = d.count in
    let most : r ≤ e = d.most in
    let whole : k ≤ at + length p = g.count in
    record {
      len = d.len ∙ g.len;
      low = omega arith;
      most = most;
      count = omega arith;
      full = λ h. omega (arith, d.full h, g.full (omega arith));
      inside = λ j h.
          below_or (at + j) k
          (λ o. d.below (at + j) o ∙ g.inside j o ∙ sym (get_or-append p q 0 j (omega arith)))
          (λ o.
          let all : k ≡ at + length p = g.full (omega arith) in
          let i : ℕ = j - length p in
          let there : k + i ≡ at + j = omega arith in
          let here : length p + i ≡ j = omega arith in
          ap (λ (x : ℕ). get_or c x 0) (sym there) ∙ d.inside i (omega arith)
          ∙ sym (get_or-append-add p q i 0) ∙ ap (λ (x : ℕ). get_or (p ++ q) x 0) here);
      below = λ j h. d.below j (omega arith) ∙ g.below j h;
      above = λ j h. d.above j h ∙ g.above j (omega arith);
    }

pub put_is : {p q a b : List ℕ} {at e k : ℕ} → p ≡ q → Put p a at e k b → Put q a at e k b
put_is {a = a} {b} {at} {e} {k} h g = subst (λ (x : List ℕ). Put x a at e k b) h g

-- ---- one octet, where it is kept and there is room

module _ (x : ℕ) (a : List ℕ) (at e : ℕ) where
  pub kept-marked : x ≡ 2 → at ≤ e → Put (kept (x ∷ [])) a at e at a
  unfolding kept
  kept-marked m h = rw (eq-eqb x 2 m) (put_none a at e h)

  pub kept_put : (x ≡ 2 → ⊥) → at < e → e ≤ length a → Put (kept (x ∷ [])) a at e (at + 1) (set a at x)
  unfolding kept
  kept_put n h l =
      rw (ne_eqb x 2 n)
      (record {
        len = length-set a at x;
        low = omega arith;
        most = omega arith;
        count = omega arith;
        full = λ o. refl;
        inside = λ k o. first k (omega arith);
        below = λ p o. get_or-set_other a at p x 0 (λ q. omega arith);
        above = λ p o. get_or-set_other a at p x 0 (λ q. omega arith);
      })
    where
      first : (k : ℕ) → k < 1 → get_or (set a at x) (at + k) 0 ≡ get_or (x ∷ []) k 0
      first zero o = ap (λ (j : ℕ). get_or (set a at x) j 0) (add-zero at) ∙ get_or-set_same a at x 0 (omega arith)
      first (suc k) o = absurd (omega arith)

-- a place more of a run
pub kept_turn : (s : List ℕ) (i : ℕ) → i < length s → kept (take i s) ++ kept (get_or s i 0 ∷ []) ≡ kept (take (i + 1) s)
kept_turn s i h =
    sym (kept_append (take i s) (get_or s i 0 ∷ [])) ∙ ap kept (sym (take-suc s i 0 h) ∙ ap (λ (j : ℕ). take j s) (sym (add-one i)))

-- behind the start and before it, marks anywhere
pub put_halves : (s : List ℕ) (start : ℕ) → start ≤ length s → {a b c : List ℕ} {e i k : ℕ} → Put (kept (take (length s - start) (drop start s))) a 0 e i b
    → Put (kept (take start s)) b i e k c → Put (kept (turned start s)) a 0 e k c
unfolding turned
put_halves s start h one two =
    put_is
    (ap (λ (x : List ℕ). kept x ++ kept (take start s)) (take_all (length s - start) (drop start s) (omega (arith, length-drop start s)))
    ∙ sym (kept_append (drop start s) (take start s)))
    (put_more _ one two)

-- ---- all that is asked for, or all there is and its repetition: what a block w is matched to

module _ (w a : List ℕ) (e k : ℕ) (b : List ℕ) (fits : e ≤ length a) (g : Put (kept w) a 0 e k b) where
  rule : ℕ → ℕ
  rule j = get_or (kept w) (j % length (kept w)) 0

  front : (p : ℕ) → p < k → get_or b p 0 ≡ get_or (kept w) p 0
  front p l = ap (λ (j : ℕ). get_or b j 0) (sym (zero-add p)) ∙ g.inside p (omega arith)

  pub put_enough : e ≤ k → b ≡ matched w e ++ drop e a
  unfolding matched rule
  put_enough h =
      written e rule a b fits g.len
      (λ p l. front p (omega arith) ∙ ap (λ (j : ℕ). get_or (kept w) j 0) (sym (mod-eq_of_lt (omega (arith, g.count)))))
      (λ p l. g.above p (omega (arith, g.most)))

  pub put_again : (c : List ℕ) → k < e → 0 < k → Repeated k e b c → c ≡ matched w e ++ drop e a
  unfolding matched rule
  put_again c h some r =
      let size : k ≡ length (kept w) = g.full h ∙ zero-add (length (kept w)) in
      written e rule a c fits (r.len ∙ g.len)
      (λ p l. r.inside p l ∙ front (p % k) (mod-lt p some) ∙ ap (λ (j : ℕ). get_or (kept w) (p % j) 0) size)
      (λ p l. r.above p l ∙ g.above p (omega arith))

-- where it does not reach e, there is something to repeat
pub put_some : (s : List ℕ) (start : ℕ) {a b : List ℕ} {e k : ℕ} → 0 < length (kept s) → Put (kept (turned start s)) a 0 e k b → k < e → 0 < k
put_some s start h g l = omega (arith, g.full l, ap length (kept-turned start s), turned-length (length (kept (take start s))) (kept s))

-- what may be asked for has a kept place
pub asked_some : (s : List ℕ) (e : ℕ) → unmatchable s e ≡ false → 0 < e → 0 < length (kept s)
unfolding unmatchable
asked_some s e u h =
    let q = (neither (ltb 65536 e) (ltb 0 e && eqb (length (kept s)) 0) u).1 in
    let none : eqb (length (kept s)) 0 ≡ false = rw (lt-ltb 0 e h) at q in
    equal_or (length (kept s)) 0 (λ z. absurd (eqb-false (length (kept s)) 0 none z)) (λ z. omega arith)

pub filled-some : (s : List ℕ) (own places : ℕ) → Filled s own places → places < length s → 0 < length (kept s)
filled-some s own places f h = omega (arith, kept-length s own places f)

-- ---- the four runs of a block from a start

module _ (s : List ℕ) (own places start : ℕ) (f : Filled s own places) where
  pub lined_up : start ≤ length s → (low mid : ℕ) → low ≡ least own start → mid ≡ least places start → {a b c d g : List ℕ} {e i j k r : ℕ} → Put (take (own - low) (drop low s)) a 0 e i b
      → Put (take (length s - (start + (places - mid))) (drop (start + (places - mid)) s)) b i e j c → Put (take low s) c j e k d → Put (take (start - mid) (drop mid s)) d k e r g
      → Put (kept (turned start s)) a 0 e r g
  lined_up within low mid p q one two three four =
      put_is (rw (p, q) (sym (kept_runs s own places start f within))) (put_more _ (put_more _ (put_more _ one two) three) four)
