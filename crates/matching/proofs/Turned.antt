-- Rotations: of a list and back, of its kept places, and the kept places of a turned block as four runs.
use mathlib.Core.Path.{◌≡◌, refl, sym, ap, ap₂, ◌∙◌}
use mathlib.Core.List.{List, ◌++◌, append_assoc, append-nil}
use Prim.Native.Nat.{ℕ, ◌+◌, ◌-◌, ◌≤◌}
use native.Mathlib.Omega.{arith}
use lib.ListN.{length, take, drop, length-append, length-drop, take-append-drop}
use lib.Seq.{get_or-drop, get_or-take, length-take-le, drop-drop, take-take, take-add, take_all, take_at, drop_at}
use Rattle.bits.proofs.Ranges.{below_or}
use Rattle.matching.specs.Matching.{kept, turned}
use Rattle.matching.specs.Steps.Places.{Filled, least, kept_before}
use Rattle.matching.proofs.Kept.{kept_append}
use Rattle.matching.proofs.Runs.{kept-is, kept-length}

-- ---- a list turned, and turned back

pub turned-at : (a b : List ℕ) (n : ℕ) → length a ≡ n → turned n (a ++ b) ≡ b ++ a
unfolding turned
turned-at a b n e = ap₂ (λ (x y : List ℕ). x ++ y) (drop_at a b n e) (take_at a b n e)

pub turned-length : (k : ℕ) (s : List ℕ) → length (turned k s) ≡ length s
unfolding turned
turned-length k s =
    length-append (drop k s) (take k s) ∙ omega (arith, ap length (take-append-drop k s), length-append (take k s) (drop k s))

pub turned_zero : (s : List ℕ) → turned 0 s ≡ s
unfolding turned
turned_zero s = append-nil s

pub turned_back : (k : ℕ) (s : List ℕ) → k ≤ length s → turned (length s - k) (turned k s) ≡ s
unfolding turned
turned_back k s h = turned-at (drop k s) (take k s) (length s - k) (length-drop k s) ∙ take-append-drop k s

-- and the other way round
pub turned_on : (k : ℕ) (s : List ℕ) → k ≤ length s → turned k (turned (length s - k) s) ≡ s
turned_on k s h =
    let e : length s - (length s - k) ≡ k = omega arith in
    ap (λ (n : ℕ). turned n (turned (length s - k) s)) (sym e) ∙ turned_back (length s - k) s (omega arith)

-- ---- what is kept of a turned block is what is kept, turned by the kept places before the start

pub kept-turned : (k : ℕ) (s : List ℕ) → kept (turned k s) ≡ turned (length (kept (take k s))) (kept s)
unfolding turned
kept-turned k s =
    kept_append (drop k s) (take k s)
    ∙ sym (turned-at (kept (take k s)) (kept (drop k s)) (length (kept (take k s))) refl)
    ∙ ap (turned (length (kept (take k s)))) (sym (kept_append (take k s) (drop k s)) ∙ ap kept (take-append-drop k s))

-- and no more of them stand before it than there are
pub kept_fewer : (k : ℕ) (s : List ℕ) → length (kept (take k s)) ≤ length (kept s)
kept_fewer k s =
    let parts : kept (take k s) ++ kept (drop k s) ≡ kept s = sym (kept_append (take k s) (drop k s)) ∙ ap kept (take-append-drop k s) in
    omega (arith, ap length parts, length-append (kept (take k s)) (kept (drop k s)))

-- ---- a block with its filler in one stretch, from a start: behind it and before it the filler again lies in one stretch

module _ (s : List ℕ) (own places start : ℕ) (f : Filled s own places) (in_block : start ≤ length s) where
  filled-drop : Filled (drop start s) (own - start) (places - start)
  filled-drop =
      let order : own ≤ places = f.order in
      let within : places ≤ length s = f.within in
      record {
        order = omega arith;
        within = omega (arith, length-drop start s);
        before = λ p h e. f.before (start + p) (omega arith) (sym (get_or-drop start s p 0) ∙ e);
        marked = λ p h l. get_or-drop start s p 0 ∙ f.marked (start + p) (omega arith) (omega arith);
        after = λ p h l e. f.after (start + p) (omega arith) (omega (arith, length-drop start s)) (sym (get_or-drop start s p 0) ∙ e);
      }

  filled-take : Filled (take start s) (least own start) (least places start)
  filled-take =
      let order : own ≤ places = f.order in
      let within : places ≤ length s = f.within in
      let long : length (take start s) ≡ start = length-take-le start s in_block in
      record {
        order = omega arith;
        within = omega arith;
        before = λ p h e. f.before p (omega arith) (sym (get_or-take start s p 0 (omega arith)) ∙ e);
        marked = λ p h l. get_or-take start s p 0 (omega arith) ∙ f.marked p (omega arith) (omega arith);
        after = λ p h l e. f.after p (omega arith) (omega arith) (sym (get_or-take start s p 0 (omega arith)) ∙ e);
      }

  pub kept-before : length (kept (take start s)) ≡ kept_before own places start
  unfolding kept_before
  kept-before =
      kept-length (take start s) (least own start) (least places start) filled-take
      ∙ ap (λ (n : ℕ). least own start + (n - least places start)) (length-take-le start s in_block)

  -- the runs: behind the start, and before it
  abbrev lo : ℕ
  lo = least own start

  abbrev mid : ℕ
  mid = least places start

  abbrev from : ℕ
  from = start + (places - mid)

  first_run : take (own - start) (drop start s) ≡ take (own - lo) (drop lo s)
  first_run =
      below_or start own
      (λ h.
      let e : start ≡ own - (own - start) = omega arith in
      let c : own - start ≡ own - (own - (own - start)) = omega arith in
      ap₂ (λ (n k : ℕ). take n (drop k s)) c e)
      (λ h.
      let a : own - start ≡ 0 = omega arith in
      let b : own - (own - (own - start)) ≡ 0 = omega arith in
      ap (λ (n : ℕ). take n (drop start s)) a ∙ sym (ap (λ (n : ℕ). take n (drop (own - (own - start)) s)) b))

  second_run : drop (places - start) (drop start s) ≡ take (length s - from) (drop from s)
  second_run =
      let e : start + (places - start) ≡ start + (places - (places - (places - start))) = omega arith in
      let at : ℕ = start + (places - (places - (places - start))) in
      drop-drop (places - start) start s ∙ ap (λ (n : ℕ). drop n s) e
      ∙ sym (take_all (length s - at) (drop at s) (omega (arith, length-drop at s)))

  third-run : take lo (take start s) ≡ take lo s
  third-run = take-take (own - (own - start)) start s (omega arith)

  fourth-run : drop mid (take start s) ≡ take (start - mid) (drop mid s)
  fourth-run =
      let m : ℕ = places - (places - start) in
      let e : start ≡ m + (start - m) = omega arith in
      ap (λ (n : ℕ). drop m (take n s)) e ∙ ap (drop m) (take-add m (start - m) s)
      ∙ drop_at (take m s) (take (start - m) (drop m s)) m (length-take-le m s (omega arith))

  pub kept_runs : kept (turned start s)
      ≡ ((take (own - least own start) (drop (least own start) s) ++ take (length s - (start + (places - least places start))) (drop (start + (places - least places start)) s))
      ++ take (least own start) s) ++ take (start - least places start) (drop (least places start) s)
  unfolding turned
  kept_runs =
      kept_append (drop start s) (take start s)
      ∙ ap₂ (λ (x y : List ℕ). x ++ y)
      (kept-is (drop start s) (own - start) (places - start) filled-drop ∙ ap₂ (λ (x y : List ℕ). x ++ y) first_run second_run)
      (kept-is (take start s) lo mid filled-take ∙ ap₂ (λ (x y : List ℕ). x ++ y) third-run fourth-run)
      ∙ sym (append_assoc (take (own - lo) (drop lo s) ++ take (length s - from) (drop from s)) (take lo s) (take (start - mid) (drop mid s)))
