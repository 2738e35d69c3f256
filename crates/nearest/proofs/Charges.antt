-- What a word costs on its way to its own start is in how many places its streams differ from what was heard.
use mathlib.Core.Path.{◌≡◌, refl, sym, ap, ◌∙◌}
use mathlib.Core.Bool.{Bool, true, false, cond}
use mathlib.Core.List.{List, [], ◌∷◌, ◌++◌}
use Prim.Native.Nat.{ℕ, suc, ◌+◌, ◌*◌, ◌/◌, ◌≤◌, ◌<◌}
use native.Mathlib.Nat.{add-suc, add-zero}
use native.Mathlib.Omega.{arith}
use lib.Dec.{eqb, lit≤}
use lib.ListN.{length, get_or, drop, replicate, get_or-replicate}
use lib.Seq.{drop-cons, drop-drop, get_or-set_same, get_or-set_other}
use Rattle.bits.specs.Bits.{AreBits}
use Rattle.bits.proofs.Ranges.{equal_or}
use Rattle.control.specs.Register.{stream, after, preset, streams}
use Rattle.control.proofs.Registers.{length-stream, length-streams, comes_round, preset_lt}
use Rattle.nearest.specs.Nearest.{unlike, differences}
use Rattle.nearest.specs.Steps.Trellis.{end_at, end_open, charge, cost}
use Rattle.nearest.specs.Steps.Rows.{Heard, AtMost}
use Rattle.nearest.proofs.Tolls.{cost_is}

unlike-most : (x y : ℕ) → unlike x y ≤ 1
unfolding unlike
unlike-most x y = by-test (eqb x y)
  where
    by-test : (t : Bool) → cond t 0 1 ≤ 1
    by-test true = lit≤ tt
    by-test false = lit≤ tt

pub differences-most : (s t : List ℕ) → differences s t ≤ length s
unfolding differences
differences-most [] t = lit≤ tt
differences-most (x ∷ s) [] = omega arith
differences-most (x ∷ s) (y ∷ t) = omega (arith, unlike-most x y, differences-most s t)

none : (s : List ℕ) → differences s [] ≡ 0
unfolding differences
none [] = refl
none (x ∷ s) = refl

differences-append : (a b t : List ℕ) → differences (a ++ b) t ≡ differences a t + differences b (drop (length a) t)
unfolding differences
differences-append [] b t = omega arith
differences-append (x ∷ a) b [] = omega (arith, none b)
differences-append (x ∷ a) b (y ∷ t) = omega (arith, differences-append a b t)

-- ---- the end

end_here : (goal : ℕ) → goal < 64 → get_or (end_at goal) goal 0 ≡ 0
unfolding end_at
end_here goal l = get_or-set_same (replicate 64 500) goal 0 0 l

end_off : (goal s : ℕ) → s < 64 → (s ≡ goal → ⊥) → get_or (end_at goal) s 0 ≡ 500
unfolding end_at
end_off goal s l n = get_or-set_other (replicate 64 500) goal s 0 0 n ∙ get_or-replicate 64 s 500 0 l

pub end_low : (goal : ℕ) → goal < 64 → AtMost 500 (end_at goal)
end_low goal g s l =
    equal_or s goal (λ e. let here = end_here goal g in rw e (omega (arith, here))) (λ n. let off = end_off goal s l n in omega (arith, off))

pub low-goal : (goal : ℕ) (E : List ℕ) → goal < 64 → E ≡ end_at goal → AtMost 500 E
low-goal goal E l e = rw e (end_low goal l)

pub low_open : (E : List ℕ) (most : ℕ) → E ≡ end_open → AtMost most E
unfolding end_open
low_open E most e s l = let none = get_or-replicate {A = ℕ} 64 s 0 0 l in rw e (omega (arith, none))

-- ---- the streams step by step

module _ (D : ℕ) (heard T : List ℕ) (size : length heard ≡ D + D + D) (single : AreBits heard) (t : Heard D heard D T) where
  charge-is : (E : List ℕ) (k s : ℕ) (w : List ℕ) → k + length w ≡ D
      → charge (cost T) E k s w
      ≡ differences (stream 0o133 s w) (drop k heard) + differences (stream 0o171 s w) (drop (D + k) heard) + differences (stream 0o165 s w) (drop (D + D + k) heard)
      + get_or E (after s w) 0
  unfolding charge stream differences after
  charge-is E k s [] e = omega arith
  charge-is E k s (b ∷ w) e =
      let one : drop k heard ≡ get_or heard k 0 ∷ drop (suc k) heard = drop-cons heard k 0 (omega arith) in
      let two : drop (D + k) heard ≡ get_or heard (D + k) 0 ∷ drop (D + suc k) heard =
      drop-cons heard (D + k) 0 (omega arith) ∙ ap (λ (j : ℕ). get_or heard (D + k) 0 ∷ drop j heard) (sym (add-suc D k)) in
      let three : drop (D + D + k) heard ≡ get_or heard (D + D + k) 0 ∷ drop (D + D + suc k) heard =
      drop-cons heard (D + D + k) 0 (omega arith) ∙ ap (λ (j : ℕ). get_or heard (D + D + k) 0 ∷ drop j heard) (sym (add-suc (D + D) k)) in
      let rest = charge-is E (suc k) ((b * 64 + s) / 2) w (omega arith) in
      rw (one, two, three) (omega (arith, rest, cost_is D heard T k (b * 64 + s) single t (omega arith)))

  -- the streams of any start, one behind the other
  split-streams : (s : ℕ) (c : List ℕ) → length c ≡ D
      → differences (stream 0o133 s c ++ (stream 0o171 s c ++ stream 0o165 s c)) heard
      ≡ differences (stream 0o133 s c) heard + differences (stream 0o171 s c) (drop D heard) + differences (stream 0o165 s c) (drop (D + D) heard)
  split-streams s c e =
      let first = differences-append (stream 0o133 s c) (stream 0o171 s c ++ stream 0o165 s c) heard in
      let second = differences-append (stream 0o171 s c) (stream 0o165 s c) (drop (length (stream 0o133 s c)) heard) in
      let long : length (stream 0o133 s c) ≡ D = length-stream 0o133 s c ∙ e in
      let long' : length (stream 0o171 s c) ≡ D = length-stream 0o171 s c ∙ e in
      let third = drop-drop D D heard in
      let second' = rw (long, long', third) at second in
      omega (arith, rw long at first, second')

  charge-from : (E : List ℕ) (s : ℕ) (c : List ℕ) → length c ≡ D
      → charge (cost T) E 0 s c ≡ differences (stream 0o133 s c ++ (stream 0o171 s c ++ stream 0o165 s c)) heard + get_or E (after s c) 0
  charge-from E s c e =
      let whole = charge-is E 0 s c (omega arith) in
      omega (arith, rw (add-zero D, add-zero (D + D)) at whole, split-streams s c e)

  module _ (c : List ℕ) (bits : AreBits c) (e : length c ≡ D) (six : 6 ≤ D) where
    -- a word that ends at its own start
    pub charge-own : charge (cost T) (end_at (preset c)) 0 (preset c) c ≡ differences (streams c) heard
    unfolding streams
    charge-own =
        let p = preset c in
        let inside = preset_lt c bits (omega arith) in
        let round : after p c ≡ p = comes_round p c inside bits (omega arith) in
        let end : get_or (end_at p) (after p c) 0 ≡ 0 = rw round (end_here p inside) in
        omega (arith, charge-from (end_at p) p c e)

    -- and no other end costs less than 500
    pub charge-other : (goal : ℕ) → goal < 64 → charge (cost T) (end_at goal) 0 goal c < 500 → preset c ≡ goal
    charge-other goal l h =
        equal_or (preset c) goal (λ q. q)
        (λ n.
        let round : after goal c ≡ preset c = comes_round goal c l bits (omega arith) in
        let off = end_off goal (preset c) (preset_lt c bits (omega arith)) n in
        let end : get_or (end_at goal) (after goal c) 0 ≡ 500 = rw round off in
        absurd (omega (arith, charge-from (end_at goal) goal c e)))

    pub differences-code : differences (streams c) heard ≤ D + D + D
    differences-code = omega (arith, differences-most (streams c) heard, length-streams c)
