-- Writing a shelf piece behind piece: numbers, heads in a loop, and stretches of the old shelf.
use mathlib.Core.Path.{◌≡◌, refl, sym, ap, ap₂, ◌∙◌}
use mathlib.Core.Bool.{Bool}
use mathlib.Core.List.{List, [], ◌∷◌, ◌++◌, append_assoc}
use Prim.Native.Nat.{ℕ, suc, ◌+◌, ◌-◌, ◌*◌, ◌/◌, ◌%◌, ◌≤◌, ◌<◌}
use native.Mathlib.Nat.{sub-eq-zero_of_le}
use native.Mathlib.Numerals.{add-one}
use native.Mathlib.Omega.{arith}
use lib.ListN.{length, take, drop, set, length-append, length-drop, take-append-drop}
use lib.Seq.{sets, sets-eq, get_or-drop, ext_get_or}
use Rattle.bits.specs.Steps.Places.{Laid}
use Rattle.bits.proofs.Lists.{sets-append, length_part}
use Rattle.bits.proofs.Laid.{laid-front}
use Rattle.shelf.specs.Shelf.{count, tenant, profile, size, record_at, offset_due}
use Rattle.shelf.proofs.WellFormed.{Formed}
use Rattle.keeping.specs.Entries.{Entry, entry_at, entries_from, two_octets, head, heads, records, shelf_of}
use Rattle.keeping.proofs.Spelled.{length-head, length-heads, heads-append, records-append}
use Rattle.keeping.proofs.Stretches.{record_size, span, stretch}

pub sets-at : (l : List ℕ) (i : ℕ) (a b : List ℕ) (j : ℕ) → j ≡ i + length a → sets l i (a ++ b) ≡ sets (sets l i a) j b
sets-at l i a b j e = sets-append l i a b ∙ ap (λ (n : ℕ). sets (sets l i a) n b) (sym e)

two-long : (n : ℕ) → 2 ≡ 0 + length (two_octets n)
unfolding two_octets
two-long n = refl

-- ---- a number, and a head

pub two_put : (l : List ℕ) (at n : ℕ) → set (set l at (n / 256)) (at + 1) (n % 256) ≡ sets l at (two_octets n)
unfolding two_octets
two_put l at n = rw add-one

pub head_put : (l : List ℕ) (at t p o n : ℕ)
    → sets (sets (sets (sets l at (two_octets t)) (at + 2) (two_octets p)) (at + 4) (two_octets o)) (at + 6) (two_octets n) ≡ sets l at (head t p o n)
unfolding head two_octets
head_put l at t p o n =
    sym
    (sets-at l at (two_octets t) (two_octets p ++ (two_octets o ++ two_octets n)) (at + 2) (omega arith)
    ∙ sets-at (sets l at (two_octets t)) (at + 2) (two_octets p) (two_octets o ++ two_octets n) (at + 4) (omega arith)
    ∙ sets-at (sets (sets l at (two_octets t)) (at + 2) (two_octets p)) (at + 4) (two_octets o) (two_octets n) (at + 6) (omega arith))

-- ---- heads, one in each turn

module _ (S : List ℕ) (private : Bool) (f : Formed S private) (to k : ℕ) where
  pub next-entry : k < to → entries_from S (to - k) k ≡ entry_at S k ∷ entries_from S (to - (k + 1)) (k + 1)
  unfolding entries_from
  next-entry h =
      let one : to - k ≡ suc (to - (k + 1)) = omega arith in
      let two : suc k ≡ k + 1 = omega arith in
      ap (λ (n : ℕ). entries_from S n k) one ∙ ap (λ (n : ℕ). entry_at S k ∷ entries_from S (to - (k + 1)) n) two

  pub no-entry : to ≤ k → entries_from S (to - k) k ≡ []
  unfolding entries_from
  no-entry h = ap (λ (n : ℕ). entries_from S n k) (sub-eq-zero_of_le h)

  module _ (h : k < to) (l : to ≤ count S) where
    long : length (record_at S k) ≡ size S k
    long = record_size S private f k (omega arith)

    pub heads-turn : (out : List ℕ) (at next : ℕ)
        → sets out at (heads next (entries_from S (to - k) k))
        ≡ sets (sets out at (head (tenant S k) (profile S k) next (size S k))) (at + 8) (heads (next + size S k) (entries_from S (to - (k + 1)) (k + 1)))
    unfolding heads entry_at
    heads-turn out at next =
        ap (λ (es : List Entry). sets out at (heads next es)) (next-entry h)
        ∙ ap (λ (n : ℕ). sets out at (head (tenant S k) (profile S k) next n ++ heads (next + n) (entries_from S (to - (k + 1)) (k + 1)))) long
        ∙ sets-at out at (head (tenant S k) (profile S k) next (size S k)) (heads (next + size S k) (entries_from S (to - (k + 1)) (k + 1))) (at + 8)
        (omega (arith, length-head (tenant S k) (profile S k) next (size S k)))

    pub records-turn : length (records (entries_from S (to - k) k)) ≡ size S k + length (records (entries_from S (to - (k + 1)) (k + 1)))
    unfolding records entry_at
    records-turn =
        ap (λ (es : List Entry). length (records es)) (next-entry h)
        ∙ length-append (record_at S k) (records (entries_from S (to - (k + 1)) (k + 1)))
        ∙ ap (λ (n : ℕ). n + length (records (entries_from S (to - (k + 1)) (k + 1)))) long

  pub heads_end : to ≤ k → (out : List ℕ) (at next : ℕ) → sets out at (heads next (entries_from S (to - k) k)) ≡ out
  unfolding heads
  heads_end h out at next = ap (λ (es : List Entry). sets out at (heads next es)) (no-entry h)

  pub records_end : to ≤ k → length (records (entries_from S (to - k) k)) ≡ 0
  unfolding records
  records_end h = ap (λ (es : List Entry). length (records es)) (no-entry h)

-- ---- a stretch of another list

pub laid-sets : (s a b : List ℕ) (from n at : ℕ) → from + n ≤ length s → at + n ≤ length a → Laid s from n a at b → b ≡ sets a at (take n (drop from s))
laid-sets s a b from n at h l w =
    let part = take n (drop from s) in
    let long : length part ≡ n = length_part n from s h in
    let rest : drop (at + n) b ≡ drop (at + n) a =
    ext_get_or 0 (drop (at + n) b) (drop (at + n) a) (length-drop (at + n) b ∙ ap (λ (m : ℕ). m - (at + n)) w.len ∙ sym (length-drop (at + n) a))
    (λ i q. get_or-drop (at + n) b i 0 ∙ w.above (at + n + i) (omega arith) ∙ sym (get_or-drop (at + n) a i 0)) in
    let room : at + length part ≤ length a = omega arith in
    sym (take-append-drop (at + n) b)
    ∙ ap₂ (λ (x y : List ℕ). x ++ y) (laid-front s a b from n at h l w) rest
    ∙ ap (λ (m : ℕ). (take at a ++ part) ++ drop (at + m) a) (sym long)
    ∙ sym (sets-eq part a at room)

module _ (S : List ℕ) (private : Bool) (f : Formed S private) (from to : ℕ) (h : from ≤ to) (l : to ≤ count S) where
  abbrev part : List ℕ
  part = records (entries_from S (to - from) from)

  pub due_part : offset_due S from + length part ≡ offset_due S to
  due_part =
      let on : from + (to - from) ≡ to = omega arith in
      span S private f (to - from) from (omega arith) ∙ ap (offset_due S) on

  pub due-within : offset_due S to ≤ length S
  due-within =
      let on : offset_due S (to + (count S - to)) ≡ offset_due S (count S) = ap (offset_due S) (let z : to + (count S - to) ≡ count S = omega arith in z) in
      omega (arith, span S private f (count S - to) to (omega arith), on, f.ends)

  pub part_is : take (offset_due S to - offset_due S from) (drop (offset_due S from) S) ≡ part
  part_is =
      let long : offset_due S to - offset_due S from ≡ length part = omega (arith, due_part) in
      ap (λ (n : ℕ). take n (drop (offset_due S from) S)) long ∙ sym (stretch S private f (to - from) from (omega arith))

-- ---- the whole

module _ (a b : List Entry) (e : Entry) (kept first mine next : ℕ)
    (k : kept ≡ length (a ++ (e ∷ b))) (f : first ≡ 2 + 8 * kept) (m : mine ≡ first + length (records a)) (n : next ≡ mine + length e.octets) where
  put-spelled : shelf_of (a ++ (e ∷ b))
      ≡ two_octets kept ++ (heads first a ++ (head e.owner e.number mine (length e.octets) ++ (heads next b ++ (records a ++ (e.octets ++ records b)))))
  unfolding shelf_of heads records
  put-spelled =
      let all = a ++ (e ∷ b) in
      let o : first ≡ 2 + 8 * length all = omega arith in
      ap₂ (λ (c d : ℕ). two_octets c ++ (heads d all ++ records all)) (sym k) (sym o)
      ∙ ap₂ (λ (x y : List ℕ). two_octets kept ++ (x ++ y)) (heads-append first a (e ∷ b)) (records-append a (e ∷ b))
      ∙ ap₂ (λ (c d : ℕ). two_octets kept ++ ((heads first a ++ (head e.owner e.number c (length e.octets) ++ heads d b)) ++ (records a ++ (e.octets ++ records b))))
      (sym m) (ap (λ (c : ℕ). c + length e.octets) (sym m) ∙ sym n)
      ∙ ap (λ (x : List ℕ). two_octets kept ++ x) (simp append_assoc)

  pub put_whole : (out : List ℕ)
      → sets (sets (sets (sets (sets (sets (sets out 0 (two_octets kept)) 2 (heads first a)) (2 + 8 * length a) (head e.owner e.number mine (length e.octets)))
      (10 + 8 * length a) (heads next b)) first (records a)) mine e.octets) next (records b) ≡ sets out 0 (shelf_of (a ++ (e ∷ b)))
  put_whole out =
      let p1 = two_octets kept in
      let p2 = heads first a in
      let p3 = head e.owner e.number mine (length e.octets) in
      let p4 = heads next b in
      let p5 = records a in
      let p6 = e.octets in
      let p7 = records b in
      let o1 = sets out 0 p1 in
      let o2 = sets o1 2 p2 in
      let o3 = sets o2 (2 + 8 * length a) p3 in
      let o4 = sets o3 (10 + 8 * length a) p4 in
      let o5 = sets o4 first p5 in
      let ends : first ≡ 10 + 8 * length a + length p4 = omega (arith, length-heads next b, length-append a (e ∷ b)) in
      sym
      (ap (sets out 0) put-spelled
      ∙ sets-at out 0 p1 (p2 ++ (p3 ++ (p4 ++ (p5 ++ (p6 ++ p7))))) 2 (two-long kept)
      ∙ sets-at o1 2 p2 (p3 ++ (p4 ++ (p5 ++ (p6 ++ p7)))) (2 + 8 * length a) (omega (arith, length-heads first a))
      ∙ sets-at o2 (2 + 8 * length a) p3 (p4 ++ (p5 ++ (p6 ++ p7))) (10 + 8 * length a) (omega (arith, length-head e.owner e.number mine (length e.octets)))
      ∙ sets-at o3 (10 + 8 * length a) p4 (p5 ++ (p6 ++ p7)) first ends
      ∙ sets-at o4 first p5 (p6 ++ p7) mine m
      ∙ sets-at o5 mine p6 p7 next n)

module _ (a b : List Entry) (kept first next : ℕ)
    (k : kept ≡ length (a ++ b)) (f : first ≡ 2 + 8 * kept) (m : next ≡ first + length (records a)) where
  left-spelled : shelf_of (a ++ b) ≡ two_octets kept ++ (heads first a ++ (heads next b ++ (records a ++ records b)))
  unfolding shelf_of
  left-spelled =
      let all = a ++ b in
      let o : first ≡ 2 + 8 * length all = omega arith in
      ap₂ (λ (c d : ℕ). two_octets c ++ (heads d all ++ records all)) (sym k) (sym o)
      ∙ ap₂ (λ (x y : List ℕ). two_octets kept ++ (x ++ y)) (heads-append first a b) (records-append a b)
      ∙ ap (λ (c : ℕ). two_octets kept ++ ((heads first a ++ heads c b) ++ (records a ++ records b))) (sym m)
      ∙ ap (λ (x : List ℕ). two_octets kept ++ x) (append_assoc (heads first a) (heads next b) (records a ++ records b))

  pub left-whole : (out : List ℕ)
      → sets (sets (sets (sets (sets out 0 (two_octets kept)) 2 (heads first a)) (2 + 8 * length a) (heads next b)) first (records a)) next (records b)
      ≡ sets out 0 (shelf_of (a ++ b))
  left-whole out =
      let p1 = two_octets kept in
      let p2 = heads first a in
      let p3 = heads next b in
      let p4 = records a in
      let p5 = records b in
      let o1 = sets out 0 p1 in
      let o2 = sets o1 2 p2 in
      let o3 = sets o2 (2 + 8 * length a) p3 in
      let ends : first ≡ 2 + 8 * length a + length p3 = omega (arith, length-heads next b, length-append a b) in
      sym
      (ap (sets out 0) left-spelled
      ∙ sets-at out 0 p1 (p2 ++ (p3 ++ (p4 ++ p5))) 2 (two-long kept)
      ∙ sets-at o1 2 p2 (p3 ++ (p4 ++ p5)) (2 + 8 * length a) (omega (arith, length-heads first a))
      ∙ sets-at o2 (2 + 8 * length a) p3 (p4 ++ p5) first ends
      ∙ sets-at o3 first p4 p5 next m)

-- what was set in front of a list
pub set_front : (out new : List ℕ) → length new ≤ length out → sets out 0 new ≡ new ++ drop (length new) out
set_front out new h =
    let room : 0 + length new ≤ length out = omega arith in
    sets-eq new out 0 room ∙ ap (λ (n : ℕ). new ++ drop n out) (let z : 0 + length new ≡ length new = omega arith in z)
