-- What was sent from a start, heard: turned into line it is what is sent from the first place.
use mathlib.Core.Path.{◌≡◌, sym, ap, ap₂, ◌∙◌}
use mathlib.Core.Bool.{Bool, true, ◌&&◌}
use mathlib.Core.List.{List, ◌++◌}
use Prim.Native.Nat.{ℕ, ◌+◌, ◌-◌, ◌%◌, ◌≤◌, ◌<◌}
use native.Mathlib.Nat.{mod-eq_of_lt}
use native.Mathlib.Omega.{arith}
use lib.ListN.{length, get_or, take, drop, length-drop, get_or-append}
use lib.Seq.{get_or-append-add, get_or-drop, get_or-take, length-take-le}
use Rattle.bits.specs.Bits.{AreBits, same}
use Rattle.bits.proofs.Listed.{length_list, list_of}
use Rattle.bits.proofs.Lists.{bits-append, bits-take, bits-drop, same_equal, same_self}
use Rattle.bits.proofs.Ranges.{both, either_way}
use Rattle.matching.specs.Matching.{kept, matched, turned}
use Rattle.matching.specs.Steps.Places.{Filled}
use Rattle.matching.specs.Steps.Copies.{copies_agree}
use Rattle.matching.specs.Steps.Line.{in_line, heard}
use Rattle.matching.proofs.Runs.{kept-length}
use Rattle.matching.proofs.Stretch.{sent_front, sent_copies, copies_sent}
use Rattle.matching.proofs.Turned.{turned-length, turned_back, turned_on, kept-turned, kept_fewer, kept-before}

-- ---- a stretch in line

pub in_line_length : (n k : ℕ) (s : List ℕ) → n ≤ length s → length (in_line n k s) ≡ n
unfolding in_line
in_line_length n k s h = turned-length (n - k) (take n s) ∙ length-take-le n s h

pub in_line_bits : (n k : ℕ) (s : List ℕ) → AreBits s → AreBits (in_line n k s)
unfolding in_line turned
in_line_bits n k s h =
    bits-append (drop (n - k) (take n s)) (take (n - k) (take n s))
    (bits-drop (n - k) (take n s) (bits-take n s h)) (bits-take (n - k) (take n s) (bits-take n s h))

-- ---- what it holds, place by place: the k that were sent last, and the others

module _ (n k : ℕ) (s : List ℕ) (few : k ≤ n) (long : n ≤ length s) where
  late : length (drop (n - k) (take n s)) ≡ k
  late = length-drop (n - k) (take n s) ∙ omega (arith, length-take-le n s long)

  pub line_first : (p : ℕ) → p < k → get_or (in_line n k s) p 0 ≡ get_or s (n - k + p) 0
  unfolding in_line turned
  line_first p h =
      get_or-append (drop (n - k) (take n s)) (take (n - k) (take n s)) 0 p (omega (arith, late)) ∙ get_or-drop (n - k) (take n s) p 0
      ∙ get_or-take n s (n - k + p) 0 (omega arith)

  pub line_then : (p : ℕ) → k + p < n → get_or (in_line n k s) (k + p) 0 ≡ get_or s p 0
  unfolding in_line turned
  line_then p h =
      ap (λ (x : ℕ). get_or (drop (n - k) (take n s) ++ take (n - k) (take n s)) (x + p) 0) (sym late)
      ∙ get_or-append-add (drop (n - k) (take n s)) (take (n - k) (take n s)) p 0
      ∙ get_or-take (n - k) (take n s) p 0 (omega arith) ∙ get_or-take n s p 0 (omega arith)

-- ---- a block sent

pub matched-length : (v : List ℕ) (e : ℕ) → length (matched v e) ≡ e
unfolding matched
matched-length v e = length_list e (λ k. get_or (kept v) (k % length (kept v)) 0)

-- once round is the kept places
pub matched_once : (w : List ℕ) (n : ℕ) → length (kept w) ≡ n → matched w n ≡ kept w
unfolding matched
matched_once w n size =
    sym (list_of n (λ k. get_or (kept w) (k % length (kept w)) 0) (kept w) size
    (λ k l. ap (λ (j : ℕ). get_or (kept w) j 0) (sym (mod-eq_of_lt (omega arith)))))

-- ---- s is sent for a block w from a start exactly where its copies agree and it is, in line, sent for w once from the first place

module _ (w s : List ℕ) (start n : ℕ) (size : length (kept w) ≡ n) (some : 0 < n) (long : n ≤ length s) where
  kept-size : length (kept (turned start w)) ≡ n
  kept-size = ap length (kept-turned start w) ∙ turned-length (length (kept (take start w))) (kept w) ∙ size

  front_length : length (take n s) ≡ n
  front_length = length-take-le n s long

  pub to_line : matched (turned start w) (length s) ≡ s → matched w n ≡ in_line n (length (kept (take start w))) s
  unfolding in_line
  to_line e =
      let c : ℕ = length (kept (take start w)) in
      matched_once w n size
      ∙ sym (turned_back c (kept w) (kept_fewer start w))
      ∙ ap₂ (λ (x : ℕ) (y : List ℕ). turned (x - c) y) size
      (sym (kept-turned start w) ∙ sym (sent_front (turned start w) s n kept-size some long e))

  from-line : copies_agree n s ≡ true → matched w n ≡ in_line n (length (kept (take start w))) s → matched (turned start w) (length s) ≡ s
  unfolding in_line
  from-line h e =
      let c : ℕ = length (kept (take start w)) in
      copies_sent (turned start w) s n kept-size some long h
      (sym (turned_on c (take n s) (omega (arith, front_length, kept_fewer start w)))
      ∙ ap (λ (x : ℕ). turned c (turned (x - c) (take n s))) front_length
      ∙ ap (turned c) (sym e ∙ matched_once w n size) ∙ sym (kept-turned start w))

  pub turned_sent_as : same (matched (turned start w) (length s)) s ≡ copies_agree n s && same (matched w n) (in_line n (length (kept (take start w))) s)
  turned_sent_as =
      either_way _ _
      (λ e.
      let q = same_equal _ _ e in
      ap₂ (λ (a b : Bool). a && b) (sent_copies (turned start w) s n kept-size some long q)
      (ap (λ (x : List ℕ). same (matched w n) x) (sym (to_line q)) ∙ same_self (matched w n)))
      (λ e.
      let parts = both (copies_agree n s) (same (matched w n) (in_line n (length (kept (take start w))) s)) e in
      ap (λ (x : List ℕ). same x s) (from-line parts.0 (same_equal _ _ parts.1)) ∙ same_self s)

-- the same for a block whose filler lies in one stretch
pub heard_sent_as : (w s : List ℕ) (own places start n : ℕ) → Filled w own places → start ≤ length w → own + (length w - places) ≡ n → 0 < n → n ≤ length s
    → same (matched (turned start w) (length s)) s ≡ copies_agree n s && same (matched w n) (heard own places start (length w) s)
heard_sent_as w s own places start n f within is some long =
    turned_sent_as w s start n (kept-length w own places f ∙ is) some long
    ∙ ap₂ (λ (k m : ℕ). copies_agree n s && same (matched w n) (in_line m k s)) (kept-before w own places start f within) (sym is)
