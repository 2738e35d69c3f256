-- The register's fold is the remainder, over any width and any generator; and the loops that feed it.
use mathlib.Core.Path.{◌≡◌, refl, sym, ap, ap₂, ◌∙◌}
use mathlib.Core.List.{List, [], ◌∷◌, ◌++◌}
use Prim.Native.Nat.{ℕ, zero, suc, ◌+◌, ◌*◌, ◌^◌, ◌≤◌, ◌<◌}
use native.Mathlib.Nat.{zero-mul, one-mul, add-zero, zero-add, add-suc, pow-suc, lt_of_lt_of_le}
use native.Mathlib.Numerals.{add-one}
use native.Mathlib.Omega.{arith}
use lib.Bits.{bit_xor, xor_shifted}
use lib.Dec.{lit<}
use lib.ListN.{length, get_or, drop, replicate, length-replicate, drop_of_length-le}
use lib.Pow.{pow_pos, pow_mono, pow-lt}
use lib.Seq.{drop-cons}
use Rattle.bits.specs.Bits.{AreBits, digits, unpacked}
use Rattle.bits.proofs.Lists.{bits-zeros}
use Rattle.checksum.specs.Crc.{reduce, divide_on, remainder, checksum}
use Rattle.checksum.specs.Steps.Register.{stepped, fed}
use Rattle.checksum.proofs.Division.{reduce_lt, reduce-small, reduce_top, reduce_xor, divide_xor}

module _ (w g : ℕ) where
  -- n zeros brought down: times D^n
  shifted : ℕ → ℕ → ℕ
  shifted n r = divide_on w g r (replicate n 0)

  shifted-xor : (n x y : ℕ) → shifted n (bit_xor x y) ≡ bit_xor (shifted n x) (shifted n y)
  unfolding shifted
  shifted-xor n x y =
      divide_xor w g x y (replicate n 0) (bits-zeros n)
      ∙ ap (λ (m : ℕ). bit_xor (divide_on w g x (replicate m 0)) (divide_on w g y (replicate n 0))) (length-replicate n 0)

  shifted-zero : (n : ℕ) → shifted n 0 ≡ 0
  unfolding shifted divide_on
  shifted-zero zero = refl
  shifted-zero (suc n) = ap (shifted n) (reduce-small w g 0 (pow_pos w)) ∙ shifted-zero n

  -- D comes out
  shifted-twice : (n r : ℕ) → shifted n (reduce w g (r * 2)) ≡ reduce w g (shifted n r * 2)
  unfolding shifted divide_on
  shifted-twice zero r = refl
  shifted-twice (suc n) r =
      ap (λ (z : ℕ). shifted n (reduce w g z)) (add-zero (reduce w g (r * 2) * 2))
      ∙ shifted-twice n (reduce w g (r * 2))
      ∙ ap (λ (z : ℕ). reduce w g (shifted n (reduce w g z) * 2)) (sym (add-zero (r * 2)))

  -- D^k times D^(w - k) is D^w, of which g is left
  shifted-power : (n k : ℕ) → k + suc n ≡ w → shifted (suc n) (2 ^ k) ≡ g
  unfolding shifted divide_on
  shifted-power zero k e =
      ap (reduce w g) (add-zero (2 ^ k * 2) ∙ sym (pow-suc 2 k) ∙ ap (λ (z : ℕ). 2 ^ z) (sym (add-suc k 0 ∙ ap suc (add-zero k)) ∙ e) ∙ sym (one-mul (2 ^ w)))
      ∙ reduce_top w g 1 (lit< tt) ∙ one-mul g
  shifted-power (suc n) k e =
      ap (λ (z : ℕ). shifted (suc n) (reduce w g z)) (add-zero (2 ^ k * 2) ∙ sym (pow-suc 2 k))
      ∙ ap (shifted (suc n)) (reduce-small w g (2 ^ suc k) (pow-lt (omega arith)))
      ∙ shifted-power n (suc k) (omega arith)

  shifted_one : (n : ℕ) → n ≡ w → 0 < n → shifted n 1 ≡ g
  shifted_one zero e h = absurd (omega arith)
  shifted_one (suc n) e h = shifted-power n 0 (zero-add (suc n) ∙ e)

  module _ (some : 0 < w) where
    shifted-digit : (b : ℕ) → b < 2 → shifted w b ≡ b * g
    shifted-digit zero h = shifted-zero w ∙ sym (zero-mul g)
    shifted-digit (suc zero) h = shifted_one w refl some ∙ sym (one-mul g)
    shifted-digit (suc (suc b)) h = absurd (omega arith)

    -- one more coefficient is one step of the register
    shifted_step : (r b : ℕ) → b < 2 → shifted w (reduce w g (r * 2 + b)) ≡ stepped w g (shifted w r) b
    unfolding stepped
    shifted_step r b h =
        let alone : shifted w (reduce w g b) ≡ reduce w g (b * 2 ^ w) =
        ap (shifted w) (reduce-small w g b (lt_of_lt_of_le h (pow_mono some))) ∙ shifted-digit b h ∙ sym (reduce_top w g b h) in
        ap (λ (z : ℕ). shifted w (reduce w g z)) (sym (xor_shifted r 1 b h))
        ∙ ap (shifted w) (reduce_xor w g (r * 2) b)
        ∙ shifted-xor w (reduce w g (r * 2)) (reduce w g b)
        ∙ ap₂ bit_xor (shifted-twice w r) alone
        ∙ sym (reduce_xor w g (shifted w r * 2) (b * 2 ^ w))

    divide-fed : (r : ℕ) (a : List ℕ) → AreBits a → divide_on w g r (a ++ replicate w 0) ≡ fed w g (shifted w r) a
    unfolding shifted divide_on fed
    divide-fed r [] h = refl
    divide-fed r (b ∷ a) h =
        divide-fed (reduce w g (r * 2 + b)) a (λ k. h (suc k)) ∙ ap (λ (z : ℕ). fed w g z a) (shifted_step r b (h 0))

    -- the register's fold is the checksum
    pub checksum-fed : (a : List ℕ) → AreBits a → checksum w g a ≡ fed w g 0 a
    unfolding checksum remainder
    checksum-fed a h = divide-fed 0 a h ∙ ap (λ (z : ℕ). fed w g z a) (shifted-zero w)

  -- "the checksum of an empty input is 0"
  pub checksum-empty : checksum w g [] ≡ 0
  unfolding checksum remainder shifted
  checksum-empty = shifted-zero w

  -- ---- the register stays within its width

  pub stepped_lt : (r b : ℕ) → g < 2 ^ w → stepped w g r b < 2 ^ w
  unfolding stepped
  stepped_lt r b h = reduce_lt w g (bit_xor (r * 2) (b * 2 ^ w)) h

  pub fed_lt : (r : ℕ) (a : List ℕ) → g < 2 ^ w → r < 2 ^ w → fed w g r a < 2 ^ w
  unfolding fed
  fed_lt r [] hg hr = hr
  fed_lt r (b ∷ a) hg hr = fed_lt (stepped w g r b) a hg (stepped_lt r b hg)

  -- ---- loops that feed it: the bits left from i on, the octets left from i on

  pub fed-append : (r : ℕ) (a b : List ℕ) → fed w g r (a ++ b) ≡ fed w g (fed w g r a) b
  unfolding fed
  fed-append r [] b = refl
  fed-append r (x ∷ a) b = fed-append (stepped w g r x) a b

  pub bit_turn : (r i : ℕ) (s : List ℕ) → i < length s → fed w g r (drop i s) ≡ fed w g (stepped w g r (get_or s i 0)) (drop (i + 1) s)
  unfolding fed
  bit_turn r i s h = rw (add-one, drop-cons s i 0)

  pub bit_end : (r i : ℕ) (s : List ℕ) → length s ≤ i → fed w g r (drop i s) ≡ r
  unfolding fed
  bit_end r i s h = rw (drop_of_length-le s h)

  pub octet_turn : (r i : ℕ) (s : List ℕ) → i < length s
      → fed w g r (unpacked (drop i s)) ≡ fed w g (fed w g r (digits 8 (get_or s i 0))) (unpacked (drop (i + 1) s))
  unfolding unpacked
  octet_turn r i s h = rw (add-one, drop-cons s i 0) (fed-append r (digits 8 (get_or s i 0)) (unpacked (drop (suc i) s)))

  pub octet_end : (r i : ℕ) (s : List ℕ) → length s ≤ i → fed w g r (unpacked (drop i s)) ≡ r
  unfolding fed unpacked
  octet_end r i s h = rw (drop_of_length-le s h)
