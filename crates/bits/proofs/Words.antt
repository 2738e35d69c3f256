-- Four and eight bits at a time: an octet by its two halves, the table that has their bits, and eight bits folded into an octet.
use mathlib.Core.Path.{◌≡◌, refl, sym, ap, ap₂, ◌∙◌, subst}
use mathlib.Core.Bool.{Bool, ◌&&◌}
use mathlib.Core.List.{List, [], ◌∷◌, ◌++◌}
use Prim.Native.Nat.{ℕ, zero, suc, ◌+◌, ◌*◌, ◌/◌, ◌%◌, ◌^◌, ◌≤◌, ◌<◌}
use native.Mathlib.Nat.{zero-add, add-zero, suc-add, add_comm}
use native.Mathlib.Numerals.{add-one}
use native.Mathlib.Omega.{arith}
use lib.Bits.{bit_or, mask_lt}
use lib.Dec.{T, eqb, eqb→eq, lit<}
use lib.Ieee.Fits.{and_l, and_r}
use lib.ListN.{length, get_or, take, drop, set}
use lib.Pow.{shr-shr}
use lib.Seq.{get_or-take, get_or-drop, sets}
use Rattle.bits.specs.Bits.{AreBits, digits, read_on, value_of}
use Rattle.bits.specs.Steps.Words.{Fours, over, folded}
use Rattle.bits.proofs.Lists.{length_part, sets-append}
use Rattle.bits.proofs.Digits.{length_digits, digits_low}
use Rattle.bits.proofs.Tables.{every_entry, at_entry}

-- ---- the digits of a number, the high ones apart from the low ones

digits_append : (m n x : ℕ) → digits (m + n) x ≡ digits m (x / 2 ^ n) ++ digits n x
unfolding digits
digits_append zero n x = ap (λ (k : ℕ). digits k x) (zero-add n)
digits_append (suc m) n x =
    ap (λ (k : ℕ). digits k x) (suc-add m n)
    ∙ ap₂ (λ (y : ℕ) (z : List ℕ). y ∷ z) (ap (λ (y : ℕ). y % 2) (ap (λ (k : ℕ). x / 2 ^ k) (add_comm m n) ∙ sym (shr-shr x n m))) (digits_append m n x)

-- an octet is written by its two halves
pub halves : (out : List ℕ) (at x : ℕ) → sets out at (digits 8 x) ≡ sets (sets out at (digits 4 (x / 16))) (at + 4) (digits 4 (x % 16))
halves out at x =
    ap (sets out at) (digits_append 4 4 x)
    ∙ sets-append out at (digits 4 (x / 16)) (digits 4 x)
    ∙ ap₂ (λ (k : ℕ) (p : List ℕ). sets (sets out at (digits 4 (x / 16))) (at + k) p) (length_digits 4 (x / 16)) (sym (digits_low 4 x))

-- four digits, written one after the other
pub four-set : (out : List ℕ) (at n a b c d : ℕ) → a ≡ get_or (digits 4 n) 0 0 → b ≡ get_or (digits 4 n) 1 0 → c ≡ get_or (digits 4 n) 2 0 → d ≡ get_or (digits 4 n) 3 0
    → set (set (set (set out at a) (at + 1) b) (at + 2) c) (at + 3) d ≡ sets out at (digits 4 n)
unfolding digits
four-set out at n a b c d p q r s =
    let two : at + 2 ≡ suc (suc at) = omega arith in
    let three : at + 3 ≡ suc (suc (suc at)) = omega arith in
    rw (p, q, r, s, add-one at, two, three) refl

-- ---- the table, from one test of its entries

abbrev pub fours_hold : List ℕ → Bool
fours_hold t = eqb (length t) 64 && every_entry (λ p x. eqb x (get_or (digits 4 (p / 4)) (p % 4) 0)) 0 t

pub fours_by_test : (t : List ℕ) → T (fours_hold t) → Fours t
fours_by_test t test =
    let every = every_entry (λ p x. eqb x (get_or (digits 4 (p / 4)) (p % 4) 0)) 0 t in
    let size : length t ≡ 64 = eqb→eq (length t) 64 (and_l (eqb (length t) 64) every test) in
    record {
      size = size;
      at = λ n k hn hk.
          let p = 4 * n + k in
          eqb→eq (get_or t p 0) (get_or (digits 4 (p / 4)) (p % 4) 0)
          (at_entry (λ p x. eqb x (get_or (digits 4 (p / 4)) (p % 4) 0)) t (and_r (eqb (length t) 64) every test) p (omega (arith, size)))
          ∙ ap₂ (λ (y z : ℕ). get_or (digits 4 y) z 0) (omega arith) (omega arith);
    }

-- ---- eight bits that stand an octet apart, from one test of all that they can be

abbrev every_bit : (ℕ → Bool) → Bool
every_bit f = f 0 && f 1

at-bit : (f : ℕ → Bool) → T (every_bit f) → (b : ℕ) → b < 2 → T (f b)
at-bit f t zero h = and_l (f 0) (f 1) t
at-bit f t (suc zero) h = and_r (f 0) (f 1) t
at-bit f t (suc (suc b)) h = absurd (omega arith)

pub folded_lt : (v : ℕ) → folded v < 256
unfolding folded
folded_lt v = mask_lt (over 28 (over 14 (over 7 v))) 8

-- as they are shifted into a word of 64 bits
abbrev pub apart : ℕ → ℕ → ℕ → ℕ → ℕ → ℕ → ℕ → ℕ → ℕ
apart a b c d e f g h =
    bit_or (bit_or (bit_or (bit_or (bit_or (bit_or (bit_or
    (a * 2 ^ 56 % 2 ^ 64)
    (b * 2 ^ 48 % 2 ^ 64))
    (c * 2 ^ 40 % 2 ^ 64))
    (d * 2 ^ 32 % 2 ^ 64))
    (e * 2 ^ 24 % 2 ^ 64))
    (f * 2 ^ 16 % 2 ^ 64))
    (g * 2 ^ 8 % 2 ^ 64))
    h

abbrev fold_holds : ℕ → ℕ → ℕ → ℕ → ℕ → ℕ → ℕ → ℕ → Bool
fold_holds a b c d e f g h = eqb (folded (apart a b c d e f g h)) (value_of (a ∷ b ∷ c ∷ d ∷ e ∷ f ∷ g ∷ h ∷ []))

abbrev all_fold : Bool
all_fold =
    every_bit (λ a. every_bit (λ b. every_bit (λ c. every_bit (λ d. every_bit (λ e. every_bit (λ f. every_bit (λ g. every_bit (λ h. fold_holds a b c d e f g h))))))))

all-fold : T all_fold
unfolding folded over value_of read_on
all-fold = tt

fold_bits : (a b c d e f g h : ℕ) → a < 2 → b < 2 → c < 2 → d < 2 → e < 2 → f < 2 → g < 2 → h < 2
    → folded (apart a b c d e f g h) ≡ value_of (a ∷ b ∷ c ∷ d ∷ e ∷ f ∷ g ∷ h ∷ [])
fold_bits a b c d e f g h a< b< c< d< e< f< g< h< =
    eqb→eq (folded (apart a b c d e f g h)) (value_of (a ∷ b ∷ c ∷ d ∷ e ∷ f ∷ g ∷ h ∷ []))
    (at-bit (λ h. fold_holds a b c d e f g h)
    (at-bit (λ g. every_bit (λ h. fold_holds a b c d e f g h))
    (at-bit (λ f. every_bit (λ g. every_bit (λ h. fold_holds a b c d e f g h)))
    (at-bit (λ e. every_bit (λ f. every_bit (λ g. every_bit (λ h. fold_holds a b c d e f g h))))
    (at-bit (λ d. every_bit (λ e. every_bit (λ f. every_bit (λ g. every_bit (λ h. fold_holds a b c d e f g h)))))
    (at-bit (λ c. every_bit (λ d. every_bit (λ e. every_bit (λ f. every_bit (λ g. every_bit (λ h. fold_holds a b c d e f g h))))))
    (at-bit (λ b. every_bit (λ c. every_bit (λ d. every_bit (λ e. every_bit (λ f. every_bit (λ g. every_bit (λ h. fold_holds a b c d e f g h)))))))
    (at-bit (λ a. every_bit (λ b. every_bit (λ c. every_bit (λ d. every_bit (λ e. every_bit (λ f. every_bit (λ g. every_bit (λ h. fold_holds a b c d e f g h)))))))) all-fold a a<) b b<) c c<) d d<) e e<) f f<) g g<) h h<)

-- a list of eight, place by place
eight : (p : List ℕ) → length p ≡ 8 → p ≡ get_or p 0 0 ∷ get_or p 1 0 ∷ get_or p 2 0 ∷ get_or p 3 0 ∷ get_or p 4 0 ∷ get_or p 5 0 ∷ get_or p 6 0 ∷ get_or p 7 0 ∷ []
eight [] l = absurd (omega arith)
eight (a ∷ []) l = absurd (omega arith)
eight (a ∷ b ∷ []) l = absurd (omega arith)
eight (a ∷ b ∷ c ∷ []) l = absurd (omega arith)
eight (a ∷ b ∷ c ∷ d ∷ []) l = absurd (omega arith)
eight (a ∷ b ∷ c ∷ d ∷ e ∷ []) l = absurd (omega arith)
eight (a ∷ b ∷ c ∷ d ∷ e ∷ f ∷ []) l = absurd (omega arith)
eight (a ∷ b ∷ c ∷ d ∷ e ∷ f ∷ g ∷ []) l = absurd (omega arith)
eight (a ∷ b ∷ c ∷ d ∷ e ∷ f ∷ g ∷ h ∷ []) l = refl
eight (a ∷ b ∷ c ∷ d ∷ e ∷ f ∷ g ∷ h ∷ i ∷ p) l = absurd (omega arith)

module _ (s : List ℕ) (at : ℕ) (bits : AreBits s) (room : at + 8 ≤ length s) where
  part_at : (k : ℕ) → k < 8 → get_or (take 8 (drop at s)) k 0 ≡ get_or s (at + k) 0
  part_at k h = get_or-take 8 (drop at s) k 0 h ∙ get_or-drop at s k 0

  pub octet_folded : (a b c d e f g h : ℕ) → a ≡ get_or s at 0 → b ≡ get_or s (at + 1) 0 → c ≡ get_or s (at + 2) 0 → d ≡ get_or s (at + 3) 0
      → e ≡ get_or s (at + 4) 0 → f ≡ get_or s (at + 5) 0 → g ≡ get_or s (at + 6) 0 → h ≡ get_or s (at + 7) 0
      → folded (apart a b c d e f g h) ≡ value_of (take 8 (drop at s))
  octet_folded a b c d e f g h p0 p1 p2 p3 p4 p5 p6 p7 =
      fold_bits a b c d e f g h (low a at p0) (low b (at + 1) p1) (low c (at + 2) p2) (low d (at + 3) p3) (low e (at + 4) p4) (low f (at + 5) p5) (low g (at + 6) p6) (low h (at + 7) p7)
      ∙ ap value_of (rw (p0, p1, p2, p3, p4, p5, p6, p7) (sym listed))
    where
      low : (x k : ℕ) → x ≡ get_or s k 0 → x < 2
      low x k q = subst (λ (y : ℕ). y < 2) (sym q) (bits k)

      listed : take 8 (drop at s)
          ≡ get_or s at 0 ∷ get_or s (at + 1) 0 ∷ get_or s (at + 2) 0 ∷ get_or s (at + 3) 0 ∷ get_or s (at + 4) 0 ∷ get_or s (at + 5) 0 ∷ get_or s (at + 6) 0 ∷ get_or s (at + 7) 0 ∷ []
      listed =
          eight (take 8 (drop at s)) (length_part 8 at s room)
          ∙ rw (part_at 0 (lit< tt), part_at 1 (lit< tt), part_at 2 (lit< tt), part_at 3 (lit< tt), part_at 4 (lit< tt), part_at 5 (lit< tt), part_at 6 (lit< tt), part_at 7 (lit< tt), add-zero at) refl
