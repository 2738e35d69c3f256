-- What a step costs: three bits in an octet, and the registers whose outputs are turned round.
use mathlib.Core.Path.{◌≡◌, refl, ap, ◌∙◌}
use mathlib.Core.Bool.{Bool, true, ◌&&◌}
use mathlib.Core.List.{List}
use Prim.Native.Nat.{ℕ, ◌+◌, ◌-◌, ◌*◌, ◌/◌, ◌%◌, ◌≤◌, ◌<◌}
use native.Mathlib.Omega.{arith}
use borrow.Author.Tests.{eqb-true}
use lib.Bits.{bit_xor}
use lib.Count.{ones, ones_in}
use lib.Dec.{eqb}
use lib.ListN.{get_or}
use Rattle.bits.specs.Bits.{AreBits}
use Rattle.bits.specs.Ranges.{all_below}
use Rattle.bits.proofs.Ranges.{both, all-at, below_or}
use Rattle.control.specs.Register.{output}
use Rattle.nearest.specs.Nearest.{unlike}
use Rattle.nearest.specs.Steps.Trellis.{three_of, heard_at, price, cost}
use Rattle.nearest.specs.Steps.Rows.{Heard}

-- what three bits differ in, by digits
unfoldable by_digits : ℕ → ℕ → ℕ
by_digits x y = unlike (x / 4) (y / 4) + unlike (x / 2 % 2) (y / 2 % 2) + unlike (x % 2) (y % 2)

-- two tests of each pair, computed: three bits differ as their digits do, and turned round in the rest of three
all-pairs : all_below 8 (λ x. all_below 8 (λ y. eqb (ones (bit_xor x y)) (by_digits x y) && eqb (ones (bit_xor (7 - x) y) + ones (bit_xor x y)) 3)) ≡ true
unfolding all_below ones ones_in unlike by_digits
all-pairs = refl

at_pair : (x y : ℕ) → x < 8 → y < 8 → (ones (bit_xor x y) ≡ by_digits x y) × (ones (bit_xor (7 - x) y) + ones (bit_xor x y) ≡ 3)
at_pair x y hx hy =
    let p : ℕ → ℕ → Bool = λ x y. eqb (ones (bit_xor x y)) (by_digits x y) && eqb (ones (bit_xor (7 - x) y) + ones (bit_xor x y)) 3 in
    let two = both (eqb (ones (bit_xor x y)) (by_digits x y)) (eqb (ones (bit_xor (7 - x) y) + ones (bit_xor x y)) 3)
    (all-at 8 (p x) (all-at 8 (λ x. all_below 8 (p x)) all-pairs x hx) y hy) in
    (eqb-true (ones (bit_xor x y)) (by_digits x y) two.0, eqb-true (ones (bit_xor (7 - x) y) + ones (bit_xor x y)) 3 two.1)

three-apart : (a b c x y z : ℕ) → a < 2 → b < 2 → c < 2 → x < 2 → y < 2 → z < 2
    → ones (bit_xor (a * 4 + b * 2 + c) (x * 4 + y * 2 + z)) ≡ unlike a x + unlike b y + unlike c z
unfolding by_digits
three-apart a b c x y z ha hb hc hx hy hz =
    let a-is : (a * 4 + b * 2 + c) / 4 ≡ a = omega arith in
    let b-is : (a * 4 + b * 2 + c) / 2 % 2 ≡ b = omega arith in
    let c-is : (a * 4 + b * 2 + c) % 2 ≡ c = omega arith in
    let x_is : (x * 4 + y * 2 + z) / 4 ≡ x = omega arith in
    let y-is : (x * 4 + y * 2 + z) / 2 % 2 ≡ y = omega arith in
    let z_is : (x * 4 + y * 2 + z) % 2 ≡ z = omega arith in
    rw (a-is, b-is, c-is, x_is, y-is, z_is) at (at_pair (a * 4 + b * 2 + c) (x * 4 + y * 2 + z) (omega arith) (omega arith)).0

output-bit : (g r : ℕ) → output g r < 2
unfolding output
output-bit g r = omega arith

pub is-bit : (x g r : ℕ) → x ≡ output g r → x < 2
is-bit x g r e = omega (arith, output-bit g r)

pub three_lt : (r : ℕ) → three_of r < 8
unfolding three_of
three_lt r = omega (arith, output-bit 0o133 r, output-bit 0o171 r, output-bit 0o165 r)

pub heard_lt : (D : ℕ) (heard : List ℕ) (k : ℕ) → AreBits heard → heard_at D heard k < 8
unfolding heard_at
heard_lt D heard k h = omega (arith, h k, h (D + k), h (D + D + k))

-- three places of what was heard are those of step k
pub heard-three : (D : ℕ) (heard : List ℕ) (k i j l : ℕ) → i ≡ k → j ≡ D + k → l ≡ D + D + k
    → get_or heard i 0 * 4 + get_or heard j 0 * 2 + get_or heard l 0 ≡ heard_at D heard k
unfolding heard_at
heard-three D heard k i j l a b c = rw (a, b, c)

-- what a step costs, stream by stream
pub cost_is : (D : ℕ) (heard T : List ℕ) (k r : ℕ) → AreBits heard → Heard D heard D T → k < D
    → cost T k r ≡ unlike (output 0o133 r) (get_or heard k 0) + unlike (output 0o171 r) (get_or heard (D + k) 0) + unlike (output 0o165 r) (get_or heard (D + D + k) 0)
unfolding three_of heard_at price cost
cost_is D heard T k r h t l =
    ap (λ (x : ℕ). ones (bit_xor (output 0o133 r * 4 + output 0o171 r * 2 + output 0o165 r) x)) (t.at k l)
    ∙ three-apart (output 0o133 r) (output 0o171 r) (output 0o165 r) (get_or heard k 0) (get_or heard (D + k) 0) (get_or heard (D + D + k) 0)
    (output-bit 0o133 r) (output-bit 0o171 r) (output-bit 0o165 r) (h k) (h (D + k)) (h (D + D + k))

-- three bits, or none, at every step
pub heard-low : (D : ℕ) (heard T : List ℕ) → AreBits heard → Heard D heard D T → (k : ℕ) → get_or T k 0 < 8
heard-low D heard T h t k = below_or k D (λ l. omega (arith, t.at k l, heard_lt D heard k h)) (λ l. omega (arith, t.behind k l))

-- ---- the newest and the oldest bit turn all outputs round, computed for each register

turned : all_below 64 (λ s. eqb (three_of (64 + s)) (7 - three_of s)) ≡ true
unfolding all_below ones ones_in output three_of
turned = refl

turned_odd : all_below 32 (λ j. eqb (three_of (2 * j + 1)) (7 - three_of (2 * j))) ≡ true
unfolding all_below ones ones_in output three_of
turned_odd = refl

pub price-rest : (h r q : ℕ) → h < 8 → three_of q ≡ 7 - three_of r → price h q + price h r ≡ 3
unfolding price
price-rest h r q l e = ap (λ (x : ℕ). ones (bit_xor x h) + ones (bit_xor (three_of r) h)) e ∙ (at_pair (three_of r) h (three_lt r) l).1

-- the bit 1 costs the rest of three
pub price-one : (h s : ℕ) → h < 8 → s < 64 → price h (64 + s) + price h s ≡ 3
price-one h s l m = price-rest h s (64 + s) l (eqb-true (three_of (64 + s)) (7 - three_of s) (all-at 64 _ turned s m))

-- and so does the state after an even one
pub price_odd : (h j : ℕ) → h < 8 → j < 32 → price h (2 * j + 1) + price h (2 * j) ≡ 3
price_odd h j l m = price-rest h (2 * j) (2 * j + 1) l (eqb-true (three_of (2 * j + 1)) (7 - three_of (2 * j)) (all-at 32 _ turned_odd j m))

pub price-most : (h r : ℕ) → h < 8 → price h r ≤ 3
unfolding price
price-most h r l = omega (arith, (at_pair (three_of r) h (three_lt r) l).1)

pub cost-most : (T : List ℕ) → ((k : ℕ) → get_or T k 0 < 8) → (k r : ℕ) → cost T k r ≤ 3
unfolding cost
cost-most T low k r = price-most (get_or T k 0) r (low k)
