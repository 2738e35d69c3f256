-- What terms that can be counted with are known to be.
use mathlib.Core.Path.{◌≡◌, refl}
use mathlib.Core.Bool.{Bool, true, false, ◌||◌}
use Prim.Native.Nat.{ℕ, ◌≤◌}
use native.Mathlib.Nat.{mul-le-mul}
use native.Mathlib.Omega.{arith}
use borrow.Author.Tests.{eqb-true}
use lib.Dec.{eqb}
use Rattle.bits.specs.Counts.{usable, place_bits}
use Rattle.bits.specs.Ranges.{within}
use Rattle.bits.specs.declared.count.Terms.{Terms}
use Rattle.bits.specs.Steps.Counting.{Usable}
use Rattle.bits.proofs.Ranges.{both, within-is}

order_bounds : (qm : ℕ) → eqb qm 2 || eqb qm 4 || eqb qm 6 ≡ true → (2 ≤ qm) × (qm ≤ 6)
order_bounds qm e = by_tests (eqb qm 2) (eqb qm 4) (eqb qm 6) refl refl refl e
  where
    by_tests : (a b c : Bool) → eqb qm 2 ≡ a → eqb qm 4 ≡ b → eqb qm 6 ≡ c → a || b || c ≡ true → (2 ≤ qm) × (qm ≤ 6)
    by_tests true b c p q r e = (omega (arith, eqb-true qm 2 p), omega (arith, eqb-true qm 2 p))
    by_tests false true c p q r e = (omega (arith, eqb-true qm 4 q), omega (arith, eqb-true qm 4 q))
    by_tests false false true p q r e = (omega (arith, eqb-true qm 6 r), omega (arith, eqb-true qm 6 r))
    by_tests false false false p q r e = absurd (let y : ◌≡◌ {A = ℕ} 0 1 = cc in omega arith)

pub usable-is : (terms : Terms) → usable terms ≡ true → Usable terms
unfolding usable place_bits
usable-is terms e =
    let qm = terms.qm in
    let parts = both (within 1 4 terms.nl) (eqb qm 2 || eqb qm 4 || eqb qm 6) e in
    let layers = within-is 1 4 terms.nl parts.0 in
    let order = order_bounds qm parts.1 in
    record {
      layers = layers.1;
      order = order.1;
      some = omega (arith, mul-le-mul layers.0 order.0);
      most = mul-le-mul {n₁ = terms.nl} {n₂ = 4} layers.1 order.1;
    }
