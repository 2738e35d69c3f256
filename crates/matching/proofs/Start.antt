-- Where the start of a type and a redundancy version lies.
use mathlib.Core.Path.{◌≡◌, ap, ◌∙◌}
use mathlib.Core.Bool.{false, ◌&&◌}
use mathlib.Core.List.{List, ◌++◌}
use Prim.Native.Nat.{ℕ, ◌*◌, ◌/◌, ◌≤◌}
use native.Mathlib.Nat.{mul-le-mul}
use native.Mathlib.Omega.{arith}
use borrow.Author.Tests.{eq-eqb, ne_eqb, ltb-false}
use lib.Dec.{eqb, ltb}
use lib.ListN.{length}
use Rattle.bits.proofs.Ranges.{equal_or, neither}
use Rattle.matching.specs.Matching.{matched, turned, start_of, matched_from, misversioned}

-- a version that the type may have is at most 3
pub versioned : (kind rv : ℕ) → misversioned kind rv ≡ false → rv ≤ 3
unfolding misversioned
versioned kind rv e = ltb-false 3 rv (neither (ltb 3 rv) (eqb kind 1 && ltb 0 rv) e).0

pub start_low : (rv d : ℕ) → rv ≤ 3 → d / 4 * rv ≤ d
start_low rv d h =
    let same : d / 4 ≤ d / 4 = omega arith in
    omega (arith, mul-le-mul same h)

pub start_two : (kind rv d : ℕ) → kind ≡ 2 → d / 4 * rv ≡ start_of kind rv d
unfolding start_of
start_two kind rv d e = rw (eq-eqb kind 2 e)

pub start_one : (kind rv d : ℕ) → (kind ≡ 2 → ⊥) → 0 ≡ start_of kind rv d
unfolding start_of
start_one kind rv d n = rw (ne_eqb kind 2 n)

pub start_within : (kind rv d : ℕ) → rv ≤ 3 → start_of kind rv d ≤ d
start_within kind rv d h =
    equal_or kind 2 (λ e. omega (arith, start_two kind rv d e, start_low rv d h)) (λ n. omega (arith, start_one kind rv d n))

pub matched-from : (kind rv start e : ℕ) (s rest out : List ℕ) → start ≡ start_of kind rv (length s) → out ≡ matched (turned start s) e ++ rest
    → out ≡ matched_from kind rv s e ++ rest
unfolding matched_from
matched-from kind rv start e s rest out q h = h ∙ ap (λ (x : ℕ). matched (turned x s) e ++ rest) q
