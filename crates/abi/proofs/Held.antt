-- Numbers that two octets hold, and promises about others.
use mathlib.Core.Path.{◌≡◌, sym, ◌∙◌}
use mathlib.Core.Bool.{true, false, true≢false}
use Prim.Native.Nat.{ℕ, ◌≤◌}
use lib.Dec.{ltb}
use borrow.Author.Tests.{ltb-false}
use Rattle.bits.proofs.Ranges.{neither}
use Rattle.abi.specs.Promises.{too_large, Held}

pub small-numbers : (t p : ℕ) → too_large t p ≡ false → (t ≤ 65535) × (p ≤ 65535)
unfolding too_large
small-numbers t p e =
    let n = neither (ltb 65535 t) (ltb 65535 p) e in
    (ltb-false 65535 t n.0, ltb-false 65535 p n.1)

pub held-large : {t p : ℕ} {refused promised : Type 0} → too_large t p ≡ true → refused → Held t p refused promised
held-large e r = record { large = λ _. r; small = λ f. absurd (true≢false (sym e ∙ f)) }

pub held_small : {t p : ℕ} {refused promised : Type 0} → too_large t p ≡ false → promised → Held t p refused promised
held_small e r = record { large = λ f. absurd (true≢false (sym f ∙ e)); small = λ _. r }
