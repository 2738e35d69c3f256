-- An answer of a call that writes is its number and its count.
use mathlib.Core.Path.{◌≡◌, ap₂}
use Prim.Native.Nat.{ℕ}
use Rattle.bits.specs.declared.number.Written.{Written}

abbrev written : ℕ → ℕ → Written
written number count = record { number = number; count = count }

pub same-written : (a b : Written) → a.number ≡ b.number → a.count ≡ b.count → a ≡ b
same-written a b p q = ap₂ written p q
