use mathlib.Core.Path.{◌≡◌, ap}
use Prim.Native.Nat.{ℕ, ◌/◌}
use native.Mathlib.Omega.{arith}
use Rattle.bits.specs.Counts.{ceil, symbol_places_for}
use Rattle.bits.specs.declared.count.SymbolPlaces.{SymbolPlaces}
use Rattle.bits.proofs.count.inner.symbol_places_for.Goals as goal

-- a quotient is decided by what is divided, however it is written
quotient : (a b k k' : ℕ) → a ≡ b → k ≡ k' → a / k ≡ b / k'
quotient a b k k' e f = cc

abbrev places : ℕ → SymbolPlaces
places n = record { 0 = n }

pub returns : goal.returns
unfolding ceil symbol_places_for
returns c = ap places (quotient _ _ _ _ (omega arith) (cc))
