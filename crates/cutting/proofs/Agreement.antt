-- The promise agrees: two plans that meet it for the same input are equal.
use mathlib.Core.Path.{◌≡◌, sym, ◌∙◌}
use mathlib.Core.List.{List}
use Prim.Native.Nat.{ℕ}
use Rattle.cutting.specs.Promises.{planned}
use Rattle.cutting.specs.declared.Planned.{Planned}

pub planned-agree : (R : List ℕ) (ed octets : ℕ) {p q : Planned} → p ≡ planned R ed octets → q ≡ planned R ed octets → p ≡ q
planned-agree R ed octets a b = a ∙ sym b
