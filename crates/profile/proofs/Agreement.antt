-- The promises agree: two answers that meet one for the same input are equal.
use mathlib.Core.Path.{◌≡◌, sym, ◌∙◌}
use mathlib.Core.List.{List}
use Prim.Native.Nat.{ℕ}
use Rattle.profile.specs.Promises.{judged}

pub judge-agree : (R : List ℕ) {n k : ℕ} → n ≡ judged R → k ≡ judged R → n ≡ k
judge-agree R a b = a ∙ sym b
