-- The promises agree: two answers that meet one for the same octets are equal.
use mathlib.Core.Path.{◌≡◌, sym, ◌∙◌}
use mathlib.Core.Bool.{Bool}
use mathlib.Core.List.{List}
use Prim.Native.Nat.{ℕ}
use Rattle.rules.specs.declared.Broken.{Broken}
use Rattle.rules.specs.declared.Wrong.{Wrong}
use Rattle.rules.specs.Promises.{ShelfRule, RecordRule}

pub shelf_rule_agree : {private : Bool} {S : List ℕ} {r r' : Broken} → ShelfRule private S r → ShelfRule private S r' → r ≡ r'
shelf_rule_agree a b = a.whole ∙ sym b.whole

pub record_rule_agree : {R : List ℕ} {r r' : Wrong} → RecordRule R r → RecordRule R r' → r ≡ r'
record_rule_agree a b = a.whole ∙ sym b.whole
