-- What the walks over a shelf's entries promise each other.
use Rattle.std.specs.Prelude.{◌≡◌, Bool, true, false, Option, Some, None, List, ℕ, ◌+◌, ◌*◌, ◌≤◌, ◌<◌, length}
use Rattle.bits.specs.Numbers.{answered}
use Rattle.bits.specs.Ranges.{all_below}
use Rattle.shelf.specs.Shelf.{count}
use Rattle.rules.specs.declared.Broken.{Broken}
use Rattle.rules.specs.Rules.{first_not, entry_rules, end_rules}
use Rattle.rules.specs.Places.{shelf_entry, shelf_at}

-- the first of 0 .. n − 1 at which p does not hold, where there is one
abbrev pub FirstNot : ℕ → (ℕ → Bool) → Option ℕ → Type 0
FirstNot n p (Some k) = (k < n) × (k ≡ first_not n p)
FirstNot n p None = all_below n p ≡ true

-- what is found at one number, where b says that nothing is
abbrev pub TestWith : {X : Type 0} → Bool → (X → Type 0) → Option X → Type 0
TestWith b Q (Some x) = (b ≡ false) × Q x
TestWith b Q None = b ≡ true

-- what is found at the first of 0 .. n − 1 at which p does not hold, where there is one
abbrev pub FirstWith : {X : Type 0} → ℕ → (ℕ → Bool) → (ℕ → X → Type 0) → Option (ℕ × X) → Type 0
FirstWith n p Q (Some r) = (r.0 < n) × (r.0 ≡ first_not n p) × Q r.0 r.1
FirstWith n p Q None = all_below n p ≡ true

-- the first of 0 .. n − 1 that answers something, with what it answers
pub record FoundFirst {X : Type 0} (answers : ℕ → Option X → Type 0) (n : ℕ) (r : Option (ℕ × X)) : Type 0 where
  pub some : (k : ℕ) (x : X) → r ≡ Some (k, x) → (k < n) × answers k (Some x) × ((j : ℕ) → j < k → answers j None)
  pub none : r ≡ None → (j : ℕ) → j < n → answers j None

-- n is the count, and right, and the entries stand in the shelf
pub record Counted (S : List ℕ) (n : ℕ) : Type 0 where
  pub same : n ≡ count S
  pub few : n ≤ 64
  pub room : 2 + 8 * n ≤ length S

-- the first broken rule of those behind the count's, and of the last three, and where it is broken
pub record EntryRule (private : Bool) (S : List ℕ) (r : Broken) : Type 0 where
  pub first : r.rule ≡ answered (entry_rules private S)
  pub entry_is : r.entry ≡ shelf_entry private S r.rule
  pub at_is : r.at ≡ shelf_at private S r.rule
  pub inside : r.at ≤ length S

pub record EndRule (private : Bool) (S : List ℕ) (r : Broken) : Type 0 where
  pub first : r.rule ≡ answered (end_rules private S)
  pub entry_is : r.entry ≡ shelf_entry private S r.rule
  pub at_is : r.at ≡ shelf_at private S r.rule
  pub inside : r.at ≤ length S
