-- What the two calls promise, for all octets: the whole answer, the rule that is broken first and where; 0 is told of what is accepted and of nothing else;
-- and the octet where is one of the shelf's or the record's, or its end.
use Rattle.std.specs.Prelude.{◌≡◌, Bool, List, ℕ, ◌≤◌, eqb, length}
use Rattle.shelf.specs.Shelf.{well_formed}
use Rattle.profile.specs.Promises.{judged}
use Rattle.rules.specs.declared.Broken.{Broken}
use Rattle.rules.specs.declared.Wrong.{Wrong}
use Rattle.rules.specs.Rules.{shelf_rule, record_rule, number_of}
use Rattle.rules.specs.Places.{shelf_broken, record_wrong}

pub record ShelfRule (private : Bool) (S : List ℕ) (r : Broken) : Type 0 where
  pub whole : r ≡ shelf_broken private S
  pub first : r.rule ≡ shelf_rule private S
  pub formed : eqb r.rule 0 ≡ well_formed private S
  pub inside : r.at ≤ length S

-- 0 exactly where the record is judged 0, 1 to 15 where it is judged 5, and 16 to 24 where it is judged 6
pub record RecordRule (R : List ℕ) (r : Wrong) : Type 0 where
  pub whole : r ≡ record_wrong R
  pub first : r.rule ≡ record_rule R
  pub number : judged R ≡ number_of r.rule
  pub known : r.rule ≤ 24
  pub inside : r.at ≤ length R
