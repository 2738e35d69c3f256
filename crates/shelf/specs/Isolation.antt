-- What isolation speaks of (demand 2): "A tenant is served from its own private records or the public shelf. Two well-formed private shelves that
-- agree on that tenant's records give it the same answers and bits".
use Rattle.std.specs.Prelude.{◌≡◌, true, List, ℕ, ◌<◌}
use Rattle.shelf.specs.Shelf.{count, tenant, profile, record_at, private_shelf}
use Rattle.shelf.specs.Lookup.{has, record_of}

-- R is the record of an entry of the private shelf whose tenant is t and whose profile number is p
pub record Own (private : List ℕ) (t p : ℕ) (R : List ℕ) : Type 0 where
  pub entry : ℕ
  pub below : entry < count private
  pub owner : tenant private entry ≡ t
  pub number : profile private entry ≡ p
  pub octets : R ≡ record_at private entry

-- the private shelf has none, and R is the record of an entry of the public shelf whose tenant is 0 and whose profile number is p
pub record Public (private public : List ℕ) (t p : ℕ) (R : List ℕ) : Type 0 where
  pub none : (k : ℕ) → k < count private → tenant private k ≡ t → profile private k ≡ p → ⊥
  pub entry : ℕ
  pub below : entry < count public
  pub owner : tenant public entry ≡ 0
  pub number : profile public entry ≡ p
  pub octets : R ≡ record_at public entry

-- both have the same profile numbers for tenant t, and the same record for each
pub record AgreeFor (t : ℕ) (S S' : List ℕ) : Type 0 where
  pub numbers : (p : ℕ) → has S t p ≡ has S' t p
  pub records : (p : ℕ) → has S t p ≡ true → record_of S t p ≡ record_of S' t p

-- more than the demand asks: both are well formed, or neither is, and they agree
pub record AlikeFor (t : ℕ) (S S' : List ℕ) : Type 0 where
  pub formed : private_shelf S ≡ private_shelf S'
  pub agree : AgreeFor t S S'
