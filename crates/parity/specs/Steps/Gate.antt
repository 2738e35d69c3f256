-- What is known of a block of places that is coded.
use Rattle.std.specs.Prelude.{◌≡◌, true, List, ℕ, ◌*◌, eqb, length}
use Rattle.bits.specs.Ranges.{first_below}
use Rattle.profile.specs.Record.{kb, t, z}
use Rattle.profile.specs.Promises.{judged}
use Rattle.parity.specs.Promises.{has_size}

-- which of its sizes z' is, and t where it is none
abbrev pub size_at : List ℕ → ℕ → ℕ
size_at R z' = first_below (t R) (λ i. eqb (z R i) z')

-- the profile is accepted, z' is one of its sizes, and the places are as many as it says
pub record Taken (R : List ℕ) (z' : ℕ) (places : List ℕ) : Type 0 where
  pub judged : judged R ≡ 0
  pub size : has_size R z' ≡ true
  pub long : length places ≡ kb R * z'
