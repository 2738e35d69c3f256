-- What the steps of sending promise each other. R is the profile's record, bits the transport bits and p their plan.
use Rattle.std.specs.Prelude.{◌≡◌, false, List, ℕ, ◌*◌, ◌≤◌, length}
use Rattle.bits.specs.declared.count.Terms.{Terms}
use Rattle.profile.specs.Record.{kind, z, columns}
use Rattle.cutting.specs.Plan.{size_index}
use Rattle.cutting.specs.declared.Plan.{Plan}
use Rattle.cutting.specs.Steps.Plans.{Ready}
use Rattle.matching.specs.Matching.{start_of, misversioned}
use Rattle.coding.specs.Steps.Shares.{Allocated}

-- the place from which every block of b transport bits is sent in the terms' edition: all their coded words are as long
unfoldable pub version_start : List ℕ → ℕ → Terms → ℕ
version_start R b terms = start_of (kind R) terms.rv (columns R * z R (size_index R terms.edition b))

-- transport bits that are to be sent as g bits into out
pub record Sendable (R : List ℕ) (p : Plan) (bits : List ℕ) (terms : Terms) (g : ℕ) (out : List ℕ) : Type 0 where
  pub ready : Ready R terms.edition bits p
  pub version : misversioned (kind R) terms.rv ≡ false
  pub allocated : Allocated terms g p.blocks
  pub room : g ≤ length out
