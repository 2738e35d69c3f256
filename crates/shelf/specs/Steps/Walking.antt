-- A shelf's tests in the order of the code: the sizes first, so that what is read is there, then the tenants, then each entry and the end. That they
-- are well_formed is proved.
use Rattle.std.specs.Prelude.{Bool, cond, ◌&&◌, ◌||◌, List, ℕ, zero, suc, ◌+◌, ◌-◌, ◌*◌, ◌<◌, eqb, leb, length}
use Rattle.bits.specs.Bits.{number_at}
use Rattle.bits.specs.Ranges.{all_below}
use Rattle.shelf.specs.Shelf.{count, tenant, profile, rises, chained, ends_right, tenant_right}

-- the count and the entries stand in the shelf, and neither is too large
unfoldable pub sizes_right : List ℕ → Bool
sizes_right S = leb 2 (length S) && leb (length S) 65535 && leb (count S) 64 && leb (2 + 8 * count S) (length S)

-- where the pairs rise, the first tenant speaks for all of a private shelf, and the last one for all of a public one
unfoldable pub tenants_right : Bool → List ℕ → Bool
tenants_right private S = eqb (count S) 0 || tenant_right private (tenant S (cond private 0 (count S - 1)))

-- a pair of tenant and profile number as one number, and the least that is above the pair before entry k
unfoldable pub pair : List ℕ → ℕ → ℕ
pair S k = tenant S k * 65536 + profile S k

-- the same of an entry's eight octets
unfoldable pub pair_in : List ℕ → ℕ
pair_in H = number_at H 0 * 65536 + number_at H 2

unfoldable pub least_pair : List ℕ → ℕ → ℕ
least_pair S zero = 0
least_pair S (suc k) = suc (pair S k)

-- "Pairs (tenant, profile number) strictly rise", from each entry to every later one
abbrev pub PairsRise : List ℕ → Type 0
PairsRise S = (j k : ℕ) → j < k → k < count S → pair S j < pair S k

unfoldable pub entry_right : List ℕ → ℕ → Bool
entry_right S k = rises S k && chained S k

unfoldable pub entries_right : List ℕ → Bool
entries_right S = all_below (count S) (entry_right S) && ends_right S

unfoldable pub walk_right : Bool → List ℕ → Bool
walk_right private S = sizes_right S && tenants_right private S && entries_right S
