-- A shelf (document 01, "Shelf and profile records"): its entries and records, and when it is well formed. S is the shelf's octets.
use Rattle.std.specs.Prelude.{Bool, true, false, ◌&&◌, ◌||◌, List, ℕ, zero, suc, ◌+◌, ◌*◌, eqb, leb, ltb, length, take, drop}
use Rattle.bits.specs.Bits.{number_at}
use Rattle.bits.specs.Ranges.{all_below}

-- ---- "a count n (0 to 64); then n entries of tenant, profile number, offset, length; then the records"

unfoldable pub count : List ℕ → ℕ
count S = number_at S 0

unfoldable pub tenant : List ℕ → ℕ → ℕ
tenant S k = number_at S (2 + 8 * k)

unfoldable pub profile : List ℕ → ℕ → ℕ
profile S k = number_at S (4 + 8 * k)

unfoldable pub offset : List ℕ → ℕ → ℕ
offset S k = number_at S (6 + 8 * k)

unfoldable pub size : List ℕ → ℕ → ℕ
size S k = number_at S (8 + 8 * k)

unfoldable pub record_at : List ℕ → ℕ → List ℕ
record_at S k = take (size S k) (drop (offset S k) S)

-- ---- well formed, sentence by sentence

-- "Pairs (tenant, profile number) strictly rise"
unfoldable pub rises : List ℕ → ℕ → Bool
rises S zero = true
rises S (suc k) = ltb (tenant S k) (tenant S (suc k)) || (eqb (tenant S k) (tenant S (suc k)) && ltb (profile S k) (profile S (suc k)))

-- "The first offset is 2 + 8n, each next offset is the end of the record before"
unfoldable pub offset_due : List ℕ → ℕ → ℕ
offset_due S zero = 2 + 8 * count S
offset_due S (suc k) = offset S k + size S k

unfoldable pub chained : List ℕ → ℕ → Bool
chained S k = eqb (offset S k) (offset_due S k)

-- "and the shelf ends with the last record (at 2 when n = 0)"
unfoldable pub ends_right : List ℕ → Bool
ends_right S = eqb (length S) (offset_due S (count S))

-- "Every tenant is 0 in a public shelf and 1 or more in a private one"
unfoldable pub tenant_right : Bool → ℕ → Bool
tenant_right true t = leb 1 t
tenant_right false t = eqb t 0

-- `true` asks for the tenants of a private shelf, `false` for those of a public one
unfoldable pub well_formed : Bool → List ℕ → Bool
well_formed private S =
    -- "a count n (0 to 64)"
    leb (count S) 64
    && all_below (count S) (rises S)
    && all_below (count S) (chained S)
    && ends_right S
    -- "A shelf is at most 65,535 octets"
    && leb (length S) 65535
    && all_below (count S) (λ k. tenant_right private (tenant S k))

abbrev pub private_shelf : List ℕ → Bool
private_shelf S = well_formed true S

abbrev pub public_shelf : List ℕ → Bool
public_shelf S = well_formed false S
