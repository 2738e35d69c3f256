-- A shelf as its entries (document 01, "Shelf and profile records"), and the shelf that entries give: what putting and removing a record come to.
use Rattle.std.specs.Prelude.{Bool, cond, ◌&&◌, ◌||◌, List, [], ◌∷◌, ◌++◌, ℕ, zero, suc, ◌+◌, ◌*◌, ◌/◌, ◌%◌, eqb, ltb, length}
use Rattle.shelf.specs.Shelf.{count, tenant, profile, record_at}

-- an entry with its record
pub record Entry : Type 0 where
  pub owner : ℕ
  pub number : ℕ
  pub octets : List ℕ

-- ---- the entries of a shelf, in its order

unfoldable pub entry_at : List ℕ → ℕ → Entry
entry_at S k = record { owner = tenant S k; number = profile S k; octets = record_at S k }

-- n of them from entry k on, and all of them
unfoldable pub entries_from : List ℕ → ℕ → ℕ → List Entry
entries_from S zero k = []
entries_from S (suc n) k = entry_at S k ∷ entries_from S n (suc k)

unfoldable pub entries : List ℕ → List Entry
entries S = entries_from S (count S) 0

-- ---- the shelf of entries: "a count n (0 to 64); then n entries of tenant, profile number, offset, length; then the records"

-- "All numbers here are two octets, high octet first."
unfoldable pub two_octets : ℕ → List ℕ
two_octets n = (n / 256) ∷ (n % 256) ∷ []

unfoldable pub head : ℕ → ℕ → ℕ → ℕ → List ℕ
head t p at n = two_octets t ++ (two_octets p ++ (two_octets at ++ two_octets n))

-- "each next offset is the end of the record before"
unfoldable pub heads : ℕ → List Entry → List ℕ
heads at [] = []
heads at (e ∷ es) = head e.owner e.number at (length e.octets) ++ heads (at + length e.octets) es

unfoldable pub records : List Entry → List ℕ
records [] = []
records (e ∷ es) = e.octets ++ records es

-- "The first offset is 2 + 8n"
unfoldable pub shelf_of : List Entry → List ℕ
shelf_of es = two_octets (length es) ++ (heads (2 + 8 * length es) es ++ records es)

-- ---- putting and removing: "Pairs (tenant, profile number) strictly rise"

-- the pair of t and p stands below that of t' and p'
unfoldable pub below : ℕ → ℕ → ℕ → ℕ → Bool
below t p t' p' = ltb t t' || (eqb t t' && ltb p p')

unfoldable pub keep : (Entry → Bool) → List Entry → List Entry
keep f [] = []
keep f (e ∷ es) = cond (f e) (e ∷ keep f es) (keep f es)

-- the entries whose pair stands below that of t and p, and those whose pair stands above it: all but the one of t and p
unfoldable pub before : List ℕ → ℕ → ℕ → List Entry
before S t p = keep (λ e. below e.owner e.number t p) (entries S)

unfoldable pub after : List ℕ → ℕ → ℕ → List Entry
after S t p = keep (λ e. below t p e.owner e.number) (entries S)

unfoldable pub entries_put : List ℕ → ℕ → ℕ → List ℕ → List Entry
entries_put S t p R = before S t p ++ (record { owner = t; number = p; octets = R } ∷ after S t p)

unfoldable pub entries_left : List ℕ → ℕ → ℕ → List Entry
entries_left S t p = before S t p ++ after S t p

-- the shelf on which R is the record of t and p, and the shelf without that of t and p; every other record is on it as it was
abbrev pub shelf_put : List ℕ → ℕ → ℕ → List ℕ → List ℕ
shelf_put S t p R = shelf_of (entries_put S t p R)

abbrev pub shelf_left : List ℕ → ℕ → ℕ → List ℕ
shelf_left S t p = shelf_of (entries_left S t p)
