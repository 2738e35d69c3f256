-- Lookup (document 01, "Shelf and profile records"): "It answers the tenant's own record, else the public record of that number."
use Rattle.std.specs.Prelude.{Bool, cond, not, ◌&&◌, ◌||◌, List, [], ◌∷◌, ℕ, ◌+◌, eqb}
use Rattle.bits.specs.Numbers.{answered, when_done}
use Rattle.bits.specs.Ranges.{any_below, first_below}
use Rattle.shelf.specs.Shelf.{count, tenant, profile, offset, record_at, private_shelf, public_shelf}

-- entry k is that of tenant t and profile number p
unfoldable pub is_entry : List ℕ → ℕ → ℕ → ℕ → Bool
is_entry S t p k = eqb (tenant S k) t && eqb (profile S k) p

-- a shelf has a record for t and p; which entry it is (pairs strictly rise, so there is one at most), and the record
unfoldable pub has : List ℕ → ℕ → ℕ → Bool
has S t p = any_below (count S) (is_entry S t p)

unfoldable pub entry_of : List ℕ → ℕ → ℕ → ℕ
entry_of S t p = first_below (count S) (is_entry S t p)

unfoldable pub record_of : List ℕ → ℕ → ℕ → List ℕ
record_of S t p = record_at S (entry_of S t p)

-- 1 "asking tenant is 0", 2 "private shelf not well formed", 3 "public shelf not well formed", 4 "neither shelf has the record";
-- every tenant of a public shelf is 0
abbrev pub lookup_conditions : List ℕ → List ℕ → ℕ → ℕ → List (ℕ × Bool)
lookup_conditions private public t p =
    (1, eqb t 0)
    ∷ (2, not (private_shelf private))
    ∷ (3, not (public_shelf public))
    ∷ (4, not (has private t p || has public 0 p))
    ∷ []

-- what `lookup_number` answers: "The number may come from a call of its own beside the one for the stretch"
unfoldable pub lookup_number : List ℕ → List ℕ → ℕ → ℕ → ℕ
lookup_number private public t p = answered (lookup_conditions private public t p)

-- "the tenant's own record, else the public record of that number"; with a refusal nothing
unfoldable pub lookup_record : List ℕ → List ℕ → ℕ → ℕ → List ℕ
lookup_record private public t p = when_done (lookup_number private public t p) (cond (has private t p) (record_of private t p) (record_of public 0 p)) []

-- the place n octets into what lies at q: a block of memory, and an offset in it
unfoldable pub into : ℕ × ℕ → ℕ → ℕ × ℕ
into q n = (q.0, n + q.1)

-- "What is handed back is that stretch of one shelf or the other, not a copy. With a refusal it is the empty stretch at the start of the
-- public shelf": where the stretch lies, where the private shelf lies at q and the public one at r
unfoldable pub lookup_place : List ℕ → List ℕ → ℕ → ℕ → ℕ × ℕ → ℕ × ℕ → ℕ × ℕ
lookup_place private public t p q r =
    when_done (lookup_number private public t p)
    (cond (has private t p) (into q (offset private (entry_of private t p))) (into r (offset public (entry_of public 0 p))))
    r
