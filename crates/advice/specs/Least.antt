-- The least G with room: what an engineer whose bits were refused with 10 or 13 is told. It is the service's own; document 01 does not ask for it.
-- R is the profile's record.
use Rattle.std.specs.Prelude.{Bool, not, ◌&&◌, List, ℕ, suc, ◌*◌, ◌/◌}
use Rattle.bits.specs.Ranges.{any_below, first_below}
use Rattle.bits.specs.Counts.{place_bits}
use Rattle.bits.specs.declared.count.Terms.{Terms}
use Rattle.coding.specs.Receiving.{some_without_room}
use Rattle.coding.specs.Promises.{too_few_places}

-- every block has room for all its coded bits that are not filler: neither 10 nor 13 applies
unfoldable pub has_room : List ℕ → ℕ → Terms → ℕ → Bool
has_room R octets terms g = not (too_few_places R octets terms g) && not (some_without_room R octets terms g)

-- "G is a multiple of N_L·Q_m, from 0 to 65,536": how many there are; and the k-th of them has room
unfoldable pub allocations : Terms → ℕ
allocations terms = suc (65536 / place_bits terms)

unfoldable pub room_at : List ℕ → ℕ → Terms → ℕ → Bool
room_at R octets terms k = has_room R octets terms (place_bits terms * k)

-- some G has room, and the least that has
unfoldable pub some_room : List ℕ → ℕ → Terms → Bool
some_room R octets terms = any_below (allocations terms) (room_at R octets terms)

unfoldable pub least_bits : List ℕ → ℕ → Terms → ℕ
least_bits R octets terms = place_bits terms * first_below (allocations terms) (room_at R octets terms)
