-- Number 15 as document 01 has it. "Show that no input makes sending answer 15, take the branch out, and keep 15 unused" (document 02, CR 6): the calls'
-- own lists have it no more; these are the lists that had it, last.
use Rattle.std.specs.Prelude.{Bool, not, List, [], ◌∷◌, ◌++◌, ℕ, length}
use Rattle.bits.specs.Ranges.{any_below}
use Rattle.bits.specs.declared.count.Terms.{Terms}
use Rattle.profile.specs.Record.{z, rows, columns, table}
use Rattle.cutting.specs.Plan.{block_bits, blocks, size_index}
use Rattle.cutting.specs.Transport.{transport}
use Rattle.cutting.specs.Cutting.{systematic}
use Rattle.parity.specs.Coded.{has_parity}
use Rattle.parity.specs.Promises.{table_for, code_conditions}
use Rattle.coding.specs.Promises.{send_conditions}
use Rattle.shelf.specs.Lookup.{lookup_conditions, lookup_record}

-- "It must check with filler read as 0": block r has parity bits with which it does. R is the profile's record, ed the edition, b is B, bits
-- the transport bits.
unfoldable pub block_has_parity : List ℕ → ℕ → ℕ → List ℕ → ℕ → Bool
block_has_parity R ed b bits r = has_parity (table R (size_index R ed b)) (rows R) (columns R) (z R (size_index R ed b)) (systematic R ed b bits r)

-- 15: "some block has no parity bits with which it checks (step 4)"
unfoldable pub some_without_parity : List ℕ → ℕ → List ℕ → Bool
some_without_parity R ed block =
    any_below (blocks R ed (block_bits (length block))) (λ r. not (block_has_parity R ed (block_bits (length block)) (transport block) r))

-- "5 to 11 and 15 to sending"
abbrev pub send_with_fifteen : List ℕ → List ℕ → Terms → ℕ → ℕ → List (ℕ × Bool)
send_with_fifteen R block terms g lent = send_conditions R block terms g lent ++ ((15, some_without_parity R terms.edition block) ∷ [])

-- "The hosted sending and receiving calls do a lookup first": t is the tenant and p the profile number
abbrev pub hosted_with_fifteen : List ℕ → List ℕ → ℕ → ℕ → List ℕ → Terms → ℕ → ℕ → List (ℕ × Bool)
hosted_with_fifteen private public t p block terms g lent =
    lookup_conditions private public t p ++ send_with_fifteen (lookup_record private public t p) block terms g lent

-- coding one block of places, marks anywhere among them
abbrev pub code_with_fifteen : List ℕ → ℕ → List ℕ → ℕ → List (ℕ × Bool)
code_with_fifteen R z' places lent =
    code_conditions R z' places lent ++ ((15, not (has_parity (table_for R z') (rows R) (columns R) z' places)) ∷ [])
