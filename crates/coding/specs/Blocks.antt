-- Step 4 of document 01, with the word of document 02, CR 3: the coded blocks. R is the profile's record, ed the edition, b is B, bits the transport
-- bits, r the block's index.
use Rattle.std.specs.Prelude.{List, ℕ, ◌-◌, ◌*◌}
use Rattle.profile.specs.Record.{z, rows, columns, table}
use Rattle.cutting.specs.Plan.{size_index, filler}
use Rattle.cutting.specs.Cutting.{systematic}
use Rattle.parity.specs.Coded.{coded}

-- "The coded block is K systematic places" and then parity bits, by CR 3 (m+x)·z of them. "It must check with filler read as 0."
unfoldable pub coded_block : List ℕ → ℕ → ℕ → List ℕ → ℕ → List ℕ
coded_block R ed b bits r = coded (table R (size_index R ed b)) (rows R) (columns R) (z R (size_index R ed b)) (systematic R ed b bits r)

-- "Let N be a block's coded places less its filler": of block r
unfoldable pub sendable : List ℕ → ℕ → ℕ → ℕ → ℕ
sendable R ed b r = columns R * z R (size_index R ed b) - filler R ed b r
