-- Steps 2 and 3 of document 01, with the word of document 02, CR 8: each code block's own bits, what it carries, and its systematic places. R is the profile's
-- record, ed the edition, b is B, the count of transport bits, and bits are these; how many of them are whose is in the profile's plan.
use Rattle.std.specs.Prelude.{cond, List, ℕ, eqb, take, drop}
use Rattle.bits.specs.Ranges.{sum_below}
use Rattle.bits.specs.Bits.{with_filler}
use Rattle.checksum.specs.Crc.{attached}
use Rattle.blocksum.specs.Blocksum.{gen24_b}
use Rattle.cutting.specs.Plan.{sum_bits, blocks, own_bits, places}

-- blocks carry their bits "in order": where block r's begin
unfoldable pub own_start : List ℕ → ℕ → ℕ → ℕ → ℕ
own_start R ed b r = sum_below r (own_bits b (blocks R ed b))

unfoldable pub own : List ℕ → ℕ → ℕ → List ℕ → ℕ → List ℕ
own R ed b bits r = take (own_bits b (blocks R ed b) r) (drop (own_start R ed b r) bits)

-- CR 8: own bits, where L is not 0 "followed by their 24B checksum": of the own bits alone
unfoldable pub with_sum : ℕ → List ℕ → List ℕ
with_sum l mine = cond (eqb l 0) mine (attached 24 gen24_b mine)

unfoldable pub carried : List ℕ → ℕ → ℕ → List ℕ → ℕ → List ℕ
carried R ed b bits r = with_sum (sum_bits R ed b) (own R ed b bits r)

unfoldable pub systematic : List ℕ → ℕ → ℕ → List ℕ → ℕ → List ℕ
systematic R ed b bits r = with_filler (places R ed b) (carried R ed b bits r)
