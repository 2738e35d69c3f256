-- Step 5 of document 01 as CR 1 has it: the allocation, N_L, Q_m and G, and what each of c blocks is given of it.
use Rattle.std.specs.Prelude.{Bool, cond, not, ◌||◌, ℕ, ◌/◌, ◌%◌, eqb, ltb}
use Rattle.bits.specs.Counts.{ceil, usable, place_bits, symbol_places_of, coded_bits_of}
use Rattle.bits.specs.declared.count.CodedBits.{CodedBits}
use Rattle.bits.specs.declared.count.SymbolPlaces.{SymbolPlaces}
use Rattle.bits.specs.declared.count.Terms.{Terms}

-- 8, "N_L, Q_m or G against step 5": what `usable` says of N_L and Q_m, and "G is a multiple of N_L·Q_m, from 0 to 65,536"
unfoldable pub misallocated : Terms → ℕ → Bool
misallocated terms g = not (usable terms) || ltb 65536 g || not (eqb (g % place_bits terms) 0)

-- "G' = G/(N_L·Q_m)"
unfoldable pub symbol_places : Terms → ℕ → SymbolPlaces
symbol_places terms g = symbol_places_of terms (record { 0 = g })

-- "γ = G' mod C": the symbol places that are left where every block has floor(G'/C)
unfoldable pub spare : Terms → ℕ → ℕ → SymbolPlaces
spare terms g c = record { 0 = (symbol_places terms g).0 % c }

-- "blocks r < γ have E_r = N_L·Q_m·ceil(G'/C) and the rest have floor": block r's share
unfoldable pub share : Terms → ℕ → ℕ → ℕ → CodedBits
share terms g c r =
    coded_bits_of terms (record { 0 = cond (ltb r (spare terms g c).0) (ceil (symbol_places terms g).0 c) ((symbol_places terms g).0 / c) })
