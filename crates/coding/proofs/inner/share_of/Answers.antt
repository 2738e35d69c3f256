use mathlib.Core.Path.{◌≡◌, ap}
use Prim.Native.Nat.{◌+◌, ◌/◌, ◌%◌, ◌≤◌, ◌<◌}
use native.Mathlib.Nat.{div-le_self, le_trans}
use native.Mathlib.Omega.{arith}
use Rattle.bits.specs.Counts.{symbol_places_of}
use Rattle.bits.specs.declared.count.CodedBits.{CodedBits}
use Rattle.bits.specs.declared.count.SymbolPlaces.{SymbolPlaces}
use Rattle.bits.specs.declared.count.Terms.{Terms}
use Rattle.coding.specs.Allocation.{symbol_places}
use Rattle.coding.proofs.Shares.{share_more, share-less, places_more}
use Rattle.coding.proofs.inner.share_of.Goals as goal

-- G', which is no more than G
all_is : (terms : Terms) (g : CodedBits) (all : SymbolPlaces) → all ≡ symbol_places_of terms g → all ≡ symbol_places terms g.0
unfolding symbol_places
all_is terms g all e = e

all_most : (terms : Terms) (g : CodedBits) (all : SymbolPlaces) → all ≡ symbol_places_of terms g → g.0 ≤ 65536 → all.0 ≤ 65536
unfolding symbol_places_of
all_most terms g all e most = rw (ap (λ (x : SymbolPlaces). x.0) e) (le_trans (div-le_self g.0 _) most)

pub coded_bits-requires : goal.coded_bits-requires
coded_bits-requires c =
    let one_more : c.symbol_places-all.result.0 / c.args.c + 1 ≤ 65536 = let a = c.args in
    let first : a.r < c.symbol_places-all.result.0 % a.c = omega (arith, c.if-r-all.true) in
    le_trans (places_more c.symbol_places-all.result.0 a.c a.r c.requires.blocks first) (all_most a.terms a.g _ c.symbol_places-all.ensures c.requires.most) in
    (c.requires.usable, omega (arith, one_more))

pub returns-then-r-all : goal.returns-then-r-all
returns-then-r-all c =
    let a = c.args in
    let is =
    share_more a.terms a.g.0 a.c a.r c.symbol_places-all.result (all_is a.terms a.g _ c.symbol_places-all.ensures) c.requires.blocks c.coded_bits.result _ c.coded_bits.ensures in
    is (omega arith) (omega (arith, c.if-r-all.true))

pub coded_bits-requires-2 : goal.coded_bits-requires-2
coded_bits-requires-2 c =
    (c.requires.usable, omega (arith, div-le_self c.symbol_places-all.result.0 c.args.c, all_most c.args.terms c.args.g _ c.symbol_places-all.ensures c.requires.most))

pub returns : goal.returns
returns c =
    let a = c.args in
    let is =
    share-less a.terms a.g.0 a.c a.r c.symbol_places-all.result (all_is a.terms a.g _ c.symbol_places-all.ensures) c.requires.blocks c.coded_bits-2.result _ c.coded_bits-2.ensures in
    is (omega arith) (omega (arith, c.if-r-all.false))
