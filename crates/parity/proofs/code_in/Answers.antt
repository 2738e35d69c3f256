use mathlib.Core.Path.{◌≡◌, sym, ap}
use mathlib.Core.List.{List}
use Prim.Native.Nat.{ℕ, ◌*◌, ◌<◌, ◌≤◌}
use native.Mathlib.Nat.{add-mul, zero-add}
use native.Mathlib.Omega.{arith}
use lib.ListN.{length}
use Rattle.profile.specs.Record.{kb, rows, columns}
use Rattle.profile.proofs.Shape.{columns_is}
use Rattle.parity.specs.Steps.Gate.{Taken}
use Rattle.parity.proofs.Coded.{solution_front}
use Rattle.parity.proofs.Ready.{ready, codable_read, table_read, coded_read}
use Rattle.parity.proofs.code_in.Goals as goal

pub table-table-requires : goal.table-table-requires
table-table-requires c =
    let taken = c.requires.0 in
    (taken.judged, omega (arith, c.requires.1, (ready _ _ taken.judged taken.size).below))

-- the places have room in the word
places-in : (R : List ℕ) (z n : ℕ) (places : List ℕ) → Taken R z places → n ≡ columns R * z → length places ≤ n
places-in R z n places taken e = omega (arith, e, taken.long, ap (λ (c : ℕ). c * z) (columns_is R), add-mul (kb R) (rows R) z)

pub lay-requires : goal.lay-requires
lay-requires c = (omega arith, omega (arith, places-in _ _ _ _ c.requires.0 c.requires.2))

pub code-requires : goal.code-requires
code-requires c =
    let taken = c.requires.0 in
    let k-is = c.kb-kb.ensures.0 in
    let n-is = c.m-m.ensures.0 in
    let r-is = c.rows-rows.ensures.0 in
    let c-is = c.columns-columns.ensures.0 in
    let table_is = table_read c.args.profile.now c.args.z _ _ c.table-table.ensures c.requires.1 in
    codable_read _ _ _ _ _ _ _ table_is k-is n-is r-is c-is taken.judged taken.size _ (omega (arith, c.requires.2))

pub returns : goal.returns
returns c =
    let k-is = c.kb-kb.ensures.0 in
    let n-is = c.m-m.ensures.0 in
    let r-is = c.rows-rows.ensures.0 in
    let c-is = c.columns-columns.ensures.0 in
    let table_is = table_read c.args.profile.now c.args.z _ _ c.table-table.ensures c.requires.1 in
    let copy = c.lay.ensures in
    let places = c.args.places.now in
    let long = c.requires.0.long in
    coded_read _ _ _ _ _ _ _ table_is k-is n-is r-is c-is _ c.requires.0 _
    (solution_front
    (λ p l.
    let inside : p < length places = omega (arith, long, ap (λ (n : ℕ). n * c.args.z) k-is) in
    rw (sym (zero-add p)) (copy.inside p inside))
    c.code.ensures)
