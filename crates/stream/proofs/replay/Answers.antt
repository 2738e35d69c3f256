-- The lengths of the arrays come from a law: to count them out takes seconds.
use Prim.Native.Nat.{ℕ, ◌+◌, ◌*◌, ◌≤◌}
use mathlib.Core.Path.{◌≡◌, sym}
use lib.ListN.{length, replicate, length-replicate}
use native.Mathlib.Omega.{arith}
use borrow.Author.Rules.{rules}
use Rattle.requests.specs.Room.{Roomy}
use Rattle.stream.proofs.replay.Goals as goal

zeros : (n : ℕ) → n ≡ length (replicate {A = ℕ} n 0)
zeros n = sym (length-replicate n 0)

roomy : (m n : ℕ) → 2 * m + 128 ≤ n → Roomy 0 (replicate m 0) (replicate n 0)
roomy m n h = simp length-replicate (omega arith)

pub slice_bounds-read_all-end : goal.slice_bounds-read_all-end
slice_bounds-read_all-end g c = zeros 600000

pub slice_bounds-read_all-end-2 : goal.slice_bounds-read_all-end-2
slice_bounds-read_all-end-2 g c = zeros 140000

pub slice_bounds-read_all-end-3 : goal.slice_bounds-read_all-end-3
slice_bounds-read_all-end-3 g c = zeros 140000

pub slice_bounds-read_all-end-4 : goal.slice_bounds-read_all-end-4
slice_bounds-read_all-end-4 g c = zeros 140000

pub slice_bounds-read_all-end-6 : goal.slice_bounds-read_all-end-6
slice_bounds-read_all-end-6 g c = zeros 400000

pub read_all-read-requires : goal.read_all-read-requires
read_all-read-requires g c = (search rules, roomy 140000 400000 (omega arith))
