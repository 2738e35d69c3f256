use Rattle.std.proofs.lemmas.Result.{err_from_is_err_and}
use mathlib.Core.Path.{refl, sym, ap, ap₂, ◌∙◌}
use mathlib.Core.List.{List, ◌++◌}
use Prim.Native.Nat.{ℕ, ◌*◌, ◌≤◌}
use native.Mathlib.Omega.{arith}
use lib.ListN.{length, drop}
use lib.Seq.{length-take-le}
use Rattle.bits.proofs.Answers.{refusal-numbered}
use Rattle.parity.proofs.Answers.{block-taken, coded-refused, coded-done}
use Rattle.parity.proofs.Ready.{places-most}
use Rattle.parity.proofs.code_block.Goals as goal

pub returns-in_err-index : goal.returns-in_err-index
returns-in_err-index c =
    let p = err_from_is_err_and c.from_residual.result c.from_residual.ensures.1 in
    rw (p.1, p.2) (coded-refused _ _ _ _ _ c.in_err-index.ensures.number (refusal-numbered _))

pub columns-requires : goal.columns-requires
columns-requires c = (block-taken _ _ _ _ (sym c.in_ok-index.ensures.number)).0.judged

pub overflow_mul-count : goal.overflow_mul-count
overflow_mul-count c =
    let taken = (block-taken _ _ _ _ (sym c.in_ok-index.ensures.number)).0 in
    omega (arith, places-most _ _ taken.judged taken.size _ c.columns.ensures.0)

pub slice_bounds-code_in-end : goal.slice_bounds-code_in-end
slice_bounds-code_in-end c =
    let taken = block-taken _ _ _ _ (sym c.in_ok-index.ensures.number) in
    rw c.columns.ensures.0 taken.1

pub slice_bounds-code_in-end-2 : goal.slice_bounds-code_in-end-2
slice_bounds-code_in-end-2 c =
    let taken = block-taken _ _ _ _ (sym c.in_ok-index.ensures.number) in
    sym (length-take-le _ _ (rw c.columns.ensures.0 taken.1))

pub code_in-requires : goal.code_in-requires
code_in-requires c =
    let taken = block-taken _ _ _ _ (sym c.in_ok-index.ensures.number) in
    let a = c.args in
    let count = ap (λ (n : ℕ). n * a.z) c.columns.ensures.0 in
    let enough : c.columns.result * a.z ≤ length a.out.now = rw count taken.1 in
    (taken.0, c.in_ok-index.ensures.found, length-take-le (c.columns.result * a.z) a.out.now enough ∙ count)

pub returns : goal.returns
returns c =
    let count = ap (λ (n : ℕ). n * c.args.z) c.columns.ensures.0 in
    coded-done _ _ _ _ _ c.in_ok-index.ensures.number refl _ count _
    (ap₂ (λ (w : List ℕ) (n : ℕ). w ++ drop n c.args.out.now) c.code_in.ensures count)
