use mathlib.Core.Path.{ap, ◌∙◌}
use mathlib.Core.List.{List}
use Prim.Native.Nat.{ℕ, ◌+◌, ◌-◌, ◌*◌, ◌≤◌, ◌<◌}
use native.Mathlib.Nat.{mul-le-mul_right}
use native.Mathlib.Omega.{arith}
use Rattle.parity.specs.Steps.Runs.{Sums, Stacked}
use Rattle.parity.proofs.Columns.{sums_word}
use Rattle.parity.proofs.Groups.{first-same, steps_in, laid_begun, laid-sums}
use Rattle.parity.proofs.inner.climb.Goals as goal

pub add_columns-requires-2 : goal.add_columns-requires-2
add_columns-requires-2 c =
    let column-in : c.args.kb < c.args.columns = omega (arith, c.requires.0.wide, c.requires.0.shape.rows_some) in
    let fit = c.requires.0 in
    let laid = c.lay_first.ensures in
    let sums = sums_word _ _ _ _ _ _ fit.shape.z_some (first-same _ _ _ _ _ laid) c.add_columns.ensures in
    (record { shape = fit.shape; long = laid.len ∙ fit.long; sums = sums }, omega arith, omega (arith, column-in))

pub lay_next-requires : goal.lay_next-requires
lay_next-requires c =
    let end : (c.args.kb + 1) * c.args.z + (c.args.m - 1) * c.args.z ≤ c.args.columns * c.args.z = let fit = c.requires.0 in
    omega (
      arith,
      steps_in c.args.kb c.args.m c.args.rows c.args.z fit.some fit.tall,
      ap (λ (n : ℕ). n * c.args.z) fit.wide,
    ) in
    let rows_in : c.args.m * c.args.z ≤ c.args.rows * c.args.z = mul-le-mul_right c.args.z c.requires.0.tall in
    let stacked : (w s : List ℕ) (n : ℕ) → Sums c.args.table.now c.args.rows c.args.columns c.args.z w n 0 s → Stacked s c.args.m c.args.z = λ w s n sums. let fit = c.requires.0 in
    record {
      size = omega (arith, sums.size, rows_in);
      bits = sums.bits;
      m_some = fit.some;
      m_most = omega (arith, fit.shape.rows_most, fit.tall);
      z_most = fit.shape.z_most;
    } in
    let shape = c.requires.0.shape in
    let sums = c.add_columns-2.ensures in
    let laid = c.lay_first.ensures in (
      stacked _ _ _ sums,
      omega (arith, end, laid.len, c.requires.0.long),
    )

pub returns : goal.returns
returns c =
    let fit = c.requires.0 in
    let sums = c.add_columns.ensures in
    let sums' = c.add_columns-2.ensures in
    let one = c.lay_first.ensures in
    let next = c.lay_next.ensures in
    (laid_begun _ _ _ _ _ _ _ _ _ _ _ fit.shape.z_some fit.tall sums sums' one next fit.long, laid-sums _ _ _ _ _ _ _ _ _ _ _ fit.shape.z_some fit.tall sums sums' one next)
