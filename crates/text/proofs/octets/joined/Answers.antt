-- the word and the step are so small that their product fits.
use Rattle.std.proofs.Common.{◌*◌, ◌≤◌, le_of_lt, mul-le-mul, arith}
use Rattle.text.proofs.octets.joined.Goals as goal

pub overflow_mul-result : goal.overflow_mul-result
overflow_mul-result c =
    let h : c.word.result * c.args.step ≤ 65536 * 4097 = mul-le-mul (le_of_lt c.word.ensures) c.requires.1 in
    omega arith
