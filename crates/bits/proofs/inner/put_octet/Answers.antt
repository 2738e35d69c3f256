use Rattle.bits.proofs.Words.{halves}
use Rattle.bits.proofs.inner.put_octet.Goals as goal

pub returns : goal.returns
returns c =
    let first = c.before.before.before.before.before.before in
    let wide = first.before.before.to_usize-x.ensures.0 in
    cc (halves _ _ _, first.put_four.ensures, c.put_four-2.ensures, wide)
