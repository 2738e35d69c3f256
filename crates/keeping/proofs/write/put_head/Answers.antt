use Rattle.keeping.proofs.Writing.{head_put}
use Rattle.keeping.proofs.write.put_head.Goals as goal

pub returns : goal.returns
returns c =
    let a = c.args in
    cc (head_put a.out.now a.at a.tenant a.profile a.offset a.size, c.put_number.ensures, c.put_number-2.ensures, c.put_number-3.ensures, c.put_number-4.ensures)
