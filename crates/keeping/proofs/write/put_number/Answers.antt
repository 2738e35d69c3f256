use Rattle.keeping.proofs.Writing.{two_put}
use Rattle.keeping.proofs.write.put_number.Goals as goal

pub returns : goal.returns
returns c = two_put c.args.out.now c.args.at c.args.n
