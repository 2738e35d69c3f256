use mathlib.Core.Path.{ap, ◌∙◌}
use lib.ListN.{length}
use Rattle.control.proofs.Registers.{length-streams, coded-front, coded-bits}
use Rattle.control.proofs.streams.send_coded.Goals as goal

pub send-requires : goal.send-requires
send-requires c =
    let is = coded-front c.args.word.now _ _ c.put_streams.ensures in
    (c.requires.0, c.requires.1, ap length is ∙ length-streams c.args.word.now, coded-bits c.args.word.now _ is, c.requires.3)
