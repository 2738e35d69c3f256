use borrow.Author.Rules.{rules}
use Rattle.profile.proofs.Accepted.{accepted-shape, accepted}
use Rattle.profile.proofs.inner.z.Goals as goal

pub z-requires : goal.z-requires
z-requires c = (accepted-shape c.args.profile.now c.requires.0).pair c.args.i c.requires.1

pub returns : goal.returns
returns c =
    let known = accepted c.args.profile.now c.requires.0 in
    let low = known.z_low c.args.i c.requires.1 in
    let high = known.z_high c.args.i c.requires.1 in
    search rules
