use borrow.Author.Rules.{rules}
use Rattle.profile.specs.Record.{m}
use Rattle.profile.proofs.parts.m.Goals as goal

pub returns : goal.returns
unfolding m
returns c = search rules
