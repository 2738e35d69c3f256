use borrow.Author.Tests.{eq-eqb, ne_eqb}
use Rattle.profile.specs.Record.{shift_right}
use Rattle.rules.proofs.tables.is_shift.Goals as goal

pub returns-then-shift-eq-EMPTY : goal.returns-then-shift-eq-EMPTY
unfolding shift_right
returns-then-shift-eq-EMPTY c = rw (eq-eqb c.args.shift 255 c.if-shift-eq-EMPTY.true)

pub returns-else-shift-eq-EMPTY : goal.returns-else-shift-eq-EMPTY
unfolding shift_right
returns-else-shift-eq-EMPTY c = rw (ne_eqb c.args.shift 255 c.if-shift-eq-EMPTY.false) (cc)
