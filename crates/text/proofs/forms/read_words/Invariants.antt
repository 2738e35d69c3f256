-- The loop's invariant: what the words gave is held.
use Rattle.text.specs.Words.{Held}
use Rattle.text.proofs.forms.read_words.Given as goal

abbrev pub invariant-loop-name : goal.invariant-loop-name
invariant-loop-name l =
    (goal.iterator-loop-name).can_next l.name-iterator ×
    (goal.iterator-loop-name).is_finite l.name-iterator ×
    Held l.given l.records l.bits l.room
