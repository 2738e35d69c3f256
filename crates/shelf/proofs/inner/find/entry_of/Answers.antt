use mathlib.Core.Path.{◌≡◌}
use Prim.Native.Nat.{◌+◌, ◌*◌}
use native.Mathlib.Omega.{arith}
use Rattle.bits.specs.Bits.{AreOctets}
use Rattle.shelf.specs.Steps.Walking.{pair}
use Rattle.shelf.proofs.Finding.{entry-is_found, entry-none}
use Rattle.shelf.proofs.inner.find.entry_of.Goals as goal
use Rattle.shelf.proofs.inner.find.entry_of.Goals.{else-k-count-via-then-k-count+else-pair-asked, else-k-count-via-else-k-count}

pub returns-then-pair-asked : goal.returns-then-pair-asked
returns-then-pair-asked c =
    let octets : AreOctets c.args.shelf.now = λ i. omega (arith, c.type_inv.shelf i) in
    let a = c.args in
    let same : pair a.shelf.now c.place_of-k.result ≡ a.tenant * 65536 + a.profile = omega arith in
    (entry-is_found a.shelf.now octets a.tenant a.profile c.requires.3 c.place_of-k.result c.place_of-k.ensures (omega arith) same, omega arith)

pub returns : goal.returns
returns c =
    let octets : AreOctets c.args.shelf.now = λ i. omega (arith, c.type_inv.shelf i) in
    let a = c.args in
    let none = entry-none a.shelf.now octets a.tenant a.profile c.requires.3 c.place_of-k.result c.place_of-k.ensures c.requires.1 in
    elim c.else-k-count.branch [
      | else-k-count-via-then-k-count+else-pair-asked w ↦ none (λ l e. w.if-pair-asked.false (omega (arith, e)))
      | else-k-count-via-else-k-count w ↦ none (λ l e. omega arith)
    ]
