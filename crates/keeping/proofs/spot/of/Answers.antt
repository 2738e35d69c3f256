use mathlib.Core.Path.{◌≡◌}
use mathlib.Core.Bool.{true}
use Prim.Native.Nat.{◌+◌, ◌*◌}
use native.Mathlib.Omega.{arith}
use Rattle.bits.specs.Bits.{AreOctets}
use Rattle.shelf.specs.Steps.Walking.{pair}
use Rattle.shelf.proofs.WellFormed.{Formed, formed-is}
use Rattle.shelf.proofs.Finding.{searched}
use Rattle.keeping.proofs.Parting.{spotted_none, spotted_one}
use Rattle.keeping.proofs.spot.of.Goals as goal
use Rattle.keeping.proofs.spot.of.Goals.{else-at-count-via-then-at-count+else-pair-asked, else-at-count-via-else-at-count}

pub place_of-at-requires : goal.place_of-at-requires
place_of-at-requires c = searched c.args.private.now (λ i. omega (arith, c.type_inv.private i)) true c.requires.0

pub count-requires : goal.count-requires
count-requires c = omega (arith, (formed-is c.args.private.now true c.requires.0).sizes.room)

pub pair-requires : goal.pair-requires
pair-requires c = omega (arith, (formed-is c.args.private.now true c.requires.0).sizes.room)

pub returns-then-pair-asked : goal.returns-then-pair-asked
returns-then-pair-asked c =
    let a = c.args in
    let octets : AreOctets a.private.now = λ i. omega (arith, c.type_inv.private i) in
    let formed : Formed a.private.now true = formed-is a.private.now true c.requires.0 in
    let same : pair a.private.now c.place_of-at.result ≡ a.tenant * 65536 + a.profile = omega arith in
    spotted_one a.private.now octets formed a.tenant a.profile c.requires.2 c.place_of-at.result c.place_of-at.ensures (omega arith) same

pub returns : goal.returns
returns c =
    let a = c.args in
    let octets : AreOctets a.private.now = λ i. omega (arith, c.type_inv.private i) in
    let formed : Formed a.private.now true = formed-is a.private.now true c.requires.0 in
    let none = spotted_none a.private.now octets formed a.tenant a.profile c.requires.2 c.place_of-at.result c.place_of-at.ensures in
    elim c.else-at-count.branch [
      | else-at-count-via-then-at-count+else-pair-asked w ↦ none (λ l e. w.if-pair-asked.false (omega (arith, e)))
      | else-at-count-via-else-at-count w ↦ none (λ l e. omega arith)
    ]
