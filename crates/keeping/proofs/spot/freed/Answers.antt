use mathlib.Core.Path.{◌≡◌, ap}
use mathlib.Core.Bool.{true}
use Prim.Native.Nat.{ℕ, ◌+◌, ◌*◌}
use native.Mathlib.Omega.{arith}
use Rattle.shelf.specs.Shelf.{size}
use Rattle.shelf.proofs.WellFormed.{formed-is}
use Rattle.keeping.specs.Steps.Places.{freed}
use Rattle.keeping.proofs.spot.freed.Goals as goal

pub returns-then-spot-eq0 : goal.returns-then-spot-eq0
unfolding freed
returns-then-spot-eq0 c =
    let a = c.args in
    let octets = 8 + size a.private.now a.spot.at in
    let none : a.spot.gone * octets ≡ 0 * octets = ap (λ (g : ℕ). g * octets) c.if-spot-eq0.true in
    omega (arith, none)

pub size-requires : goal.size-requires
size-requires c =
    omega (arith, (formed-is c.args.private.now true c.requires.0).sizes.room)

pub returns : goal.returns
unfolding freed
returns c =
    let a = c.args in
    let octets = 8 + size a.private.now a.spot.at in
    let gone : a.spot.gone ≡ 1 = omega (arith, c.requires.1, c.if-spot-eq0.false) in
    let one : a.spot.gone * octets ≡ 1 * octets = ap (λ (g : ℕ). g * octets) gone in
    omega (arith, one, c.size.ensures.0)
