use mathlib.Core.Path.{sym}
use native.Mathlib.Nat.{mul-le-mul}
use native.Mathlib.Omega.{arith}
use borrow.Author.Tests.{eq-eqb, ne_eqb}
use Rattle.parity.proofs.Answers.{size_none, size-some, unfit-size, unfit-length}
use Rattle.parity.proofs.Ready.{ready}
use Rattle.parity.proofs.inner.admit_size.Goals as goal

pub returns-in_default-clause-number : goal.returns-in_default-clause-number
returns-in_default-clause-number c =
    let a = c.args in
    rw (unfit-size a.profile.now a.z a.n a.w.now (size_none a.profile.now a.z (sym c.in_default.ensures.first)))

pub overflow_mul-n : goal.overflow_mul-n
overflow_mul-n c =
    let a = c.args in
    let i = c.in-Some.ensures in
    let some = size-some a.profile.now a.z (λ p. omega (arith, i.within, i.first, p)) in
    omega (arith, mul-le-mul c.requires.1 (ready a.profile.now a.z c.requires.0 some).shape.z_most)

pub returns-then-w-n-clause-number : goal.returns-then-w-n-clause-number
returns-then-w-n-clause-number c =
    let a = c.args in
    let i = c.in-Some.ensures in
    let some = size-some a.profile.now a.z (λ p. omega (arith, i.within, i.first, p)) in
    rw (← unfit-length a.profile.now a.z a.n a.w.now some, eq-eqb _ _ c.if-w-n.true)

pub returns-clause-number : goal.returns-clause-number
returns-clause-number c =
    let a = c.args in
    let i = c.in-Some.ensures in
    let some = size-some a.profile.now a.z (λ p. omega (arith, i.within, i.first, p)) in
    rw (← unfit-length a.profile.now a.z a.n a.w.now some, ne_eqb _ _ c.if-w-n.false)
