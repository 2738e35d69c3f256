use mathlib.Core.Path.{◌≡◌, sym}
use Prim.Native.Nat.{suc}
use native.Mathlib.Omega.{arith}
use Rattle.profile.proofs.Stairs.{due-upper, due-lower, due-rest}
use Rattle.rules.proofs.stairs.next_due.Goals as goal

pub returns-then-row-i : goal.returns-then-row-i
returns-then-row-i c =
    let a = c.args in
    rw c.if-row-i.true (sym (due-upper a.i))

pub returns-then-row-i-2 : goal.returns-then-row-i-2
returns-then-row-i-2 c =
    let a = c.args in
    sym (due-rest a.i a.row (λ e. omega arith) (λ e. omega arith))

pub returns-then-row-i-eq1 : goal.returns-then-row-i-eq1
returns-then-row-i-eq1 c =
    let a = c.args in
    let next : a.row ≡ suc a.i = omega arith in
    rw next (sym (due-lower a.i))

pub returns : goal.returns
returns c =
    let a = c.args in
    sym (due-rest a.i a.row (λ e. c.if-row-i.false e) (λ e. omega arith))
