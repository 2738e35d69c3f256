use mathlib.Core.Path.{◌≡◌, sym}
use mathlib.Core.Bool.{true}
use native.Mathlib.Omega.{arith}
use borrow.Author.Rules.{rules}
use Rattle.profile.specs.Steps.Shape.{ranges_right, kind_fits}
use Rattle.profile.specs.Record.{kb, m, x, kind, t}
use Rattle.profile.proofs.Shape.{ranges_are, front-second, front-third}
use Rattle.profile.proofs.form.header_right.Goals as goal

pub kind_right-requires : goal.kind_right-requires
kind_right-requires c =
    let right : ranges_right c.kb.result c.m-m.result c.t.result ≡ true = sym (c.if-ranges_right.ensures {u = tt}) in
    (omega (arith, (ranges_are _ _ _ right).m_high), search rules)

pub returns-then-ranges_right : goal.returns-then-ranges_right
returns-then-ranges_right c =
    let R = c.args.profile.now in
    let ranges : ranges_right (kb R) (m R) (t R) ≡ true = cc in
    let rest : c.kind_right.result ≡ kind_fits (m R) (x R) (kind R) = cc in
    front-third R c.if-profile-lt10.false ranges _ rest

pub returns-else-ranges_right : goal.returns-else-ranges_right
returns-else-ranges_right c = rw c.if-ranges_right.false (front-second c.args.profile.now c.if-profile-lt10.false (cc))
