use Rattle.profile.proofs.Shape.{rows_is, header_is}
use Rattle.rules.proofs.Records.{front-passed, header-first, header-last, columns_of, size_of}
use mathlib.Core.Path.{◌≡◌, ◌∙◌}
use native.Mathlib.Omega.{arith}
use Rattle.std.specs.Prelude.{Some}
use Rattle.rules.specs.Faults.{wrong}
use Rattle.bits.specs.Numbers.{answered}
use Rattle.profile.specs.Record.{kb, m, x, kind, t}
use Rattle.rules.specs.Rules.{header_rules}
use Rattle.rules.proofs.pairs.of_header.Goals as goal

pub returns-in-Some : goal.returns-in-Some
unfolding kb m x kind t
returns-in-Some c =
    let R = c.args.octets.now in
    let f = c.in-Some.ensures in
    let told = f.told R in
    let first = header-first R c.requires (wrong (Some c.in-Some.fault)).rule (cc (f.first)) (λ z. omega (arith, f.some, z)) in
    record { first = first; table_is = told.0; row_is = told.1; column_is = told.2; at_is = told.3; inside = omega (arith, f.low, c.requires) }

pub sizes_of-requires : goal.sizes_of-requires
unfolding kb m x kind t
sizes_of-requires c =
    let a = c.args in
    let R = a.octets.now in
    let none : answered (header_rules (kb R) (m R) (x R) (kind R) (t R)) ≡ 0 = cc (c.in_default.ensures) in
    let h = header_is R (front-passed R c.requires none) in
    (omega (arith, h.kb_high), omega (arith, h.rows_high, rows_is R))

pub of_zs-requires : goal.of_zs-requires
unfolding kb m x kind t
of_zs-requires c =
    let a = c.args in
    let R = a.octets.now in
    let none : answered (header_rules (kb R) (m R) (x R) (kind R) (t R)) ≡ 0 = cc (c.in_default.ensures) in
    let n = c.sizes_of.ensures in
    let kb_is = c.number_at-kb.ensures.0 in
    let m_is = c.number_at-m.ensures.0 in
    let x_is = c.number_at-x.ensures.0 in
    let t_is = c.number_at-t.ensures.0 in
    record {
      front = front-passed R c.requires none;
      kb_is = n.0 ∙ kb_is;
      m_is = n.1 ∙ m_is;
      x_is = n.2 ∙ x_is;
      t_is = n.3 ∙ t_is;
      columns_is = n.4 ∙ columns_of R kb_is m_is x_is;
      size_is = n.5 ∙ size_of R kb_is m_is x_is;
    }

pub returns : goal.returns
unfolding kb m x kind t
returns c =
    let a = c.args in
    let R = a.octets.now in
    let none : answered (header_rules (kb R) (m R) (x R) (kind R) (t R)) ≡ 0 = cc (c.in_default.ensures) in
    let told = c.of_zs.ensures in
    record {
      first = told.first ∙ header-last R c.requires none;
      table_is = told.table_is;
      row_is = told.row_is;
      column_is = told.column_is;
      at_is = told.at_is;
      inside = told.inside;
    }
