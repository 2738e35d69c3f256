use Rattle.std.proofs.Common.{rules, arith, tests, ℕ, leb, ◌*◌, ◌-◌, ◌≡◌, ◌∙◌, refl}
use Rattle.profile.specs.Record.{kb, t, z}
use Rattle.profile.proofs.Accepted.{accepted}
use Rattle.profile.proofs.Counted.{first_in_range}
use Rattle.cutting.specs.Plan.{size_index_for}
use Rattle.cutting.proofs.Plans.{size-first, size-last}
use Rattle.cutting.proofs.cut.index_for.Goals as goal

pub returns : goal.returns
returns c =
    let R = c.args.profile.now in
    let known = accepted R c.requires.0 in
    let need = c.args.need in
    let found = first_in_range (λ (i : ℕ). leb need (kb R * z R i)) (c.t-last.result - 1) _ c.find.result c.find.ensures.ran refl (λ x b q k. search (rules, tests)) in
    let last : c.t-last.result - 1 ≡ t R - 1 = omega arith in
    let is : c.unwrap_or.result ≡ size_index_for R need = c.unwrap_or.ensures ∙ found.0 ∙ rw last (size-last R known need c.requires.1) in
    (is, rw is (size-first R known need c.requires.1).below)
