use mathlib.Core.Path.{◌≡◌, sym, ap, ◌∙◌, subst}
use mathlib.Core.Bool.{true, true≢false}
use mathlib.Core.List.{List, ◌++◌}
use Prim.Native.Nat.{ℕ, ◌≤◌}
use native.Mathlib.Omega.{arith}
use lib.ListN.{length, take, drop, replicate, length-replicate}
use borrow.Author.Rules.{rules}
use Rattle.bits.specs.Bits.{AreBits, packed}
use Rattle.cutting.specs.Plan.{block_bits}
use Rattle.cutting.specs.Steps.Plans.{checked}
use Rattle.cutting.proofs.PlanFields.{bits_is}
use Rattle.cutting.proofs.Transported.{packed-over}
use Rattle.coding.specs.Steps.Receiving.{gathered}
use Rattle.coding.proofs.Gathered.{has_room_of, gathered-length, gathered-bits}
use Rattle.coding.proofs.Received.{decided_unsent, decided_found}
use Rattle.coding.proofs.receive_in.Goals as goal

pub returns-then-not-rebuild_bits : goal.returns-then-not-rebuild_bits
returns-then-not-rebuild_bits g c =
    let a = c.args in
    let count = bits_is a.profile.now a.terms.edition a.octets a.plan c.requires.1 c.requires.0.taken in
    let told = rw count at (c.rebuild_bits.ensures.other (search rules)) in
    decided_unsent a.profile.now a.octets a.terms a.bits.now c.requires.0 (λ all sum. told all) a.out.now

pub detach-requires : goal.detach-requires
detach-requires g c =
    let a = c.args in
    let R = a.profile.now in
    let count = bits_is R a.terms.edition a.octets a.plan c.requires.1 c.requires.0.taken in
    let rebuilt = rw count at (c.rebuild_bits.ensures.sent (search rules)) in
    let made = gathered R (block_bits a.octets) a.terms a.bits.now in
    let front : take a.plan.bits c.rebuild_bits.new.room ≡ made = ap (λ (n : ℕ). take n c.rebuild_bits.new.room) count ∙ rebuilt.1 in
    let has_room = has_room_of R a.octets a.terms a.bits.now c.requires.0 in (
      subst AreBits (sym front) (gathered-bits R (block_bits a.octets) a.terms a.bits.now has_room),
      ap length front ∙ gathered-length R (block_bits a.octets) a.terms a.bits.now has_room,
      -- of the output's room too: who packs into the output is to be refused for what is written, and not here
      omega (arith, length-replicate {A = ℕ} g.row.M 0, c.requires.2, c.requires.5),
    )

pub returns-then-not-detach : goal.returns-then-not-detach
returns-then-not-detach g c =
    let a = c.args in
    let R = a.profile.now in
    let count = bits_is R a.terms.edition a.octets a.plan c.requires.1 c.requires.0.taken in
    let rebuilt = rw count at (c.rebuild_bits.ensures.sent (search rules)) in
    let front = ap (λ (n : ℕ). take n c.rebuild_bits.new.room) count ∙ rebuilt.1 in
    decided_unsent R a.octets a.terms a.bits.now c.requires.0
    (λ all sum. true≢false (sym sum ∙ ap checked (sym front) ∙ sym c.detach.ensures.0 ∙ search rules))
    a.out.now

pub returns : goal.returns
returns g c =
    let a = c.args in
    let R = a.profile.now in
    let count = bits_is R a.terms.edition a.octets a.plan c.requires.1 c.requires.0.taken in
    let rebuilt = rw count at (c.rebuild_bits.ensures.sent (search rules)) in
    let made = gathered R (block_bits a.octets) a.terms a.bits.now in
    let front : take a.plan.bits c.rebuild_bits.new.room ≡ made = ap (λ (n : ℕ). take n c.rebuild_bits.new.room) count ∙ rebuilt.1 in
    let detach = c.detach in
    let sum : checked made ≡ true = ap checked (sym front) ∙ sym detach.ensures.0 ∙ search rules in
    let short : a.octets ≤ length (replicate g.row.M 0) = omega (arith, length-replicate {A = ℕ} g.row.M 0, c.requires.5) in
    let whole : take a.octets detach.new.block ≡ packed a.octets made =
    ap (take a.octets) detach.ensures.1 ∙ packed-over (replicate g.row.M 0) (take a.plan.bits c.rebuild_bits.new.room) a.octets short
    ∙ ap (packed a.octets) front in
    decided_found R a.octets a.terms a.bits.now c.requires.0 rebuilt.0 sum a.out.now _
    (ap (λ (x : List ℕ). x ++ drop a.octets a.out.now) (c.copy_from_slice.ensures.after ∙ whole))
