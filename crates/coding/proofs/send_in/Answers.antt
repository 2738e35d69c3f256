use mathlib.Core.Path.{◌≡◌, sym, ap, ◌∙◌}
use mathlib.Core.List.{List}
use Prim.Native.Nat.{ℕ, ◌≤◌, ◌<◌}
use native.Mathlib.Omega.{arith}
use lib.ListN.{length, take, replicate, length-replicate}
use lib.Seq.{sets}
use Rattle.cutting.specs.Plan.{block_bits}
use Rattle.cutting.specs.Transport.{transport}
use Rattle.cutting.proofs.Plans.{plan-passed, plan-cut}
use Rattle.cutting.proofs.PlanFields.{bits_is, blocks-are}
use Rattle.cutting.proofs.Transported.{length-transport, front-set, ready-transport}
use Rattle.coding.proofs.Shares.{allocated}
use Rattle.coding.proofs.RequestNumber.{request_passed}
use Rattle.coding.proofs.send_in.Goals as goal

-- the front of the room holds the transport bits
front : (n bits : ℕ) (block u : List ℕ) → u ≡ sets (replicate n 0) 0 (transport block) → bits ≡ block_bits (length block) → bits ≤ n
    → take bits u ≡ transport block
front n bits block u made count room =
    ap (take bits) made
    ∙ front-set (replicate n 0) (transport block) bits (length-transport block ∙ sym count) (omega (arith, room, length-replicate {A = ℕ} n 0))

pub attach-requires : goal.attach-requires
attach-requires g c =
    let a = c.args in
    let ok = request_passed a.profile.now (length a.block.now) a.terms a.g.0 a.g.0 (length a.out.now) c.requires.0 in
    ((plan-passed a.profile.now a.terms.edition (length a.block.now) ok.0).2, omega (arith, bits_is a.profile.now a.terms.edition (length a.block.now) a.plan c.requires.1 ok.0, c.requires.2, length-replicate {A = ℕ} g.row.N 0))

pub send_bits-requires : goal.send_bits-requires
send_bits-requires g c =
    let a = c.args in
    let R = a.profile.now in
    let block = a.block.now in
    let ok = request_passed R (length block) a.terms a.g.0 a.g.0 (length a.out.now) c.requires.0 in
    let count = bits_is R a.terms.edition (length block) a.plan c.requires.1 ok.0 in
    let some : 0 < a.plan.blocks = omega (arith, blocks-are R a.terms.edition (length block) a.plan c.requires.1 ok.0, (plan-cut R a.terms.edition (length block) ok.0).some) in
    record {
      ready = rw (front g.row.N a.plan.bits block _ c.attach.ensures count c.requires.2) (ready-transport R a.terms.edition block a.plan ok.0 c.requires.1);
      version = ok.3;
      allocated = allocated a.terms a.g.0 a.plan.blocks ok.1 some;
      room = ok.2;
    }

pub returns : goal.returns
returns g c =
    let a = c.args in
    let R = a.profile.now in
    let block = a.block.now in
    let ok = request_passed R (length block) a.terms a.g.0 a.g.0 (length a.out.now) c.requires.0 in
    let count = bits_is R a.terms.edition (length block) a.plan c.requires.1 ok.0 in
    rw (front g.row.N a.plan.bits block _ c.attach.ensures count c.requires.2, count) at c.send_bits.ensures
