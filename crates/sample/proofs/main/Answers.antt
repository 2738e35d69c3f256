-- `sample::main` is safe and ends: what is packed are bits, since what was sent are and the output held zeros before.
use Rattle.std.proofs.Common.{◌≡◌, refl, sym, ◌∙◌, subst, List, ◌++◌, ℕ, ◌<◌, length, get_or, drop, rules}
use Rattle.bits.specs.Bits.{AreBits}
use Rattle.bits.specs.declared.count.Terms.{Terms}
use Rattle.bits.specs.declared.number.Written.{Written}
use Rattle.bits.proofs.Answers.{when-done}
use Rattle.bits.proofs.Lists.{bits-append, bits-drop, bits-zeros}
use Rattle.cutting.specs.Plan.{block_bits}
use Rattle.cutting.specs.Transport.{transport}
use Rattle.cutting.proofs.Transported.{transport-bits}
use Rattle.coding.specs.Joining.{radio_bits}
use Rattle.coding.specs.Promises.{send_number, Sent}
use Rattle.coding.proofs.RoundTrip.{sent-bits}
use Rattle.sample.proofs.main.Goals as goal

left-bits : {R block : List ℕ} {terms : Terms} {g : ℕ} {out : List ℕ} {r : Written} {out' : List ℕ} → Sent R block terms g out r out' → r.number ≡ 0 → AreBits out
    → AreBits out'
left-bits {R} {block} {terms} {g} {out} s done h k =
    let sent = radio_bits R (block_bits (length block)) (transport block) terms g in
    let left = when-done (send_number R block terms g (length out)) (sent ++ drop g out) out (sym s.number ∙ done) in
    subst (λ (l : List ℕ). get_or l k 0 < 2) (sym (s.output ∙ left))
    (bits-append sent (drop g out) (sent-bits R (block_bits (length block)) (transport block) terms g (transport-bits block)) (bits-drop g out h) k)

pub print_packed-requires : goal.print_packed-requires
print_packed-requires c = (search rules, left-bits c.in-Ok.ensures refl (bits-zeros 128))
