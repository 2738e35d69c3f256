-- What sending answers, by its test.
use mathlib.Core.Path.{◌≡◌, refl, sym, ◌∙◌}
use mathlib.Core.List.{List, ◌++◌}
use Prim.Native.Nat.{ℕ}
use lib.ListN.{length, drop}
use Rattle.bits.specs.declared.count.Terms.{Terms}
use Rattle.bits.proofs.Answers.{when-done, when_refused}
use Rattle.cutting.specs.Plan.{block_bits, blocks}
use Rattle.cutting.specs.Promises.{plan_number}
use Rattle.cutting.specs.Transport.{transport}
use Rattle.cutting.proofs.Plans.{plan-cut}
use Rattle.coding.specs.Joining.{radio_bits}
use Rattle.coding.specs.Promises.{send_number, Sent}
use Rattle.coding.specs.Steps.Numbers.{request_number}
use Rattle.coding.specs.Steps.Shares.{Allocated}
use Rattle.coding.proofs.RequestNumber.{request_passed}
use Rattle.coding.proofs.Shares.{allocated}

module _ (R block : List ℕ) (terms : Terms) (g : ℕ) where
  -- what the request is refused with is what sending is refused with
  pub request_is : (room : ℕ) → request_number R (length block) terms g g room ≡ send_number R block terms g room
  unfolding request_number send_number
  request_is room = refl

  -- and a block that it is not refused for can be cut
  pub send-planned : (room : ℕ) → send_number R block terms g room ≡ 0 → plan_number R terms.edition (length block) ≡ 0
  send-planned room e = (request_passed R (length block) terms g g room (request_is room ∙ e)).0

  -- into blocks that the allocation is shared out among
  pub send-allocated : (room : ℕ) → send_number R block terms g room ≡ 0 → Allocated terms g (blocks R terms.edition (block_bits (length block)))
  send-allocated room e =
      let ok = request_passed R (length block) terms g g room (request_is room ∙ e) in
      allocated terms g (blocks R terms.edition (block_bits (length block))) ok.1 (plan-cut R terms.edition (length block) ok.0).some

  module _ (out : List ℕ) where
    abbrev sent : List ℕ
    sent = radio_bits R (block_bits (length block)) (transport block) terms g ++ drop g out

    pub send-refused : (n : ℕ) → n ≡ send_number R block terms g (length out) → (n ≡ 0 → ⊥) → Sent R block terms g out (record { number = n; count = 0 }) out
    send-refused n found h =
        let refused : send_number R block terms g (length out) ≡ 0 → ⊥ = λ z. h (found ∙ z) in
        record { number = found; count = sym (when_refused _ g 0 refused); output = sym (when_refused _ sent out refused) }

    pub send-done : send_number R block terms g (length out) ≡ 0 → (out' : List ℕ)
        → out' ≡ radio_bits R (block_bits (length block)) (transport block) terms g ++ drop g out
        → Sent R block terms g out (record { number = 0; count = g }) out'
    send-done done out' is = record { number = sym done; count = sym (when-done _ g 0 done); output = is ∙ sym (when-done _ sent out done) }
