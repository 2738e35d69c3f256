-- The numbers that receiving answers before any block is looked at, and what holds where there is none.
use mathlib.Core.Path.{◌≡◌, refl, sym, ap, ◌∙◌}
use mathlib.Core.Bool.{Bool, true, false, not}
use mathlib.Core.List.{List, [], ◌∷◌, ◌++◌}
use Prim.Native.Nat.{ℕ, ◌/◌, ◌%◌, ◌≤◌}
use native.Mathlib.Omega.{arith}
use borrow.Author.Tests.{eq-eqb, ne_eqb}
use lib.Dec.{lit<}
use lib.ListN.{length, drop}
use Rattle.bits.specs.Bits.{some_over}
use Rattle.bits.specs.Numbers.{answered}
use Rattle.bits.specs.declared.number.Written.{Written}
use Rattle.bits.specs.declared.count.Terms.{Terms}
use Rattle.bits.proofs.Answers.{applies, passes, passed, none_left, first_part, Refusals, last_part, when-done, when_refused}
use Rattle.bits.proofs.Over.{over_none_bits}
use Rattle.bits.proofs.Ranges.{equal_or}
use Rattle.profile.specs.Record.{kind}
use Rattle.profile.specs.Promises.{judged}
use Rattle.profile.proofs.Answers.{judged-first, judged-passed}
use Rattle.cutting.specs.Plan.{block_bits, other_edition, blocks}
use Rattle.cutting.specs.Promises.{plan_number}
use Rattle.cutting.proofs.Plans.{plan-passed, plan-cut}
use Rattle.matching.specs.Matching.{misversioned}
use Rattle.coding.specs.Allocation.{misallocated}
use Rattle.coding.specs.Receiving.{some_sent_as, received_block, some_without_room}
use Rattle.coding.specs.Promises.{request_conditions, not_octets, receive_number, Received}
use Rattle.coding.specs.Steps.Numbers.{request_number, octets_of, reception_number}
use Rattle.coding.specs.Steps.Shares.{Allocated}
use Rattle.coding.specs.Steps.Receiving.{Receivable, Decided}
use Rattle.coding.proofs.Shares.{allocated}
use Rattle.coding.proofs.RequestNumber.{request_passed}

-- where 7 applies, nothing behind it counts
before_seven : (o : Bool) (l l' : List (ℕ × Bool)) → answered ((19, o) ∷ (7, true) ∷ l) ≡ answered ((19, o) ∷ (7, true) ∷ l')
unfolding answered
before_seven true l l' = refl
before_seven false l l' = refl

module _ (R : List ℕ) (a : ℕ) (terms : Terms) (bits : List ℕ) (room : ℕ) where
  abbrev g : ℕ
  g = length bits

  abbrev o : ℕ
  o = octets_of a

  -- all of request_number, for a block of a / 8 octets
  first : List (ℕ × Bool)
  first = request_conditions R (not_octets a) (a / 8) terms g (a / 8) room

  last : List (ℕ × Bool)
  last = (12, some_over 1 bits) ∷ (13, some_without_room R (a / 8) terms g) ∷ []

  in_parts : reception_number R a terms bits room ≡ answered (first ++ last)
  unfolding reception_number first last
  in_parts = refl

  -- where a is no whole number of octets, 7 is answered in both
  request_is : request_number R o terms g o room ≡ answered first
  unfolding request_number first octets_of not_octets
  request_is =
      equal_or (a % 8) 0
      (λ e. rw (eq-eqb (a % 8) 0 e))
      (λ n. equal_or (judged R) 0
      (λ e. rw (ne_eqb (a % 8) 0 n) (judged-passed R _ e ∙ before_seven (other_edition terms.edition) _ _ ∙ sym (judged-passed R _ e)))
      (λ e. rw (ne_eqb (a % 8) 0 n) (judged-first R _ e ∙ sym (judged-first R _ e))))

  pub reception_first : (request_number R o terms g o room ≡ 0 → ⊥) → request_number R o terms g o room ≡ reception_number R a terms bits room
  reception_first n = request_is ∙ sym (in_parts ∙ first_part first last (λ z. n (request_is ∙ z)))

  pub reception_last : request_number R o terms g o room ≡ 0 → reception_number R a terms bits room ≡ answered ((12, some_over 1 bits) ∷ (13, some_without_room R (a / 8) terms g) ∷ [])
  unfolding first last Refusals
  reception_last e = in_parts ∙ last_part first last tt (sym request_is ∙ e)

  module _ (e : request_number R o terms g o room ≡ 0) where
    abbrev ok : (plan_number R terms.edition o ≡ 0) × (misallocated terms g ≡ false) × (o ≤ room) × (misversioned (kind R) terms.rv ≡ false)
    ok = request_passed R o terms g o room e

    pub octets-are : o ≡ a / 8
    unfolding octets_of
    octets-are =
        equal_or (a % 8) 0
        (λ z. rw (eq-eqb (a % 8) 0 z))
        (λ n.
        let none : o ≡ 0 = rw (ne_eqb (a % 8) 0 n) in
        absurd (omega (arith, none, (plan-passed R terms.edition o ok.0).1)))

    pub reception-allocated : (plan_number R terms.edition o ≡ 0) × Allocated terms g (blocks R terms.edition (block_bits o))
    reception-allocated = (ok.0, allocated terms g (blocks R terms.edition (block_bits o)) ok.1 (omega (arith, (plan-cut R terms.edition o ok.0).some)))

    pub reception-twelve : some_over 1 bits ≡ true → 12 ≡ reception_number R a terms bits room
    reception-twelve t = sym (reception_last e ∙ applies 12 _ t)

    module _ (single : some_over 1 bits ≡ false) where
      from_last : reception_number R a terms bits room ≡ answered ((13, some_without_room R o terms g) ∷ [])
      from_last =
          reception_last e ∙ passes 12 ((13, some_without_room R (a / 8) terms g) ∷ []) single
          ∙ ap (λ (n : ℕ). answered ((13, some_without_room R n terms g) ∷ [])) (sym octets-are)

      pub reception-thirteen : some_without_room R o terms g ≡ true → 13 ≡ reception_number R a terms bits room
      reception-thirteen t = sym (from_last ∙ applies 13 [] t)

      pub reception-done : some_without_room R o terms g ≡ false → 0 ≡ reception_number R a terms bits room
      reception-done t = sym (from_last ∙ passes 13 [] t ∙ none_left)

  -- what is known of received bits that pass
  pub reception_passed : reception_number R a terms bits room ≡ 0 → Receivable R (a / 8) terms bits × (a / 8 ≤ room)
  reception_passed z =
      equal_or (request_number R o terms g o room) 0
      (λ e.
      let t = reception-allocated e in
      let l13 : List (ℕ × Bool) = (13, some_without_room R (a / 8) terms g) ∷ [] in
      let p12 = passed 12 l13 (some_over 1 bits) (lit< tt) (sym (reception_last e) ∙ z) in
      let p13 = passed 13 [] (some_without_room R (a / 8) terms g) (lit< tt) p12.1 in
      let same = octets-are e in (
        record {
          taken = rw same at t.0;
          version = (ok e).3;
          allocated = rw same at t.1;
          single = over_none_bits bits p12.0;
          room = p13.0;
        },
        rw same at (ok e).2,
      ))
      (λ n. absurd (n (reception_first n ∙ z)))

-- ---- the whole promise

module _ (R : List ℕ) (a : ℕ) (terms : Terms) (bits out : List ℕ) where
  abbrev before : ℕ
  before = reception_number R a terms bits (length out)

  abbrev tests : List (ℕ × Bool)
  tests =
      request_conditions R (not_octets a) (a / 8) terms (length bits) (a / 8) (length out)
      ++ ((12, some_over 1 bits) ∷ (13, some_without_room R (a / 8) terms (length bits)) ∷ [])

  pub receive-first : (before ≡ 0 → ⊥) → before ≡ receive_number R a terms bits (length out)
  unfolding reception_number receive_number
  receive-first n = sym (first_part tests ((14, not (some_sent_as R (a / 8) terms bits)) ∷ []) n)

  receive-last : before ≡ 0 → receive_number R a terms bits (length out) ≡ answered ((14, not (some_sent_as R (a / 8) terms bits)) ∷ [])
  unfolding reception_number receive_number Refusals
  receive-last e = last_part tests ((14, not (some_sent_as R (a / 8) terms bits)) ∷ []) tt e

  pub receive-refused : (n : ℕ) → n ≡ receive_number R a terms bits (length out) → (n ≡ 0 → ⊥) → Received R a terms bits out (record { number = n; count = 0 }) out
  receive-refused n found h =
      let refused : receive_number R a terms bits (length out) ≡ 0 → ⊥ = λ z. h (found ∙ z) in
      record {
        number = found;
        count = sym (when_refused _ (a / 8) 0 refused);
        output = sym (when_refused _ (received_block R (a / 8) terms bits ++ drop (a / 8) out) out refused);
      }

  pub receive_decided : before ≡ 0 → (w : Written) (out' : List ℕ) → Decided R (a / 8) terms bits out w out' → Received R a terms bits out w out'
  receive_decided e w out' d = by_value (some_sent_as R (a / 8) terms bits) refl
    where
      by_value : (b : Bool) → some_sent_as R (a / 8) terms bits ≡ b → Received R a terms bits out w out'
      by_value true q =
          let x = d.found q in
          let n : receive_number R a terms bits (length out) ≡ 0 = receive-last e ∙ passes 14 [] (ap not q) ∙ none_left in
          record {
            number = x.0 ∙ sym n;
            count = x.1 ∙ sym (when-done _ (a / 8) 0 n);
            output = x.2 ∙ sym (when-done _ (received_block R (a / 8) terms bits ++ drop (a / 8) out) out n);
          }
      by_value false q =
          let x = d.unsent q in
          let n : receive_number R a terms bits (length out) ≡ 14 = receive-last e ∙ applies 14 [] (ap not q) in
          let some : receive_number R a terms bits (length out) ≡ 0 → ⊥ = λ z. omega arith in
          record {
            number = x.0 ∙ sym n;
            count = x.1 ∙ sym (when_refused _ (a / 8) 0 some);
            output = x.2 ∙ sym (when_refused _ (received_block R (a / 8) terms bits ++ drop (a / 8) out) out some);
          }
