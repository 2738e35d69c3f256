-- The number that is answered, by its tests, and what goes with it.
use mathlib.Core.Path.{◌≡◌, sym, ap, ap₂, ◌∙◌}
use mathlib.Core.Bool.{Bool, not}
use mathlib.Core.List.{List, [], ◌∷◌}
use Prim.Native.Nat.{ℕ, ◌-◌, ◌*◌, ◌/◌, ◌%◌, ◌≤◌, ◌<◌}
use native.Mathlib.Omega.{arith}
use Rattle.bits.specs.Numbers.{answered, when_done}
use Rattle.bits.specs.Ranges.{within}
use Rattle.bits.specs.Counts.{place_bits}
use Rattle.bits.specs.declared.count.CodedBits.{CodedBits}
use Rattle.bits.specs.declared.count.Terms.{Terms}
use Rattle.bits.proofs.Answers.{applies, passes, none_left, first_part, Refusals, last_part, when-done, when_refused}
use Rattle.cutting.specs.Plan.{block_bits, blocks}
use Rattle.cutting.proofs.Plans.{Cut, plan-cut}
use Rattle.coding.specs.Allocation.{spare, share}
use Rattle.coding.specs.Promises.{cut_conditions}
use Rattle.coding.specs.Steps.Shares.{Allocated}
use Rattle.coding.specs.Steps.Numbers.{cut_number}
use Rattle.coding.proofs.Shares.{allocated}
use Rattle.coding.proofs.RequestNumber.{cut-passed}
use Rattle.advice.specs.Least.{some_room, least_bits}
use Rattle.advice.specs.Promises.{least_number, refusal, LeastRoom}
use Rattle.advice.specs.declared.Advised.{Advised}
use Rattle.advice.specs.Steps.Counting.{places_for_all}
use Rattle.advice.proofs.Room.{some-room, no_room, least-is, spare-is}

module _ (R : List ℕ) (octets : ℕ) (terms : Terms) where
  abbrev tests : List (ℕ × Bool)
  tests = cut_conditions R (not (within 1 2048 octets)) octets terms 0

  pub least_first : (cut_number R octets terms 0 ≡ 0 → ⊥) → least_number R octets terms ≡ cut_number R octets terms 0
  unfolding cut_number least_number
  least_first n = first_part tests ((13, not (some_room R octets terms)) ∷ []) n

  pub least-last : cut_number R octets terms 0 ≡ 0 → least_number R octets terms ≡ answered ((13, not (some_room R octets terms)) ∷ [])
  unfolding cut_number least_number Refusals
  least-last e = last_part tests ((13, not (some_room R octets terms)) ∷ []) tt e

  told-refused : (n : ℕ) → n ≡ least_number R octets terms → (n ≡ 0 → ⊥) → (r : Advised) → r ≡ refusal n → LeastRoom R octets terms r
  unfolding refusal
  told-refused n found h r e =
      let other : (v : ℕ) → 0 ≡ when_done (least_number R octets terms) v 0 = λ v. sym (when_refused (least_number R octets terms) v 0 (λ z. h (found ∙ z))) in
      rw e (record { number = found; bits = other _; blocks = other _; larger = other _; first = other _; last = other _ })

  pub first-refused : (n : ℕ) → n ≡ cut_number R octets terms 0 → (n ≡ 0 → ⊥) → (r : Advised) → r ≡ refusal n → LeastRoom R octets terms r
  first-refused n found h = told-refused n (found ∙ sym (least_first (λ z. h (found ∙ z)))) h

  module _ (e : cut_number R octets terms 0 ≡ 0) where
    pub cut : Cut R terms.edition (block_bits octets)
    cut = plan-cut R terms.edition octets (cut-passed R octets terms 0 e).0

    pub right : Allocated terms 0 (blocks R terms.edition (block_bits octets))
    right = allocated terms 0 (blocks R terms.edition (block_bits octets)) (cut-passed R octets terms 0 e).1 cut.some

    abbrev all : ℕ
    all = places_for_all R (block_bits octets) terms

    pub last-refused : 65536 / place_bits terms < all → (r : Advised) → r ≡ refusal 13 → LeastRoom R octets terms r
    last-refused h =
        told-refused 13 (sym (least-last e ∙ applies 13 [] (ap not (no_room R octets terms cut right.usable.some h)))) (λ q. omega arith)

    pub last_done : all ≤ 65536 / place_bits terms → (r : Advised) → r.number ≡ 0 → r.bits.0 ≡ place_bits terms * all → r.blocks ≡ blocks R terms.edition (block_bits octets)
        → r.larger ≡ all % blocks R terms.edition (block_bits octets)
        → r.first ≡ share terms r.bits.0 r.blocks 0 → r.last ≡ share terms r.bits.0 r.blocks (r.blocks - 1) → LeastRoom R octets terms r
    last_done h r number bits count more first last =
        let some = right.usable.some in
        let n : least_number R octets terms ≡ 0 = least-last e ∙ passes 13 [] (ap not (some-room R octets terms cut some h)) ∙ none_left in
        let done : (v : ℕ) → v ≡ when_done (least_number R octets terms) v 0 = λ v. sym (when-done (least_number R octets terms) v 0 n) in
        let least = least-is R octets terms cut some h in
        let c = blocks R terms.edition (block_bits octets) in
        let all-bits : r.bits.0 ≡ least_bits R octets terms = bits ∙ sym least in
        record {
          number = number ∙ sym n;
          bits = all-bits ∙ done _;
          blocks = count ∙ done _;
          larger = more ∙ sym (spare-is R octets terms cut some) ∙ ap (λ (g : ℕ). (spare terms g c).0) (sym least) ∙ done _;
          first = ap (λ (x : CodedBits). x.0) first ∙ ap₂ (λ (g n : ℕ). (share terms g n 0).0) all-bits count ∙ done _;
          last = ap (λ (x : CodedBits). x.0) last ∙ ap₂ (λ (g n : ℕ). (share terms g n (n - 1)).0) all-bits count ∙ done _;
        }
