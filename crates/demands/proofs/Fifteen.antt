-- "With accepted profiles the staircase gives parity bits that always check. Show that no input makes sending answer 15, take the branch out, and keep 15
-- unused. The order of the others stays." (document 02, CR 6)
use mathlib.Core.Path.{◌≡◌, refl, sym, ap, ◌∙◌}
use mathlib.Core.Bool.{Bool, true, false, not, ◌||◌}
use mathlib.Core.List.{List, [], ◌∷◌, ◌++◌}
use Prim.Native.Nat.{ℕ, ◌+◌, ◌*◌, ◌<◌}
use native.Mathlib.Omega.{arith}
use borrow.Author.Tests.{eqb-false}
use lib.Dec.{eqb}
use lib.ListN.{length}
use Rattle.bits.specs.Numbers.{answered}
use Rattle.bits.specs.declared.count.Terms.{Terms}
use Rattle.bits.proofs.Answers.{passes, none_left, first_part, Refusals, last_part}
use Rattle.bits.proofs.Ranges.{any_none, equal_or, neither}
use Rattle.profile.specs.Record.{kb, z, rows, columns, table}
use Rattle.profile.specs.Staircase.{staircase, extended}
use Rattle.profile.specs.Promises.{judged}
use Rattle.profile.proofs.Extension.{extended-is}
use Rattle.profile.proofs.Stairs.{staircase-is}
use Rattle.cutting.specs.Plan.{block_bits, blocks, size_index}
use Rattle.cutting.specs.Promises.{plan_number}
use Rattle.cutting.specs.Transport.{transport}
use Rattle.cutting.specs.Cutting.{systematic}
use Rattle.parity.specs.Coded.{has_parity}
use Rattle.parity.specs.Promises.{has_size, table_for, code_conditions, code_number}
use Rattle.parity.proofs.Answers.{block-taken}
use Rattle.parity.proofs.Coded.{has-parity}
use Rattle.parity.proofs.Ready.{ready}
use Rattle.coding.specs.Promises.{send_conditions, send_number}
use Rattle.coding.proofs.Answers.{send-planned}
use Rattle.shelf.specs.Lookup.{lookup_conditions, lookup_record}
use Rattle.demands.specs.Fifteen.{block_has_parity, some_without_parity, send_with_fifteen, hosted_with_fifteen, code_with_fifteen}
use Rattle.demands.proofs.Steps.{sys_size, stairs}

-- ---- "With accepted profiles the staircase gives parity bits that always check"

-- for every table that 6 accepts, extension and all, every z and all places: bits, and marks anywhere
pub parity_exists : (T : List ℕ) (kb m x z : ℕ) (places : List ℕ) → staircase T kb m (kb + (m + x)) ≡ true → extended T kb m x (kb + (m + x)) ≡ true
    → length places ≡ kb * z → has_parity T (m + x) (kb + (m + x)) z places ≡ true
parity_exists T kb m x z places accepted accepted' long =
    has-parity T (m + x) (kb + (m + x)) z places kb long
    (record {
      tall = omega arith;
      wide = refl;
      stairs = staircase-is T kb m (kb + (m + x)) accepted;
      extension = extended-is T kb m x (kb + (m + x)) accepted';
    })

-- so for those of an accepted profile
pub parity_always : (R : List ℕ) (z' : ℕ) (places : List ℕ) → judged R ≡ 0 → has_size R z' ≡ true → length places ≡ kb R * z'
    → has_parity (table_for R z') (rows R) (columns R) z' places ≡ true
parity_always R z' places accepted size long =
    has-parity (table_for R z') (rows R) (columns R) z' places (kb R) long (ready R z' accepted size).stairs

-- and no transport block that can be cut has a block without them
pub fifteen_never : (R : List ℕ) (ed : ℕ) (block : List ℕ) → plan_number R ed (length block) ≡ 0 → some_without_parity R ed block ≡ false
unfolding some_without_parity block_has_parity
fifteen_never R ed block taken =
    let b = block_bits (length block) in
    let i = size_index R ed b in
    any_none (blocks R ed b) _
    (λ r l. ap not (has-parity (table R i) (rows R) (columns R) (z R i) (systematic R ed b (transport block) r) (kb R) (sys_size R ed block taken r l) (stairs R ed block taken)))

-- ---- the list with 15 and the list without it answer alike, for every input

-- a last number whose condition does not hold where the numbers before it pass changes nothing
last_idle : (l : List (ℕ × Bool)) → Refusals l → (n : ℕ) (c : Bool) → (answered l ≡ 0 → c ≡ false) → answered (l ++ ((n, c) ∷ [])) ≡ answered l
last_idle l r n c idle =
    equal_or (answered l) 0
    (λ e. last_part l ((n, c) ∷ []) r e ∙ passes n [] (idle e) ∙ none_left ∙ sym e)
    (λ some. first_part l ((n, c) ∷ []) some)

pub send_the_same : (R block : List ℕ) (terms : Terms) (g lent : ℕ) → answered (send_with_fifteen R block terms g lent) ≡ send_number R block terms g lent
unfolding send_number Refusals
send_the_same R block terms g lent =
    last_idle (send_conditions R block terms g lent) tt 15 (some_without_parity R terms.edition block)
    (λ e. fifteen_never R terms.edition block (send-planned R block terms g lent e))

pub hosted_the_same : (private public : List ℕ) (t p : ℕ) (block : List ℕ) (terms : Terms) (g lent : ℕ)
    → answered (hosted_with_fifteen private public t p block terms g lent)
    ≡ answered (lookup_conditions private public t p ++ send_conditions (lookup_record private public t p) block terms g lent)
unfolding Refusals send_number
hosted_the_same private public t p block terms g lent =
    let first = lookup_conditions private public t p in
    let R = lookup_record private public t p in
    equal_or (answered first) 0
    (λ e. last_part first (send_with_fifteen R block terms g lent) tt e ∙ send_the_same R block terms g lent
    ∙ sym (last_part first (send_conditions R block terms g lent) tt e))
    (λ some. first_part first (send_with_fifteen R block terms g lent) some ∙ sym (first_part first (send_conditions R block terms g lent) some))

pub code_the_same : (R : List ℕ) (z' : ℕ) (places : List ℕ) (lent : ℕ) → answered (code_with_fifteen R z' places lent) ≡ code_number R z' places lent
unfolding code_number Refusals
code_the_same R z' places lent =
    last_idle (code_conditions R z' places lent) tt 15 (not (has_parity (table_for R z') (rows R) (columns R) z' places))
    (λ e. let taken = (block-taken R z' places lent e).0 in ap not (parity_always R z' places taken.judged taken.size taken.long))

-- ---- "no input makes sending answer 15": the lists that have it

-- n is one of a list's numbers
unfoldable listed : ℕ → List (ℕ × Bool) → Bool
listed n [] = false
listed n ((k, c) ∷ l) = eqb n k || listed n l

-- no number is answered but one of the list's own, and 0
not_answered : (l : List (ℕ × Bool)) (n : ℕ) → listed n l ≡ false → 0 < n → answered l ≡ n → ⊥
unfolding listed answered
not_answered [] n other some e = omega arith
not_answered ((k, true) ∷ l) n other some e = eqb-false n k (neither (eqb n k) (listed n l) other).0 (sym e)
not_answered ((k, false) ∷ l) n other some e = not_answered l n (neither (eqb n k) (listed n l) other).1 some e

pub send_never : (R block : List ℕ) (terms : Terms) (g lent : ℕ) → answered (send_with_fifteen R block terms g lent) ≡ 15 → ⊥
unfolding send_number listed
send_never R block terms g lent e =
    not_answered (send_conditions R block terms g lent) 15 refl (omega arith) (sym (send_the_same R block terms g lent) ∙ e)

pub hosted_never : (private public : List ℕ) (t p : ℕ) (block : List ℕ) (terms : Terms) (g lent : ℕ)
    → answered (hosted_with_fifteen private public t p block terms g lent) ≡ 15 → ⊥
unfolding listed
hosted_never private public t p block terms g lent e =
    not_answered (lookup_conditions private public t p ++ send_conditions (lookup_record private public t p) block terms g lent) 15 refl (omega arith)
    (sym (hosted_the_same private public t p block terms g lent) ∙ e)

pub code_never : (R : List ℕ) (z' : ℕ) (places : List ℕ) (lent : ℕ) → answered (code_with_fifteen R z' places lent) ≡ 15 → ⊥
unfolding code_number listed
code_never R z' places lent e = not_answered (code_conditions R z' places lent) 15 refl (omega arith) (sym (code_the_same R z' places lent) ∙ e)
