-- What the call answers: what has passed where the number is 0, and the whole answer.
use mathlib.Core.Path.{◌≡◌, sym, ◌∙◌}
use mathlib.Core.Bool.{not}
use mathlib.Core.List.{List, ◌++◌}
use Prim.Native.Nat.{ℕ, ◌+◌, ◌≤◌}
use borrow.Author.Tests.{ltb-false, eqb-true, not-false}
use lib.Dec.{eqb, ltb, lit<}
use lib.ListN.{length, drop}
use Rattle.bits.specs.Bits.{AreBits, some_over, digits}
use Rattle.bits.specs.Ranges.{within}
use Rattle.bits.proofs.Answers.{passed, when-done, when_refused}
use Rattle.bits.proofs.Over.{over_none_bits}
use Rattle.bits.proofs.Ranges.{within-is}
use Rattle.nearest.specs.Nearest.{away, nearest}
use Rattle.nearest.specs.Promises.{nearest_word_number, WordFound}

-- three streams of the right length, of single bits, and room for a word
pub record Taken (D : ℕ) (heard : List ℕ) (lent : ℕ) : Type 0 where
  pub six : 6 ≤ D
  pub most : D ≤ 128
  pub size : length heard ≡ D + D + D
  pub fits : D ≤ lent
  pub bits : AreBits heard

pub taken : (D : ℕ) (heard : List ℕ) (lent : ℕ) → nearest_word_number D heard lent ≡ 0 → Taken D heard lent
unfolding nearest_word_number
taken D heard lent e =
    let a = passed 17 _ (not (within 6 128 D)) (lit< tt) e in
    let b = passed 8 _ (not (eqb (length heard) (D + D + D))) (lit< tt) a.1 in
    let d = passed 11 _ (ltb lent D) (lit< tt) b.1 in
    let f = passed 12 _ (some_over 1 heard) (lit< tt) d.1 in
    let w = within-is 6 128 D (not-false (within 6 128 D) a.0) in
    record {
      six = w.0;
      most = w.1;
      size = eqb-true (length heard) (D + D + D) (not-false (eqb (length heard) (D + D + D)) b.0);
      fits = ltb-false lent D d.0;
      bits = over_none_bits heard f.0;
    }

module _ (D : ℕ) (heard out : List ℕ) (n : ℕ) (e : n ≡ nearest_word_number D heard (length out)) where
  pub found-refused : (n ≡ 0 → ⊥) → WordFound D heard out (record { number = n; count = 0; differences = 0 }) out
  found-refused h =
      let m = nearest_word_number D heard (length out) in
      let refused : m ≡ 0 → ⊥ = λ q. h (e ∙ q) in
      record {
        number = e;
        count = sym (when_refused m D 0 refused);
        differences = sym (when_refused m (away D heard (nearest D heard)) 0 refused);
        output = sym (when_refused m (digits D (nearest D heard) ++ drop D out) out refused);
      }

  pub found-done : (v : ℕ) (out' : List ℕ) → n ≡ 0 → v ≡ away D heard (nearest D heard) → out' ≡ digits D (nearest D heard) ++ drop D out
      → WordFound D heard out (record { number = n; count = D; differences = v }) out'
  found-done v out' h q w =
      let m = nearest_word_number D heard (length out) in
      let done : m ≡ 0 = sym e ∙ h in
      record {
        number = e;
        count = sym (when-done m D 0 done);
        differences = q ∙ sym (when-done m (away D heard (nearest D heard)) 0 done);
        output = w ∙ sym (when-done m (digits D (nearest D heard) ++ drop D out) out done);
      }
