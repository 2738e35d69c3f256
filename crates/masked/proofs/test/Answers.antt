-- the front is summed, and the octets behind it are looked at and compared.
use mathlib.Core.Path.{◌≡◌, sym, ap, ◌∙◌}
use mathlib.Core.Bool.{Bool, ◌&&◌}
use mathlib.Core.List.{List}
use Prim.Native.Nat.{ℕ, ◌-◌}
use native.Mathlib.Omega.{arith}
use lib.Dec.{eqb, leb}
use lib.ListN.{length, take, drop, length-drop}
use lib.Seq.{take_all}
use Rattle.std.proofs.lemmas.Result.{err_from_is_err_and}
use Rattle.bits.specs.Bits.{some_over, value_of}
use Rattle.bits.proofs.Answers.{refusal-numbered}
use Rattle.checksum.specs.Masked.{checksum_under}
use Rattle.checksum.specs.Promises.{generator, bits_number}
use Rattle.checksum.proofs.Answers.{bits-done}
use Rattle.masked.proofs.Answers.{sum_is, front_refuses, rest_refuses, neither_refuses, test-refused, test-done, ends_tests}
use Rattle.masked.proofs.test.Goals as goal

-- what is looked at is all that stands behind the front
looked : (n : ℕ) (word : List ℕ) (over : Bool) → over ≡ some_over 1 (take (length word - n) (drop n word)) → over ≡ some_over 1 (drop n word)
looked n word over e = e ∙ ap (some_over 1) (take_all (length word - n) (drop n word) (omega (arith, length-drop n word)))

pub returns-in_err-sum : goal.returns-in_err-sum
returns-in_err-sum c =
    let a = c.args in
    let word = a.word.now in
    let front = c.saturating_sub-a.result in
    let number = c.in_err-sum.ensures.number in
    let refused : bits_number a.width (take front word) ≡ 0 → ⊥ = λ z. refusal-numbered _ (number ∙ z) in
    let p = err_from_is_err_and c.from_residual.result c.from_residual.ensures.1 in
    rw (p.1, p.2) (test-refused a.width a.mask word _ (number ∙ front_refuses a.width word front refused) (refusal-numbered _))

pub returns-then-some_over : goal.returns-then-some_over
returns-then-some_over c =
    let a = c.args in
    let front = c.saturating_sub-a.result in
    let over = sym (looked front a.word.now _ c.some_over.ensures) ∙ c.if-some_over.true in
    let number : 12 ≡ bits_number a.width a.word.now = rest_refuses a.width a.word.now front (sym c.in_ok-sum.ensures.number) over in
    test-refused a.width a.mask a.word.now 12 number (λ z. omega arith)

pub overflow_cast-width : goal.overflow_cast-width
overflow_cast-width c =
    let a = c.args in
    let front = c.saturating_sub-a.result in
    let over = sym (looked front a.word.now _ c.some_over.ensures) ∙ c.if-some_over.false in
    let done = neither_refuses a.width a.word.now front (sym c.in_ok-sum.ensures.number) over in
    omega (arith, (bits-done a.width a.word.now done).0.most)

pub ends_in-requires : goal.ends_in-requires
ends_in-requires c =
    let a = c.args in
    let front = c.saturating_sub-a.result in
    let over = sym (looked front a.word.now _ c.some_over.ensures) ∙ c.if-some_over.false in
    let done = neither_refuses a.width a.word.now front (sym c.in_ok-sum.ensures.number) over in
    let fits = bits-done a.width a.word.now done in
    (omega (arith, fits.0.most), fits.1)

pub returns : goal.returns
returns c =
    let a = c.args in
    let word = a.word.now in
    let g = generator a.width in
    let n = length word - a.width in
    let front = c.saturating_sub-a.result in
    let over = sym (looked front word _ c.some_over.ensures) ∙ c.if-some_over.false in
    let summed = sym c.in_ok-sum.ensures.number in
    let done = neither_refuses a.width word front summed over in
    let fits = bits-done a.width word done in
    let is : front ≡ n = c.saturating_sub-a.ensures in
    let value : c.in_ok-sum.sum ≡ checksum_under a.width g a.mask (take n word) =
    sum_is a.width a.mask (take front word) c.in_ok-sum.ensures summed ∙ ap (λ (k : ℕ). checksum_under a.width g a.mask (take k word)) is in
    let holds = c.ends_in.ensures ∙ ap (λ (v : ℕ). leb a.width (length word) && eqb v (value_of (drop n word))) value
    ∙ ends_tests a.width a.mask word g fits.0.below fits.1 in
    test-done a.width a.mask word done c.ends_in.result holds
