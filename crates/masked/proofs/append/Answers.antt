use mathlib.Core.Path.{◌≡◌, refl, sym, ap, ◌∙◌, subst}
use mathlib.Core.Bool.{Bool, cond}
use mathlib.Core.List.{List, ◌++◌}
use Prim.Native.Nat.{ℕ, ◌+◌}
use native.Mathlib.Omega.{arith}
use lib.Dec.{eqb, ltb}
use lib.ListN.{length}
use lib.Seq.{sets}
use Rattle.std.specs.Prelude.{Result, Ok}
use Rattle.std.proofs.lemmas.Result.{err_from_is_err_and}
use Rattle.bits.specs.Bits.{digits}
use Rattle.bits.specs.declared.number.Refusal.{Refusal}
use Rattle.bits.proofs.Answers.{refusal-numbered}
use Rattle.checksum.specs.Masked.{attached_under}
use Rattle.checksum.specs.Promises.{bits_number, summed}
use Rattle.checksum.proofs.Answers.{bits-done}
use Rattle.masked.specs.Promises.{append_number, SumUnder}
use Rattle.masked.proofs.Answers.{sum_is, append_number_is, append-passed, append-refused, append-done}
use Rattle.masked.proofs.append.Goals as goal

-- the number r of a tested sum is that of appending
found : (w : ℕ) (bits : List ℕ) (lent n r : ℕ) (short : Bool) → n ≡ bits_number w bits → short ≡ ltb lent (length bits + w)
    → r ≡ cond (eqb n 8) 8 (cond short 11 n) → r ≡ append_number w bits lent
found w bits lent n r short sum is e = e ∙ ap (λ (b : Bool). cond (eqb n 8) 8 (cond b 11 n)) is ∙ append_number_is w bits n lent sum

pub returns-in_err-value : goal.returns-in_err-value
returns-in_err-value c =
    let a = c.args in
    let p = err_from_is_err_and c.from_residual.result c.from_residual.ensures.1 in
    let e = found a.width a.bits.now (length a.out.now) _ _ _ c.sum_under-sum.ensures.number c.is_short.ensures c.in_err-value.ensures.number in
    rw (p.1, p.2) (append-refused a.width a.mask a.bits.now a.out.now _ e (refusal-numbered _))

pub overflow_cast-width : goal.overflow_cast-width
overflow_cast-width c =
    let a = c.args in
    let e = found a.width a.bits.now (length a.out.now) _ 0 _ c.sum_under-sum.ensures.number c.is_short.ensures c.in_ok-value.ensures.number in
    let passed = append-passed a.width a.bits.now (length a.out.now) (sym e) in
    omega (arith, (bits-done a.width a.bits.now passed.0).0.most)

pub put_word-requires : goal.put_word-requires
put_word-requires c =
    let a = c.args in
    let e = found a.width a.bits.now (length a.out.now) _ 0 _ c.sum_under-sum.ensures.number c.is_short.ensures c.in_ok-value.ensures.number in
    let passed = append-passed a.width a.bits.now (length a.out.now) (sym e) in
    (omega (arith, (bits-done a.width a.bits.now passed.0).0.most), passed.1)

pub returns : goal.returns
unfolding attached_under
returns c =
    let a = c.args in
    let s = a.bits.now in
    let e = found a.width s (length a.out.now) _ 0 _ c.sum_under-sum.ensures.number c.is_short.ensures c.in_ok-value.ensures.number in
    let passed = append-passed a.width s (length a.out.now) (sym e) in
    let sum : SumUnder a.width a.mask s (summed (Ok c.in_ok-value.value)) =
    subst (λ (r : Result ℕ Refusal). SumUnder a.width a.mask s (summed r)) c.in_ok-value.ensures.value c.sum_under-sum.ensures in
    let word = ap (λ (v : ℕ). sets a.out.now 0 (s ++ digits a.width v)) (sum_is a.width a.mask s sum passed.0) in
    append-done a.width a.mask s a.out.now 0 e refl c.put_word.new.out (c.put_word.ensures ∙ word)
