-- what is laid and then put is written as one list.
use mathlib.Core.Path.{◌≡◌, sym, ap₂, ◌∙◌}
use mathlib.Core.List.{List, ◌++◌}
use Prim.Native.Nat.{ℕ, ◌+◌, ◌≤◌}
use native.Mathlib.Nat.{zero-add}
use native.Mathlib.Omega.{arith}
use lib.ListN.{length, drop}
use lib.Seq.{sets, sets-eq, take_all}
use borrow.Author.Rules.{rules}
use Rattle.bits.specs.Bits.{digits}
use Rattle.bits.specs.Steps.Places.{Laid}
use Rattle.bits.proofs.Laid.{laid-over}
use Rattle.bits.proofs.Lists.{sets-append}
use Rattle.masked.proofs.put_word.Goals as goal

-- the whole of s, laid over the front of a
laid-all : (s a b : List ℕ) → length s ≤ length a → Laid s 0 (length s) a 0 b → b ≡ sets a 0 s
laid-all s a b h l =
    let n = length s in
    let room : 0 + n ≤ length a = omega arith in
    let all : n ≤ length s = omega arith in
    laid-over s a b n all h l
    ∙ ap₂ (λ (x : List ℕ) (k : ℕ). x ++ drop k a) (take_all n s (omega arith)) (sym (zero-add n)) ∙ sym (sets-eq s a 0 room)

pub returns : goal.returns
returns c =
    let a = c.args in
    let s = a.bits.now in
    let out = a.out.now in
    let lay = c.lay in
    let first = laid-all s out lay.new.out (search rules) lay.ensures in
    let both = sets-append out 0 s (digits a.w a.sum) in
    cc (first, both, zero-add (length s))
