use mathlib.Core.Path.{◌≡◌, sym, ap, ◌∙◌}
use Prim.Native.Nat.{ℕ, ◌+◌, ◌*◌, ◌<◌}
use native.Mathlib.Nat.{add-zero}
use lib.Dec.{lit<}
use lib.ListN.{get_or, length-set}
use borrow.Author.Rules.{rules}
use Rattle.bits.specs.Bits.{digits}
use Rattle.bits.proofs.Words.{four-set}
use Rattle.bits.proofs.inner.put_four.Goals as goal

pub bounds-out-at-2 : goal.bounds-out-at-2
bounds-out-at-2 c = simp length-set (search rules)

pub bounds-out-at-3 : goal.bounds-out-at-3
bounds-out-at-3 c = simp length-set (search rules)

pub bounds-out-at-4 : goal.bounds-out-at-4
bounds-out-at-4 c = simp length-set (search rules)

pub returns : goal.returns
returns c =
    let st = c.before.before.before.before in
    let a = st.args in
    let at : (k : ℕ) → k < 4 → get_or a.fours.now (4 * a.n + k) 0 ≡ get_or (digits 4 a.n) k 0 = λ k h. st.requires.0.at a.n k st.requires.1 h in
    four-set _ _ a.n _ _ _ _ (ap (λ (p : ℕ). get_or a.fours.now p 0) (sym (add-zero (4 * a.n))) ∙ at 0 (lit< tt)) (at 1 (lit< tt)) (at 2 (lit< tt)) (at 3 (lit< tt))
