use mathlib.Core.Path.{ap, ◌∙◌}
use Prim.Native.Nat.{ℕ}
use native.Mathlib.Omega.{arith}
use lib.Bits.{bit_xor}
use lib.ListN.{get_or}
use Rattle.checksum.proofs.Machine.{moved_up}
use Rattle.checksum.proofs.table.moved.Goals as goal

pub cut-requires : goal.cut-requires
cut-requires c = omega (arith, c.requires.0.fits.most)

pub bounds-left-at : goal.bounds-left-at
bounds-left-at c = let st = c.before.before.before in omega (arith, st.requires.2, st.requires.0.size)

pub returns : goal.returns
returns c =
    let st = c.before.before.before in
    let a = st.args in
    ap (λ (y : ℕ). bit_xor y (get_or a.left.now a.at 0)) (c.cut.ensures ∙ moved_up a.w a.reg st.requires.1 st.requires.0.fits.most)
