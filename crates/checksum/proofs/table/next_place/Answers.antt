use mathlib.Core.Path.{sym, subst}
use Prim.Native.Nat.{ℕ, ◌-◌, ◌^◌, ◌<◌}
use native.Mathlib.Omega.{arith}
use lib.Bits.{xor_lt}
use lib.Pow.{pow_pos}
use Rattle.checksum.proofs.Fold.{fed_lt}
use Rattle.checksum.proofs.Machine.{place-apart}
use Rattle.checksum.proofs.table.next_place.Goals as goal

pub next_octet-requires : goal.next_octet-requires
next_octet-requires c = let pre = c.requires in (pre.0.wide, pre.0.fits.most, pre.1)

pub bounds-left-at : goal.bounds-left-at
bounds-left-at c = let st = c.before.before.before in omega (arith, st.requires.2, st.requires.0.size)

pub top_octet-requires : goal.top_octet-requires
top_octet-requires c =
    let st = c.before.before.before in
    let a = st.args in
    let table = st.requires.0 in
    (table.wide, omega (arith, table.fits.most), subst (λ (y : ℕ). y < 2 ^ a.w) (sym (table.entry a.at st.requires.2)) (fed_lt a.w _ 0 _ table.fits.below (pow_pos a.w)))

pub returns : goal.returns
returns c =
    let st = c.before.before.before.before in
    let a = st.args in
    let top = c.top_octet in
    let next = c.next_octet in
    (place-apart (a.w - 8) _ _ top.result next.result a.x top.ensures.0 next.ensures.0, xor_lt 8 _ _ top.ensures.1 (xor_lt 8 _ _ next.ensures.1 st.ranges.x.fits))
