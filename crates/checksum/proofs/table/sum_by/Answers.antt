use mathlib.Core.Path.{◌≡◌, refl, sym, ap, ◌∙◌}
use Prim.Native.Nat.{ℕ, ◌+◌, ◌-◌, ◌/◌, ◌^◌}
use native.Mathlib.Nat.{zero-div}
use native.Mathlib.Omega.{arith}
use lib.Bits.{bit_xor, xor_zero_l}
use lib.ListN.{length, get_or, take, drop}
use lib.Pow.{pow_pos}
use lib.Seq.{get_or-take, get_or-drop}
use Rattle.bits.specs.Bits.{unpacked, digits}
use Rattle.bits.proofs.Octets.{unpacked-bits}
use Rattle.checksum.specs.Steps.Register.{fed}
use Rattle.checksum.specs.Steps.Table.{generator_of}
use Rattle.checksum.proofs.Fold.{checksum-fed, fed_lt, octet_turn, octet_end}
use Rattle.checksum.proofs.Machine.{one_look}
use Rattle.checksum.proofs.table.sum_by.Goals as goal

pub returns-then-octets-eq0 : goal.returns-then-octets-eq0
returns-then-octets-eq0 c =
    let st = c.before.before.before in
    let s = st.args.octets.now in
    let g = generator_of st.args.left.now in
    sym (checksum-fed st.args.w g st.requires.fits.some (unpacked s) (unpacked-bits s) ∙ octet_end st.args.w g 0 0 s (omega arith))

pub overflow_cast-at : goal.overflow_cast-at
overflow_cast-at c = omega (arith, c.shared_slice_known-3-1.given 0)

pub loop-octet-init : goal.loop-octet-init
loop-octet-init c =
    let a = c.args in
    let x = get_or a.octets.now 0 0 in
    let empty : bit_xor (0 / 2 ^ (a.w - 8)) x ≡ x = ap (λ (y : ℕ). bit_xor y x) (zero-div (2 ^ (a.w - 8))) ∙ xor_zero_l x in
    (pow_pos _, omega (arith, c.shared_slice_known-3-1.given 0), sym empty, refl)

pub loop-octet-preserved : goal.loop-octet-preserved
loop-octet-preserved c =
    let l = c.loop-octet in
    let st = c.before.before.before.before.before.before.before.before.before in
    let a = st.args in
    let table = a.left.now in
    let g = generator_of table in
    let s = a.octets.now in
    let look = c.moved-reg.ensures ∙ one_look a.w l.reg (get_or s l.octet-index 0) table st.requires l.invariant.0 l.at l.invariant.2 l.invariant.1 in
    let turn = octet_turn a.w g l.reg l.octet-index s (omega arith) in
    let place = c.next_place-place.ensures in
    let item : get_or (take (length s - 1) (drop 1 s)) l.octet-index 0 ≡ get_or s (l.octet-index + 1) 0 =
    get_or-take (length s - 1) (drop 1 s) l.octet-index 0 (omega arith) ∙ get_or-drop 1 s l.octet-index 0 ∙ ap (λ (k : ℕ). get_or s k 0) (omega arith) in (
      rw look (fed_lt a.w g l.reg (digits 8 (get_or s l.octet-index 0)) st.requires.fits.below l.invariant.0),
      place.1,
      cc (place.0, c.moved-reg.ensures, item),
      cc (turn, look, l.invariant.3),
    )

pub returns : goal.returns
returns c =
    let l = c.loop-octet in
    let st = c.before.before.before.before.before.before.before in
    let a = st.args in
    let table = a.left.now in
    let g = generator_of table in
    let s = a.octets.now in
    let look = c.moved.ensures ∙ one_look a.w l.reg (get_or s l.octet-index 0) table st.requires l.invariant.0 l.at l.invariant.2 l.invariant.1 in
    let turn = octet_turn a.w g l.reg l.octet-index s (omega arith) in
    let end = octet_end a.w g (fed a.w g l.reg (digits 8 (get_or s l.octet-index 0))) (l.octet-index + 1) s (omega arith) in
    cc (look, turn, end, l.invariant.3, checksum-fed a.w g st.requires.fits.some (unpacked s) (unpacked-bits s))
