-- both ways are of `Machine`.
use mathlib.Core.Path.{ap, ◌∙◌}
use Prim.Native.Nat.{ℕ, ◌-◌, ◌/◌, ◌^◌}
use native.Mathlib.Omega.{arith}
use lib.Bits.{mask_lt}
use Rattle.checksum.proofs.Machine.{moved_up, second_octet, low_lt}
use Rattle.checksum.proofs.register.next_octet.Goals as goal

pub top_octet-requires : goal.top_octet-requires
top_octet-requires c =
    let st = c.before.before in
    (st.requires.0, omega (arith, st.requires.1), low_lt 32 st.args.w (omega (arith, st.requires.1)) _ _ c.cut.ensures)

pub returns-then-w-lt16 : goal.returns-then-w-lt16
returns-then-w-lt16 c =
    let st = c.before.before.before in
    let a = st.args in
    (c.top_octet.ensures.0 ∙ ap (λ (y : ℕ). y / 2 ^ (a.w - 8)) (c.cut.ensures ∙ moved_up a.w a.reg st.requires.2 st.requires.1), c.top_octet.ensures.1)

pub returns : goal.returns
returns c =
    let a = c.args in
    (second_octet a.w a.reg (omega arith), mask_lt (a.reg / 2 ^ (a.w - 16)) 8)
