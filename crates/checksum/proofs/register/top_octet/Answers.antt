use mathlib.Core.Path.{refl, subst}
use Prim.Native.Nat.{ℕ, ◌-◌, ◌^◌, ◌<◌}
use native.Mathlib.Omega.{arith}
use lib.Pow.{shr_lt}
use Rattle.checksum.proofs.register.top_octet.Goals as goal

pub returns : goal.returns
returns c =
    let a = c.args in
    (refl, shr_lt 8 (a.w - 8) (subst (λ (n : ℕ). a.reg < 2 ^ n) (omega (arith, c.requires.0)) c.requires.2))
