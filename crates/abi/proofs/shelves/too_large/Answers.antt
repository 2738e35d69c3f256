use mathlib.Core.Path.{◌≡◌, refl}
use mathlib.Core.Bool.{true, false}
use native.Mathlib.Omega.{arith}
use lib.Dec.{ltb}
use borrow.Author.Tests.{lt-ltb, le-ltb}
use Rattle.abi.specs.Promises.{too_large}
use Rattle.abi.proofs.shelves.too_large.Goals as goal

pub returns-then-tenant-gt-MOST : goal.returns-then-tenant-gt-MOST
unfolding too_large
returns-then-tenant-gt-MOST c =
    let t = c.args.tenant in
    let over : ltb 65535 t ≡ true = lt-ltb 65535 t (omega arith) in
    rw over refl

pub returns : goal.returns
unfolding too_large
returns c =
    let t = c.args.tenant in
    let under : ltb 65535 t ≡ false = le-ltb 65535 t (omega arith) in
    rw under refl
