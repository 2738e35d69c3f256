-- That a table holds what it has to, from one test that is computed: each entry is what its octet leaves, bit by bit.
use mathlib.Core.Path.{◌≡◌, sym, subst}
use mathlib.Core.Bool.{Bool, ◌&&◌}
use mathlib.Core.List.{List}
use Prim.Native.Nat.{ℕ, ◌^◌, ◌≤◌, ◌<◌}
use native.Mathlib.Omega.{arith}
use lib.Dec.{T, ltb, leb, eqb, ltb→lt, leb→le, eqb→eq}
use lib.Ieee.Fits.{and_l, and_r}
use lib.ListN.{length, get_or}
use Rattle.bits.specs.Bits.{digits}
use Rattle.bits.proofs.Tables.{every_entry, at_entry}
use Rattle.checksum.specs.Steps.Register.{fed}
use Rattle.checksum.specs.Steps.Table.{Left, generator_of}

abbrev pub entry_holds : ℕ → ℕ → ℕ → ℕ → Bool
entry_holds w g k x = eqb x (fed w g 0 (digits 8 k))

abbrev pub width_holds : ℕ → ℕ → Bool
width_holds w g = leb 8 w && leb w 24 && ltb g (2 ^ w)

abbrev pub table_holds : ℕ → List ℕ → Bool
table_holds w t = width_holds w (generator_of t) && eqb (length t) 256 && every_entry (entry_holds w (generator_of t)) 0 t

pub left_by_test : (w : ℕ) (t : List ℕ) → T (table_holds w t) → Left w t
left_by_test w t test =
    let g = generator_of t in
    let every = every_entry (entry_holds w g) 0 t in
    let sized = and_l (width_holds w g && eqb (length t) 256) every test in
    let width = and_l (width_holds w g) (eqb (length t) 256) sized in
    let ends = and_l (leb 8 w && leb w 24) (ltb g (2 ^ w)) width in
    let least : 8 ≤ w = leb→le 8 w (and_l (leb 8 w) (leb w 24) ends) in
    let size : length t ≡ 256 = eqb→eq (length t) 256 (and_r (width_holds w g) (eqb (length t) 256) sized) in
    record {
      fits = record {
        some = omega arith;
        most = leb→le w 24 (and_r (leb 8 w) (leb w 24) ends);
        below = ltb→lt g (2 ^ w) (and_r (leb 8 w && leb w 24) (ltb g (2 ^ w)) width);
      };
      wide = least;
      size = size;
      entry = λ k h.
          eqb→eq (get_or t k 0) (fed w g 0 (digits 8 k))
          (at_entry (entry_holds w g) t (and_r (width_holds w g && eqb (length t) 256) every test) k (subst (λ (n : ℕ). k < n) (sym size) h));
    }
