-- The heads of a shelf's entries, read as eights of octets, and what the library's search over them finds.
use mathlib.Core.Path.{◌≡◌, ap, ◌∙◌}
use mathlib.Core.Bool.{true, false}
use mathlib.Core.List.{List, []}
use mathlib.Core.Logic.{⊎_elim}
use Prim.Native.Nat.{ℕ, zero, suc, ◌+◌, ◌*◌, ◌≤◌, ◌<◌}
use native.Mathlib.Nat.{eq-or-lt_of_le}
use native.Mathlib.Omega.{arith}
use lib.Dec.{ltb}
use lib.ListN.{length, take, drop, get_or}
use borrow.Author.Tests.{ltb-true, ltb-false, lt-ltb}
use Rattle.std.specs.Simd.{first_chunks}
use Rattle.std.specs.List.Sorted.{IsPartitionedBy, IsPartitionPoint}
use Rattle.std.proofs.lemmas.List.{get_or-take, get_or-drop}
use Rattle.bits.specs.Bits.{number_at}
use Rattle.shelf.specs.Shelf.{count, tenant, profile}
use Rattle.shelf.specs.Steps.Walking.{pair, pair_in, PairsRise}
use Rattle.shelf.specs.Steps.Finding.{Parted}

-- octet i of chunk k
in-chunk : (n m k i : ℕ) (xs : List ℕ) (d : List ℕ) → k < m → i < n → get_or (get_or (first_chunks n m xs) k d) i 0 ≡ get_or xs (k * n + i) 0
in-chunk n zero k i xs d l s = absurd (omega arith)
in-chunk n (suc m) zero i xs d l s = get_or-take n xs i 0 s ∙ ap (λ (j : ℕ). get_or xs j 0) (omega arith)
in-chunk n (suc m) (suc k) i xs d l s =
    in-chunk n m k i (drop n xs) d (omega arith) s ∙ get_or-drop n xs (k * n + i) 0 ∙ ap (λ (j : ℕ). get_or xs j 0) (omega arith)

module _ (S : List ℕ) (n : ℕ) where
  abbrev pub Heads : List (List ℕ)
  Heads = first_chunks 8 n (take (8 * n) (drop 2 S))

  octet : (k i at : ℕ) (d : List ℕ) → k < n → i < 8 → at ≡ 2 + 8 * k + i → get_or (get_or Heads k d) i 0 ≡ get_or S at 0
  octet k i at d l s e =
      in-chunk 8 n k i (take (8 * n) (drop 2 S)) d l s
      ∙ get_or-take (8 * n) (drop 2 S) (k * 8 + i) 0 (omega arith)
      ∙ get_or-drop 2 S (k * 8 + i) 0
      ∙ ap (λ (j : ℕ). get_or S j 0) (omega arith)

  pub head_pair : (k : ℕ) (d : List ℕ) → k < n → pair_in (get_or Heads k d) ≡ pair S k
  unfolding pair_in pair tenant profile number_at
  head_pair k d l =
      rw (
        octet k 0 (2 + 8 * k) d l (omega arith) (omega arith),
        octet k 1 (2 + 8 * k + 1) d l (omega arith) (omega arith),
        octet k 2 (4 + 8 * k) d l (omega arith) (omega arith),
        octet k 3 (4 + 8 * k + 1) d l (omega arith) (omega arith),
      )

pairs-in_order : (S : List ℕ) → PairsRise S → (i j : ℕ) → i ≤ j → j < count S → pair S i ≤ pair S j
pairs-in_order S up i j m l =
    ⊎_elim (λ e. let same : pair S i ≡ pair S j = ap (pair S) e in omega arith) (λ b. omega (arith, up i j b l)) (eq-or-lt_of_le m)

module _ (S : List ℕ) (asked n : ℕ) (e : n ≡ count S) (H : List (List ℕ)) (h : H ≡ Heads S n) (l : length H ≡ n) where
  in_head : (k : ℕ) (d : List ℕ) → k < n → pair_in (get_or H k d) ≡ pair S k
  in_head k d m = ap (λ (X : List (List ℕ)). pair_in (get_or X k d)) h ∙ head_pair S n k d m

  -- the pairs rise, so none below comes behind one that is not
  pub heads-parted : PairsRise S → IsPartitionedBy (λ (y : List ℕ). ltb (pair_in y) asked) H
  heads-parted up i j d m b t =
      let there : pair S j < asked = ltb-true (pair S j) asked (rw (in_head j d (omega arith)) at t) in
      let here : pair S i ≤ pair S j = pairs-in_order S up i j m (omega arith) in
      rw (in_head i d (omega arith)) (lt-ltb (pair S i) asked (omega arith))

  pub parted-at : (i : ℕ) → i ≤ n → IsPartitionPoint (λ (y : List ℕ). ltb (pair_in y) asked ≡ true) (λ (y : List ℕ). ltb (pair_in y) asked ≡ false) H i → Parted S asked i i
  parted-at i b p =
      record {
        inside = omega arith;
        below = λ j m. ltb-true (pair S j) asked (rw (in_head j [] (omega arith)) at (p.0 j [] (omega arith) m));
        others = λ j m s. ltb-false (pair S j) asked (rw (in_head j [] (omega arith)) at (p.1 j [] m (omega arith)));
      }
