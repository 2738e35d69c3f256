-- The parity columns as they are laid, one after the other, and that each holds what it is due.
use mathlib.Core.Path.{◌≡◌, refl, sym, ap, ◌∙◌, subst}
use mathlib.Core.List.{List}
use Prim.Native.Nat.{ℕ, zero, suc, ◌+◌, ◌-◌, ◌*◌, ◌%◌, ◌≤◌, ◌<◌}
use native.Mathlib.Nat.{zero-add, add-zero, zero-mul, suc-mul, add-mul, le_antisymm, mul-le-mul_right}
use native.Mathlib.Numerals.{add-one}
use native.Mathlib.Omega.{arith}
use lib.Arith.{digits_lt}
use lib.ListN.{length, get_or}
use Rattle.bits.specs.Ranges.{sum_below}
use Rattle.bits.proofs.Ranges.{last_or}
use Rattle.parity.specs.Steps.Grouped.{low_bit, row_part, stack, due, Begun}
use Rattle.parity.specs.Steps.Runs.{lanes, Run, copied, added, Sums, down, all_rows, rows_above, Groups, Together}
use Rattle.parity.proofs.Rows.{same_bit, part_same, stack_same}
use Rattle.parity.proofs.Runs.{run_bits}
use Rattle.parity.proofs.Columns.{sums_word}
use Rattle.parity.proofs.Unique.{due-first, due-next, due-later, due-same}

-- ---- the rows of s together, in a group

module _ (s : List ℕ) where
  pub together-none : (g : List ℕ) → ((k : ℕ) → get_or g k 0 ≡ 0) → Together s 0 g
  unfolding down sum_below
  together-none g h = record { bits = λ k. omega (arith, h k); at = λ u l. h u }

  pub together_more : {r row : ℕ} {a b : List ℕ} → row ≡ r * lanes → Together s r a → Run lanes (added a 0 s row) a 0 b → Together s (r + 1) b
  unfolding down sum_below added
  together_more {r} {row} {a} {b} e h run =
      record {
        bits = run_bits _ a 0 lanes b run (λ k l. omega arith) h.bits;
        at = λ u l. rw (add-one r)
            (omega (
              arith,
              ap (λ (x : ℕ). get_or b x 0) (zero-add u),
              ap (λ (x : ℕ). get_or a x 0) (zero-add u),
              ap (λ (x : ℕ). get_or s (x + u) 0) e,
              run.inside u l,
              h.at u l,
            ));
      }

  pub together-all : {r n : ℕ} {g : List ℕ} → r ≤ n → n ≤ r → Together s r g → Together s n g
  together-all {r} {n} {g} h l u = subst (λ (x : ℕ). Together s x g) (le_antisymm h l) u

  together-copied : (r : ℕ) (g : List ℕ) → Together s r g → (u : ℕ) → u < lanes → copied g 0 u ≡ down s r u % 2
  unfolding copied low_bit
  together-copied r g h u l = omega (arith, ap (λ (x : ℕ). get_or g x 0) (zero-add u), h.at u l)

-- ---- groups laid one after the other

module _ (z : ℕ) (f : ℕ → ℕ → ℕ) (a : List ℕ) (at : ℕ) where
  pub groups_none : Groups z 0 f a at a
  groups_none = record { len = refl; inside = λ j u l. absurd (omega arith); below = λ p l. refl }

  groups-more : (n : ℕ) (h : ℕ → ℕ) (b c : List ℕ) → Groups z n f a at b → Run z h b (at + n * z) c → ((u : ℕ) → u < z → h u ≡ f n u)
      → Groups z (n + 1) f a at c
  groups-more n h b c g r e =
      record {
        len = r.len ∙ g.len;
        inside = λ j u l low.
            last_or j n (omega arith)
            (λ o. r.below (at + j * z + u) (omega (arith, digits_lt {q = j} {m = n} o low)) ∙ g.inside j u o low)
            (λ q. ap (λ (x : ℕ). get_or c (at + x * z + u) 0) q ∙ r.inside u low ∙ e u low ∙ ap (λ (x : ℕ). f x u) (sym q));
        below = λ p l. r.below p (omega arith) ∙ g.below p l;
      }

  pub groups_all : {k n : ℕ} {b : List ℕ} → k ≤ n → n ≤ k → Groups z k f a at b → Groups z n f a at b
  groups_all {k} {n} {b} h l g = subst (λ (x : ℕ). Groups z x f a at b) (le_antisymm h l) g

  groups-one : (h : ℕ → ℕ) (b : List ℕ) → Run z h a at b → ((u : ℕ) → u < z → h u ≡ f 0 u) → Groups z 1 f a at b
  groups-one h b r e =
      groups_all (omega arith) (omega arith)
      (groups-more 0 h a b groups_none (subst (λ (x : ℕ). Run z h a x b) (sym (ap (λ (x : ℕ). at + x) (zero-mul z) ∙ add-zero at)) r) e)

-- the first parity column, and one more of the others
module _ (s : List ℕ) (z : ℕ) (a : List ℕ) (at : ℕ) (most : z ≤ 81) where
  pub laid-first : {m : ℕ} {g b : List ℕ} → Together s m g → Run z (copied g 0) a at b → Groups z 1 (all_rows s m) a at b
  unfolding all_rows
  laid-first {m} {g} {b} h r = groups-one z _ a at (copied g 0) b r (λ u l. together-copied s m g h u (omega arith))

  pub laid_more : {n to : ℕ} {g b c : List ℕ} → Together s (n + 1) g → Groups z n (rows_above s) a at b
      → Run z (copied g 0) b to c → to ≡ at + n * z → Groups z (n + 1) (rows_above s) a at c
  unfolding rows_above
  laid_more {n} {to} {g} {b} {c} h groups r e =
      groups-more z _ a at n (copied g 0) b c groups (subst (λ (x : ℕ). Run z (copied g 0) b x c) e r)
      (λ u l. together-copied s (suc n) g (subst (λ (x : ℕ). Together s x g) (add-one n) h) u (omega arith))

-- ---- what the sums of the rows come to, together

down-stack : (T : List ℕ) (rows columns z : ℕ) (w : List ℕ) (n : ℕ) (s : List ℕ) → Sums T rows columns z w n 0 s → (r : ℕ) → r ≤ rows
    → (u : ℕ) → u < z → down s r u % 2 ≡ stack T columns z w n r u % 2
unfolding down stack sum_below
down-stack T rows columns z w n s sums zero l u low = refl
down-stack T rows columns z w n s sums (suc r) l u low =
    omega (arith, down-stack T rows columns z w n s sums r (omega arith) u low, sums.left r u (omega arith) l low)

-- the word after its first parity column is laid: the same in the columns that were added
pub first-same : (kb z : ℕ) (f : ℕ → ℕ → ℕ) (a b : List ℕ) → Groups z 1 f a (kb * z) b → (p : ℕ) → p < kb * z → low_bit a p ≡ low_bit b p
first-same kb z f a b g p l = same_bit a b p (sym (g.below p l))

-- room for the staircase's columns past the first
pub steps_in : (kb m rows z : ℕ) → 0 < m → m ≤ rows → (kb + 1) * z + (m - 1) * z ≤ (kb + rows) * z
steps_in kb m rows z h l =
    let e : kb + 1 + (m - 1) ≤ kb + rows = omega arith in
    omega (arith, add-mul (kb + 1) (m - 1) z, mul-le-mul_right z e)

-- the staircase's columns laid
module _ (T : List ℕ) (kb m rows columns z : ℕ) (a b c s s' : List ℕ) (some : 0 < z) (tall : m ≤ rows) (sums : Sums T rows columns z a kb 0 s)
    (sums' : Sums T rows columns z b (kb + 1) 0 s') (one : Groups z 1 (all_rows s m) a (kb * z) b)
    (next : Groups z (m - 1) (rows_above s') b ((kb + 1) * z) c) where
  step : (kb + 1) * z ≡ kb * z + z
  step = ap (λ (x : ℕ). x * z) (add-one kb) ∙ suc-mul kb z

  front : (p : ℕ) → p < kb * z → get_or c p 0 ≡ get_or a p 0
  front p l = next.below p (omega (arith, step)) ∙ one.below p l

  first-at : (u : ℕ) → u < z → get_or c ((kb + 0) * z + u) 0 ≡ down s m u % 2
  unfolding all_rows
  first-at u low =
      ap (λ (x : ℕ). get_or c (x * z + u) 0) (add-zero kb)
      ∙ next.below (kb * z + u) (omega (arith, step))
      ∙ ap (λ (x : ℕ). get_or b (x + u) 0) (sym (ap (λ (x : ℕ). kb * z + x) (zero-mul z) ∙ add-zero (kb * z)))
      ∙ one.inside 0 u (omega arith) low

  next-at : (n u : ℕ) → suc n < m → u < z → get_or c ((kb + suc n) * z + u) 0 ≡ down s' (suc n) u % 2
  unfolding rows_above
  next-at n u l low =
      let e : kb + suc n ≡ kb + 1 + n = omega arith in
      ap (λ (x : ℕ). get_or c (x + u) 0) (ap (λ (x : ℕ). x * z) e ∙ add-mul (kb + 1) n z) ∙ next.inside n u (omega arith) low

  column-at : (n u : ℕ) → n < m → u < z → get_or c ((kb + n) * z + u) 0 ≡ due T kb m columns z c n u % 2
  column-at zero u l low =
      first-at u low ∙ down-stack T rows columns z a kb s sums m tall u low
      ∙ ap (λ (x : ℕ). x % 2)
      (stack_same T columns z a c kb some (λ p o. same_bit a c p (sym (front p o))) m u ∙ sym (due-first T kb m columns z c u))
  column-at (suc n) u l low =
      next-at n u l low ∙ down-stack T rows columns z b (kb + 1) s' sums' (suc n) (omega arith) u low
      ∙ ap (λ (x : ℕ). x % 2)
      (stack_same T columns z b c (kb + 1) some (λ p o. same_bit b c p (sym (next.below p o))) (suc n) u
      ∙ ap (λ (x : ℕ). stack T columns z c x (suc n) u) (add-one kb) ∙ sym (due-next T kb m columns z c (suc n) u (omega arith) l))

  pub laid_begun : length a ≡ columns * z → Begun T kb m columns z a m c
  laid_begun e = record { size = next.len ∙ one.len ∙ e; front = front; laid = column-at }

  pub laid-sums : Sums T rows columns z c (kb + 1) 0 s'
  laid-sums = sums_word T rows columns z b c some (λ p l. same_bit b c p (sym (next.below p l))) sums'

-- ---- past the staircase

-- a column laid: the same before it
pub own_same : (w w' : List ℕ) {z at : ℕ} {f : ℕ → ℕ} → Run z f w at w' → (p : ℕ) → p < at → low_bit w p ≡ low_bit w' p
own_same w w' r p l = same_bit w w' p (sym (r.below p l))

module _ (T : List ℕ) (kb m rows columns z : ℕ) (w w' s : List ℕ) (some : 0 < z) where
  own_at : (n : ℕ) → 0 < m → m ≤ n → n < rows → Sums T rows columns z w (kb + n) 0 s → Run z (copied s (n * lanes)) w ((kb + n) * z) w'
      → (u : ℕ) → u < z → get_or w' ((kb + n) * z + u) 0 ≡ due T kb m columns z w' n u % 2
  unfolding copied low_bit
  own_at n rowed h l sums r u low =
      let d : due T kb m columns z w' n u ≡ row_part T columns z w (kb + n) n u =
      due-later T kb m columns z w' n u rowed h ∙ sym (part_same T columns z w w' (kb + n) some (own_same w w' r) n u) in
      omega (arith, r.inside u low, sums.left n u (omega arith) l low, d)

  pub begun_more : {n : ℕ} {sys : List ℕ} → 0 < m → m ≤ n → n < rows → Begun T kb m columns z sys n w → Sums T rows columns z w (kb + n) 0 s
      → Run z (copied s (n * lanes)) w ((kb + n) * z) w' → Begun T kb m columns z sys (n + 1) w'
  begun_more {n} {sys} rowed h l b sums r =
      record {
        size = r.len ∙ b.size;
        front = λ p o. r.below p (omega (arith, mul-le-mul_right {m = kb} {n = kb + n} z (omega arith))) ∙ b.front p o;
        laid = λ j u o low.
            last_or j n (omega arith)
            (λ q.
            let before : (kb + j) * z ≤ (kb + n) * z = mul-le-mul_right z (omega arith) in
            r.below ((kb + j) * z + u) (digits_lt {q = kb + j} {m = kb + n} (omega arith) low) ∙ b.laid j u q low
            ∙ ap (λ (x : ℕ). x % 2) (due-same T kb m columns z w w' j u low (λ p v. own_same w w' r p (omega arith))))
            (λ q.
            ap (λ (x : ℕ). get_or w' ((kb + x) * z + u) 0) q ∙ own_at n rowed h l sums r u low
            ∙ ap (λ (x : ℕ). due T kb m columns z w' x u % 2) (sym q));
      }

-- what is begun from a word that was begun from the places is begun from the places
pub begun_on : {T : List ℕ} {kb m columns z j k : ℕ} {sys v w : List ℕ} → Begun T kb m columns z sys j v → Begun T kb m columns z v k w
    → Begun T kb m columns z sys k w
begun_on a b = record { size = b.size; front = λ p l. b.front p l ∙ a.front p l; laid = b.laid }

-- from the word itself
pub begun_self : {T : List ℕ} {kb m columns z k : ℕ} {sys w : List ℕ} → Begun T kb m columns z sys k w → Begun T kb m columns z w k w
begun_self b = record { size = b.size; front = λ p l. refl; laid = b.laid }

pub begun_all : {T : List ℕ} {kb m columns z k n : ℕ} {sys w : List ℕ} → k ≤ n → n ≤ k → Begun T kb m columns z sys k w → Begun T kb m columns z sys n w
begun_all {T} {kb} {m} {columns} {z} {sys = sys} {w} h l b = subst (λ (x : ℕ). Begun T kb m columns z sys x w) (le_antisymm h l) b
