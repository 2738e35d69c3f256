-- The shelf of entries by their places: it holds each of them where it stands, and a shelf holds its own.
use mathlib.Core.Path.{◌≡◌, refl, sym, ap, ap₂, ◌∙◌}
use mathlib.Core.List.{List, [], ◌∷◌, ◌++◌, append_assoc}
use Prim.Native.Nat.{ℕ, zero, suc, ◌+◌, ◌*◌, ◌/◌, ◌%◌, ◌≤◌, ◌<◌}
use native.Mathlib.Nat.{add-zero, add-suc, suc-add}
use native.Mathlib.Omega.{arith}
use lib.ListN.{length, get_or, take, drop, length-append}
use lib.Seq.{get_or-append-add, drop_at, take_at, split_at, length-take-le, take-suc, take-length}
use Rattle.bits.specs.Bits.{number_at}
use Rattle.shelf.specs.Shelf.{count, tenant, profile, offset, size, record_at, offset_due}
use Rattle.keeping.specs.Entries.{Entry, entry_at, entries_from, entries, two_octets, head, heads, records, shelf_of}
use Rattle.keeping.proofs.Spelled.{length-heads, length-shelf, records-append, heads-append}
use Rattle.keeping.proofs.Stretches.{length_from}

-- ---- a number that stands behind a front

high-low : (n : ℕ) → n / 256 * 256 + n % 256 ≡ n
high-low n = omega arith

-- numbers behind a front are those of what stands there
behind : (front l : List ℕ) (j at : ℕ) → at ≡ length front + j → number_at (front ++ l) at ≡ number_at l j
unfolding number_at
behind front l j at e =
    let next : at + 1 ≡ length front + (j + 1) = omega arith in
    rw (next, e, get_or-append-add front l j 0, get_or-append-add front l (j + 1) 0)

module _ (front rest : List ℕ) (t p o n at : ℕ) where
  pub head-tenant : at ≡ length front + 0 → number_at (front ++ (head t p o n ++ rest)) at ≡ t
  unfolding number_at head two_octets
  head-tenant e = behind front (head t p o n ++ rest) 0 at e ∙ high-low t

  pub head-profile : at ≡ length front + 2 → number_at (front ++ (head t p o n ++ rest)) at ≡ p
  unfolding number_at head two_octets
  head-profile e = behind front (head t p o n ++ rest) 2 at e ∙ high-low p

  pub head-offset : at ≡ length front + 4 → number_at (front ++ (head t p o n ++ rest)) at ≡ o
  unfolding number_at head two_octets
  head-offset e = behind front (head t p o n ++ rest) 4 at e ∙ high-low o

  pub head-size : at ≡ length front + 6 → number_at (front ++ (head t p o n ++ rest)) at ≡ n
  unfolding number_at head two_octets
  head-size e = behind front (head t p o n ++ rest) 6 at e ∙ high-low n

-- ---- the shelf of entries, in the place of one of them

pub count-shelf : (es : List Entry) → count (shelf_of es) ≡ length es
unfolding count shelf_of number_at two_octets
count-shelf es = high-low (length es)

module _ (a : List Entry) (e : Entry) (b : List Entry) where
  abbrev all : List Entry
  all = a ++ (e ∷ b)

  abbrev first : ℕ
  first = 2 + 8 * length all

  -- where its record begins
  abbrev pub start_of : ℕ
  start_of = first + length (records a)

  abbrev front : List ℕ
  front = two_octets (length all) ++ heads first a

  abbrev rest : List ℕ
  rest = heads (start_of + length e.octets) b ++ records all

  by-head : shelf_of all ≡ front ++ (head e.owner e.number start_of (length e.octets) ++ rest)
  unfolding shelf_of heads two_octets
  by-head =
      ap (λ (l : List ℕ). two_octets (length all) ++ (l ++ records all)) (heads-append first a (e ∷ b))
      ∙ simp append_assoc

  front_length : 2 + 8 * length a ≡ length front
  unfolding two_octets
  front_length = omega (arith, length-heads first a)

  pub tenant-shelf : tenant (shelf_of all) (length a) ≡ e.owner
  unfolding tenant
  tenant-shelf =
      ap (λ (l : List ℕ). number_at l (2 + 8 * length a)) by-head
      ∙ head-tenant front rest e.owner e.number start_of (length e.octets) (2 + 8 * length a) (omega (arith, front_length))

  pub profile-shelf : profile (shelf_of all) (length a) ≡ e.number
  unfolding profile
  profile-shelf =
      ap (λ (l : List ℕ). number_at l (4 + 8 * length a)) by-head
      ∙ head-profile front rest e.owner e.number start_of (length e.octets) (4 + 8 * length a) (omega (arith, front_length))

  pub offset-shelf : offset (shelf_of all) (length a) ≡ start_of
  unfolding offset
  offset-shelf =
      ap (λ (l : List ℕ). number_at l (6 + 8 * length a)) by-head
      ∙ head-offset front rest e.owner e.number start_of (length e.octets) (6 + 8 * length a) (omega (arith, front_length))

  pub size-shelf : size (shelf_of all) (length a) ≡ length e.octets
  unfolding size
  size-shelf =
      ap (λ (l : List ℕ). number_at l (8 + 8 * length a)) by-head
      ∙ head-size front rest e.owner e.number start_of (length e.octets) (8 + 8 * length a) (omega (arith, front_length))

  abbrev above : List ℕ
  above = two_octets (length all) ++ (heads first all ++ records a)

  by-record : shelf_of all ≡ above ++ (e.octets ++ records b)
  unfolding shelf_of records two_octets
  by-record =
      ap (λ (l : List ℕ). two_octets (length all) ++ (heads first all ++ l)) (records-append a (e ∷ b))
      ∙ simp append_assoc

  above-length : length above ≡ start_of
  unfolding two_octets
  above-length = omega (arith, length-append (heads first all) (records a), length-heads first all)

  pub record_shelf : record_at (shelf_of all) (length a) ≡ e.octets
  unfolding record_at
  record_shelf =
      ap₂ (λ (n o : ℕ). take n (drop o (shelf_of all))) size-shelf offset-shelf
      ∙ ap (λ (l : List ℕ). take (length e.octets) (drop start_of l)) by-record
      ∙ ap (take (length e.octets)) (drop_at above (e.octets ++ records b) start_of above-length)
      ∙ take_at e.octets (records b) (length e.octets) refl

-- ---- entries by their places

abbrev pub nothing : Entry
nothing = record { owner = 0; number = 0; octets = [] }

abbrev pub at : List Entry → ℕ → Entry
at es k = get_or es k nothing

pub record Holds (S : List ℕ) (es : List Entry) : Type 0 where
  pub many : count S ≡ length es
  pub owner : (k : ℕ) → k < length es → tenant S k ≡ (at es k).owner
  pub number : (k : ℕ) → k < length es → profile S k ≡ (at es k).number
  pub octets : (k : ℕ) → k < length es → record_at S k ≡ (at es k).octets

-- ---- the shelf of entries holds them

module _ (es : List Entry) where
  -- what is said of an entry between two parts, said of place k
  placed : {A : Type 0} (of : List Entry → ℕ → A) (f : List Entry → Entry → List Entry → A)
      → ((a : List Entry) (e : Entry) (b : List Entry) → of (a ++ (e ∷ b)) (length a) ≡ f a e b)
      → (k : ℕ) → k < length es → of es k ≡ f (take k es) (at es k) (drop (suc k) es)
  placed of f law k h =
      ap₂ of (split_at es k nothing h) (sym (length-take-le k es (omega arith))) ∙ law (take k es) (at es k) (drop (suc k) es)

  pub shelf-holds : Holds (shelf_of es) es
  shelf-holds =
      record {
        many = count-shelf es;
        owner = placed (λ l n. tenant (shelf_of l) n) (λ a e b. e.owner) tenant-shelf;
        number = placed (λ l n. profile (shelf_of l) n) (λ a e b. e.number) profile-shelf;
        octets = placed (λ l n. record_at (shelf_of l) n) (λ a e b. e.octets) record_shelf;
      }

  -- ---- where its records begin

  size-at : (k : ℕ) → k < length es → size (shelf_of es) k ≡ length (at es k).octets
  size-at = placed (λ l n. size (shelf_of l) n) (λ a e b. length e.octets) size-shelf

  start-at : (k : ℕ) → k < length es → offset (shelf_of es) k ≡ 2 + 8 * length es + length (records (take k es))
  start-at k h =
      placed (λ l n. offset (shelf_of l) n) (λ a e b. 2 + 8 * length (a ++ (e ∷ b)) + length (records a)) offset-shelf k h
      ∙ ap (λ (l : List Entry). 2 + 8 * length l + length (records (take k es))) (sym (split_at es k nothing h))

  due-at : (k : ℕ) → k ≤ length es → offset_due (shelf_of es) k ≡ 2 + 8 * length es + length (records (take k es))
  unfolding offset_due records
  due-at zero h = omega (arith, count-shelf es)
  due-at (suc k) h =
      let e = at es k in
      let more : length (records (take (suc k) es)) ≡ length (records (take k es)) + length e.octets =
      ap (λ (l : List Entry). length (records l)) (take-suc es k nothing h)
      ∙ ap length (records-append (take k es) (e ∷ []))
      ∙ omega (arith, length-append (records (take k es)) (records (e ∷ [])), length-append e.octets []) in
      omega (arith, more, start-at k h, size-at k h)

  pub chain_at : (k : ℕ) → k < length es → offset (shelf_of es) k ≡ offset_due (shelf_of es) k
  chain_at k h = start-at k h ∙ sym (due-at k (omega arith))

  pub ends_at : length (shelf_of es) ≡ offset_due (shelf_of es) (length es)
  ends_at = length-shelf es ∙ sym (due-at (length es) (omega arith) ∙ ap (λ (l : List Entry). 2 + 8 * length es + length (records l)) (take-length es))

-- ---- a shelf holds its entries

module _ (S : List ℕ) where
  pub at_from : (n k j : ℕ) → j < n → at (entries_from S n k) j ≡ entry_at S (k + j)
  unfolding entries_from
  at_from zero k j h = absurd (omega arith)
  at_from (suc n) k zero h = ap (entry_at S) (sym (add-zero k))
  at_from (suc n) k (suc j) h = at_from n (suc k) j (omega arith) ∙ ap (entry_at S) (suc-add k j ∙ sym (add-suc k j))

  at-entries : (k : ℕ) → k < length (entries S) → entry_at S k ≡ at (entries S) k
  unfolding entries
  at-entries k h = sym (at_from (count S) 0 k (omega (arith, length_from S (count S) 0)) ∙ ap (entry_at S) (let z : 0 + k ≡ k = omega arith in z))

  pub entries_hold : Holds S (entries S)
  unfolding entries entry_at
  entries_hold =
      record {
        many = sym (length_from S (count S) 0);
        owner = λ k h. ap (λ (e : Entry). e.owner) (at-entries k h);
        number = λ k h. ap (λ (e : Entry). e.number) (at-entries k h);
        octets = λ k h. ap (λ (e : Entry). e.octets) (at-entries k h);
      }
