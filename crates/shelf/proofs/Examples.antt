-- Isolation is not empty: shelves that differ in another tenant's record only are alike for a tenant, and in its own they are not.
use mathlib.Core.Path.{◌≡◌, refl, sym, ap, ◌∙◌}
use mathlib.Core.Bool.{Bool, true, false, ◌||◌}
use mathlib.Core.List.{List, [], ◌∷◌}
use Prim.Native.Nat.{ℕ}
use native.Mathlib.Omega.{arith}
use lib.ListN.{get_or}
use lib.Dec.{eqb}
use borrow.Author.Tests.{eqb-true}
use Rattle.bits.specs.Bits.{number_at}
use Rattle.bits.specs.Numbers.{answered, when_done}
use Rattle.bits.specs.Ranges.{all_below, any_below, first_below}
use Rattle.shelf.specs.Shelf.{count, tenant, profile, offset, size, record_at, rises, offset_due, chained, ends_right, tenant_right, well_formed, private_shelf}
use Rattle.shelf.specs.Lookup.{is_entry, has, entry_of, record_of, lookup_number, lookup_record}
use Rattle.shelf.specs.Isolation.{AlikeFor}

-- tenant 1 has number 7, the octet a; tenant 2 has number 9, the octet b
unfoldable pub private : ℕ → ℕ → List ℕ
private a b = 0 ∷ 2 ∷ 0 ∷ 1 ∷ 0 ∷ 7 ∷ 0 ∷ 18 ∷ 0 ∷ 1 ∷ 0 ∷ 2 ∷ 0 ∷ 9 ∷ 0 ∷ 19 ∷ 0 ∷ 1 ∷ a ∷ b ∷ []

-- number 8, the octet c, is public
unfoldable pub public : ℕ → List ℕ
public c = 0 ∷ 1 ∷ 0 ∷ 0 ∷ 0 ∷ 8 ∷ 0 ∷ 10 ∷ 0 ∷ 1 ∷ c ∷ []

pub formed : (a b : ℕ) → private_shelf (private a b) ≡ true
unfolding private well_formed rises offset_due chained ends_right tenant_right all_below count tenant profile offset size number_at
formed a b = refl

module _ (a b c : ℕ) where
  -- its own, the public one, and neither: number 9 is another tenant's
  pub own : lookup_record (private a b) (public c) 1 7 ≡ a ∷ []
  unfolding private public lookup_record lookup_number answered when_done well_formed rises offset_due chained ends_right tenant_right
      all_below any_below first_below has entry_of is_entry record_of record_at count tenant profile offset size number_at
  own = refl

  pub shared : lookup_record (private a b) (public c) 1 8 ≡ c ∷ []
  unfolding private public lookup_record lookup_number answered when_done well_formed rises offset_due chained ends_right tenant_right
      all_below any_below first_below has entry_of is_entry record_of record_at count tenant profile offset size number_at
  shared = refl

  pub of_another : lookup_number (private a b) (public c) 1 9 ≡ 4
  unfolding private public lookup_number answered well_formed rises offset_due chained ends_right tenant_right
      all_below any_below has is_entry count tenant profile offset size number_at
  of_another = refl

or_false : (x : Bool) → (x || false) ≡ x
or_false true = refl
or_false false = refl

module _ (a b b' : ℕ) where
  numbers : (p : ℕ) → has (private a b) 1 p ≡ has (private a b') 1 p
  unfolding private all_below any_below has is_entry count tenant profile number_at
  numbers p = refl

  -- tenant 1 has number 7 and no other
  only-seven : (p : ℕ) → has (private a b) 1 p ≡ eqb 7 p
  unfolding private all_below any_below has is_entry count tenant profile number_at
  only-seven p = or_false (eqb 7 p)

  seven : record_of (private a b) 1 7 ≡ record_of (private a b') 1 7
  unfolding private first_below any_below record_of record_at entry_of is_entry count tenant profile offset size number_at
  seven = refl

  pub alike_for_one : AlikeFor 1 (private a b) (private a b')
  alike_for_one =
      record {
        formed = formed a b ∙ sym (formed a b');
        agree = record { numbers = numbers; records = λ p h. let e : 7 ≡ p = eqb-true 7 p (sym (only-seven p) ∙ h) in rw (← e) seven };
      }

-- and the shelves do differ
pub differ : private 10 20 ≡ private 10 30 → ⊥
unfolding private
differ e = let z : ◌≡◌ {A = ℕ} 20 30 = ap (λ (s : List ℕ). get_or s 19 0) e in omega arith

-- where tenant 1's own record is another, they are not alike
pub not_alike : AlikeFor 1 (private 10 20) (private 11 20) → ⊥
unfolding private first_below any_below has record_of record_at entry_of is_entry count tenant profile offset size number_at
not_alike e = let z : ◌≡◌ {A = ℕ} 10 11 = ap (λ (s : List ℕ). get_or s 0 0) (e.agree.records 7 refl) in omega arith
