-- What the public call promises, for all octets, lengths and numbers. `Written` has a number and the count written; out' is the output after the call.
use Rattle.std.specs.Prelude.{◌≡◌, Bool, not, ◌&&◌, ◌||◌, List, [], ◌∷◌, ◌++◌, ℕ, eqb, ltb, length, drop}
use Rattle.bits.specs.Bits.{some_over}
use Rattle.bits.specs.Numbers.{answered, when_done}
use Rattle.bits.specs.Ranges.{within}
use Rattle.bits.specs.declared.number.Written.{Written}
use Rattle.matching.specs.Matching.{kept, matched_from, misversioned}

-- 8: "an E over 65,536, or an E above 0 where every coded place is marked 2"
unfoldable pub unmatchable : List ℕ → ℕ → Bool
unmatchable coded e = ltb 65536 e || (ltb 0 e && eqb (length (kept coded)) 0)

-- 5 "for a type other than 1 or 2", which goes first as with a profile; 16, "between 7 and 8"
abbrev pub match_conditions : List ℕ → ℕ → ℕ → ℕ → ℕ → List (ℕ × Bool)
match_conditions coded kind rv e lent =
    (5, not (within 1 2 kind)) ∷ (16, misversioned kind rv) ∷ (8, unmatchable coded e) ∷ (11, ltb lent e) ∷ (12, some_over 2 coded) ∷ []

unfoldable pub match_number : List ℕ → ℕ → ℕ → ℕ → ℕ → ℕ
match_number coded kind rv e lent = answered (match_conditions coded kind rv e lent)

pub record RateMatched (coded : List ℕ) (kind rv e : ℕ) (out : List ℕ) (r : Written) (out' : List ℕ) : Type 0 where
  pub number : r.number ≡ match_number coded kind rv e (length out)
  pub count : r.count ≡ when_done (match_number coded kind rv e (length out)) e 0
  pub output : out' ≡ when_done (match_number coded kind rv e (length out)) (matched_from kind rv coded e ++ drop e out) out
