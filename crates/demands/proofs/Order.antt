-- The number that is answered is the first of the list whose condition holds.
use mathlib.Core.Path.{◌≡◌, refl, sym, ◌∙◌}
use mathlib.Core.Bool.{Bool, true, false}
use mathlib.Core.List.{List, [], ◌∷◌}
use mathlib.Core.Logic.{inl, inr}
use Prim.Native.Nat.{ℕ, zero, suc}
use native.Mathlib.Omega.{arith}
use Rattle.bits.specs.Numbers.{answered}
use Rattle.bits.proofs.Answers.{Refusals}
use Rattle.demands.specs.Numbers.{First, NoneHolds, Answers}

first-answered : (l : List (ℕ × Bool)) (n : ℕ) → First n l → answered l ≡ n
unfolding First answered
first-answered [] n h = absurd h
first-answered ((k, c) ∷ l) n (inl h) = rw h.1 (sym h.0)
first-answered ((k, c) ∷ l) n (inr h) = rw h.0 (first-answered l n h.1)

answered-first : (l : List (ℕ × Bool)) (n : ℕ) → (n ≡ 0 → ⊥) → answered l ≡ n → First n l
unfolding First answered
answered-first [] n some e = absurd (some (sym e))
answered-first ((k, true) ∷ l) n some e = inl (sym e, refl)
answered-first ((k, false) ∷ l) n some e = inr (refl, answered-first l n some e)

none-answered : (l : List (ℕ × Bool)) → NoneHolds l → answered l ≡ 0
unfolding NoneHolds answered
none-answered [] h = refl
none-answered ((k, c) ∷ l) h = rw h.0 (none-answered l h.1)

answered-none : (l : List (ℕ × Bool)) → Refusals l → answered l ≡ 0 → NoneHolds l
unfolding NoneHolds answered Refusals
answered-none [] r e = tt
answered-none ((zero, c) ∷ l) r e = absurd r
answered-none ((suc k, true) ∷ l) r e = absurd (omega arith)
answered-none ((suc k, false) ∷ l) r e = (refl, answered-none l r e)

-- all of it, for every list without a 0
pub answers : (l : List (ℕ × Bool)) → Refusals l → {number : ℕ} → number ≡ answered l → Answers number l
answers l r e =
    record {
      given = λ n h. e ∙ first-answered l n h;
      only = λ n some q. answered-first l n some (sym e ∙ q);
      done = λ h. e ∙ none-answered l h;
      only_done = λ q. answered-none l r (sym e ∙ q);
    }
