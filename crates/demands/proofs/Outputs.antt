-- A call that writes so many octets to the front of its output where it answers 0, and nothing else: what the first demand says of it, once for all
-- such calls.
use mathlib.Core.Path.{◌≡◌, sym, ap, ◌∙◌}
use mathlib.Core.List.{List, ◌++◌}
use Prim.Native.Nat.{ℕ, ◌≤◌}
use native.Mathlib.Omega.{arith}
use lib.ListN.{length, take, drop, length-append, length-drop}
use lib.Seq.{take_at, drop_at}
use Rattle.bits.specs.Numbers.{when_done}
use Rattle.bits.specs.declared.number.Written.{Written}
use Rattle.bits.proofs.Answers.{when-done, when_refused}
use Rattle.bits.proofs.Ranges.{equal_or}
use Rattle.bits.proofs.Written.{same-written}
use Rattle.demands.specs.Outputs.{Confined, Alike}

-- the shape: n is the number by the output's length, w the k octets that are written
pub record Writes (n : ℕ → ℕ) (k : ℕ) (w out : List ℕ) (r : Written) (out' : List ℕ) : Type 0 where
  pub number : r.number ≡ n (length out)
  pub count : r.count ≡ when_done (n (length out)) k 0
  pub output : out' ≡ when_done (n (length out)) (w ++ drop k out) out

-- they are k, and fit, where it answers 0
pub record Fitting (n : ℕ → ℕ) (k : ℕ) (w : List ℕ) : Type 0 where
  pub size : (room : ℕ) → n room ≡ 0 → length w ≡ k
  pub room : (room : ℕ) → n room ≡ 0 → k ≤ room

-- nothing is counted, and nothing is written
pub untouched : {out : List ℕ} {r : Written} {out' : List ℕ} → r.count ≡ 0 → out' ≡ out → Confined out r out'
untouched {out} {r} {out'} c o = record { refused = λ some. (c, o); within = omega arith; past = ap (drop r.count) o; size = ap length o }

module _ {n : ℕ → ℕ} {k : ℕ} {w : List ℕ} (f : Fitting n k w) where
  pub confined : {out : List ℕ} {r : Written} {out' : List ℕ} → Writes n k w out r out' → Confined out r out'
  confined {out} {r} {out'} h =
      equal_or (n (length out)) 0
      (λ e.
      let c : r.count ≡ k = h.count ∙ when-done (n (length out)) k 0 e in
      let o : out' ≡ w ++ drop k out = h.output ∙ when-done (n (length out)) (w ++ drop k out) out e in
      let fits : k ≤ length out = f.room (length out) e in
      let long : length w ≡ k = f.size (length out) e in
      record {
        refused = λ some. absurd (some (h.number ∙ e));
        within = omega arith;
        past = rw (c, o) (drop_at w (drop k out) k long);
        size = ap length o ∙ length-append w (drop k out) ∙ omega (arith, length-drop k out);
      })
      (λ some.
      untouched (h.count ∙ when_refused (n (length out)) k 0 some) (h.output ∙ when_refused (n (length out)) (w ++ drop k out) out some))

  pub alike : {out : List ℕ} {r : Written} {out' other : List ℕ} {s : Written} {other' : List ℕ} → length out ≡ length other
      → Writes n k w out r out' → Writes n k w other s other' → Alike r out' s other'
  alike {out} {r} {out'} {other} {s} {other'} e a b =
      let number : r.number ≡ s.number = a.number ∙ ap n e ∙ sym b.number in
      let count : r.count ≡ s.count = a.count ∙ ap (λ (l : ℕ). when_done (n l) k 0) e ∙ sym b.count in
      record {
        answer = same-written r s number count;
        octets = equal_or (n (length out)) 0
            (λ z.
            let y : n (length other) ≡ 0 = ap n (sym e) ∙ z in
            front a z ∙ sym (front b y))
            (λ some.
            let c : r.count ≡ 0 = a.count ∙ when_refused (n (length out)) k 0 some in
            let d : s.count ≡ 0 = sym count ∙ c in
            rw (c, d));
      }
    where
      front : {out : List ℕ} {r : Written} {out' : List ℕ} → Writes n k w out r out' → n (length out) ≡ 0 → take r.count out' ≡ w
      front {out} {r} {out'} h z =
          let c : r.count ≡ k = h.count ∙ when-done (n (length out)) k 0 z in
          let o : out' ≡ w ++ drop k out = h.output ∙ when-done (n (length out)) (w ++ drop k out) out z in
          rw (c, o) (take_at w (drop k out) k (f.size (length out) z))
