use Rattle.std.proofs.Common.{◌≤◌, IfOk, Result, Ok, Err}
use Rattle.bits.specs.declared.number.Refusal.{Refusal}
use Rattle.advice.specs.declared.Least.{Least}
use Rattle.advice.specs.Promises.{advised}
use Rattle.advice.proofs.NoLess.{larger_fewer}
use Rattle.hosted.proofs.calls.least.Goals as goal

fewer : (r : Result Least Refusal) → (advised r).larger ≤ (advised r).blocks → IfOk r (λ least. least.larger ≤ least.blocks)
fewer (Ok _) h = h
fewer (Err _) _ = tt

pub returns : goal.returns
returns c = fewer c.least_bits.result (larger_fewer _ _ _ (advised c.least_bits.result) c.least_bits.ensures)
