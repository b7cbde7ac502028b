-- No fragment that is passed is one of those.
use Rattle.std.proofs.Common.{◌<◌, ℕ}
use Rattle.reh_plan.specs.Reasons.{LacksWorkerAt}
use Rattle.reh_plan.proofs.reasons.without_worker.Given as goal

abbrev pub invariant-loop-number : goal.invariant-loop-number
invariant-loop-number l = (f : ℕ) → f < l.number → LacksWorkerAt l.workers.rules l.state l.ledger f → ⊥
