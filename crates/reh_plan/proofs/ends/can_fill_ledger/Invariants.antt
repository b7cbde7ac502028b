-- No place of the fragments that are passed can be filled.
use Rattle.std.proofs.Common.{◌<◌, ℕ}
use Rattle.reh_plan.specs.Ends.{IsFilled}
use Rattle.reh_plan.specs.Workers.{may_work}
use Rattle.reh_plan.proofs.ends.can_fill_ledger.Given as goal

abbrev pub invariant-loop-fragment : goal.invariant-loop-fragment
invariant-loop-fragment l = (f : ℕ) → f < l.fragment → (i : ℕ) → IsFilled (may_work l.workers.rules) l.state l.ledger f i
