-- The places that are passed can't be filled.
use Rattle.std.proofs.Common.{◌<◌, ℕ}
use Rattle.reh_plan.specs.Ends.{IsFilled}
use Rattle.reh_plan.specs.Workers.{may_work}
use Rattle.reh_plan.proofs.ends.can_fill_fragment.Given as goal

abbrev pub invariant-loop-index : goal.invariant-loop-index
invariant-loop-index l = (i : ℕ) → i < l.index → IsFilled (may_work l.workers.rules) l.state l.ledger l.fragment i
