-- None of those that are passed could.
use Rattle.std.proofs.Common.{◌≢◌, ◌<◌, ℕ, [], ◌∷◌, None}
use Rattle.std.specs.Prelude.{IsTrue}
use Rattle.reh_model.specs.Checks.{first_reason}
use Rattle.reh_model.specs.Refusals.{target_down, target_is_member}
use Rattle.reh_plan.specs.Workers.{may_work}
use Rattle.reh_plan.proofs.recoveries.has_substitute.Given as goal

abbrev pub invariant-loop-number : goal.invariant-loop-number
invariant-loop-number l =
    (b : ℕ) → b < l.number → IsTrue (may_work l.workers.rules b)
    → first_reason (target_down l.state b ∷ target_is_member l.fragment b ∷ []) ≢ None
