-- None of those that are passed can take the place.
use Rattle.std.proofs.Common.{◌≢◌, ◌<◌, ℕ, None}
use Rattle.std.specs.Prelude.{IsTrue}
use Rattle.reh_model.specs.Refusals.{no_place}
use Rattle.reh_plan.specs.Workers.{may_work}
use Rattle.reh_plan.proofs.ends.taker.Given as goal

abbrev pub invariant-loop-number : goal.invariant-loop-number
invariant-loop-number l =
    (b : ℕ) → b < l.number → IsTrue (may_work l.workers.rules b) → no_place l.state b l.ledger l.fragment l.index ≢ None
