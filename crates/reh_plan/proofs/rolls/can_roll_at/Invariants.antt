-- None of those that are passed could.
use Rattle.std.proofs.Common.{◌≢◌, ◌<◌, ℕ, None}
use Rattle.std.specs.Prelude.{IsTrue}
use Rattle.reh_types.specs.declared.moves.Event.TheVariants.{Roll}
use Rattle.reh_model.specs.Step.{refusal_of}
use Rattle.reh_plan.specs.Workers.{may_work}
use Rattle.reh_plan.proofs.rolls.can_roll_at.Given as goal

abbrev pub invariant-loop-number : goal.invariant-loop-number
invariant-loop-number l =
    (b : ℕ) → b < l.number → IsTrue (may_work l.workers.rules b) → refusal_of l.state (Roll l.ledger l.index b) ≢ None
