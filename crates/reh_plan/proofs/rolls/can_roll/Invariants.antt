-- None could take those places that are passed.
use Rattle.std.proofs.Common.{◌≢◌, ◌<◌, ℕ, None}
use Rattle.std.specs.Prelude.{IsTrue}
use Rattle.reh_types.specs.declared.moves.Event.TheVariants.{Roll}
use Rattle.reh_model.specs.Step.{refusal_of}
use Rattle.reh_plan.specs.Workers.{may_work}
use Rattle.reh_plan.proofs.rolls.can_roll.Given as goal

abbrev pub invariant-loop-index : goal.invariant-loop-index
invariant-loop-index l =
    (b i : ℕ) → i < l.index → IsTrue (may_work l.workers.rules b) → refusal_of l.state (Roll l.ledger i b) ≢ None
