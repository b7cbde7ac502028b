-- No place that is passed is one of those.
use Rattle.std.proofs.Common.{◌≡◌, ◌<◌, ℕ, None}
use Rattle.reh_plan.specs.Reasons.{unfilled_refusal}
use Rattle.reh_plan.proofs.reasons.unfilled_fragment.Given as goal

abbrev pub invariant-loop-index : goal.invariant-loop-index
invariant-loop-index l = (i : ℕ) → i < l.index → unfilled_refusal l.state l.ledger l.number i ≡ None
