-- No place of the fragments that are passed is one of those.
use Rattle.std.proofs.Common.{◌≡◌, ◌<◌, ℕ, None}
use Rattle.reh_plan.specs.Reasons.{unfilled_refusal}
use Rattle.reh_plan.proofs.reasons.unfilled.Given as goal

abbrev pub invariant-loop-number : goal.invariant-loop-number
invariant-loop-number l = (f : ℕ) → f < l.number → (i : ℕ) → unfilled_refusal l.state l.ledger f i ≡ None
