-- No bookie that is passed is one of those.
use Rattle.std.proofs.Common.{◌≡◌, ◌<◌, ℕ, None}
use Rattle.reh_plan.specs.Reasons.{unrolled_refusal}
use Rattle.reh_plan.proofs.reasons.unrolled_at.Given as goal

abbrev pub invariant-loop-number : goal.invariant-loop-number
invariant-loop-number l = (b : ℕ) → b < l.number → unrolled_refusal l.workers.rules l.state l.ledger l.index b ≡ None
