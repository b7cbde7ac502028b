-- No index that is passed is one of those.
use Rattle.std.proofs.Common.{◌≡◌, ◌<◌, ℕ, None}
use Rattle.reh_plan.specs.Reasons.{unrolled_refusal}
use Rattle.reh_plan.proofs.reasons.unrolled.Given as goal

abbrev pub invariant-loop-index : goal.invariant-loop-index
invariant-loop-index l = (i : ℕ) → i < l.index → (b : ℕ) → unrolled_refusal l.workers.rules l.state l.ledger i b ≡ None
