-- One index more.
use Rattle.std.proofs.Common.{◌≡◌, ℕ, None}
use Rattle.reh_plan.specs.Reasons.{unrolled_refusal}
use Rattle.reh_plan.proofs.ReasonLaws.{below-more}
use Rattle.reh_plan.proofs.reasons.unrolled.Goals as goal

pub loop-index-preserved : goal.loop-index-preserved
loop-index-preserved c =
    below-more (λ i. (b : ℕ) → unrolled_refusal c.args.workers.now.rules c.args.state.now c.args.ledger.now i b ≡ None)
    c.loop-index.index c.loop-index.invariant (c.unrolled_at.ensures.none c.in_default.is)
