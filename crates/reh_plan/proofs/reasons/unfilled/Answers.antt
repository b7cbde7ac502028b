-- One fragment more.
use Rattle.std.proofs.Common.{◌≡◌, ℕ, None}
use Rattle.reh_plan.specs.Reasons.{unfilled_refusal}
use Rattle.reh_plan.proofs.ReasonLaws.{below-more}
use Rattle.reh_plan.proofs.reasons.unfilled.Goals as goal

pub loop-number-preserved : goal.loop-number-preserved
loop-number-preserved c =
    below-more (λ f. (i : ℕ) → unfilled_refusal c.args.state.now c.args.ledger.now f i ≡ None)
    c.loop-number.number c.loop-number.invariant (c.unfilled_fragment.ensures.none c.in_default.is)
