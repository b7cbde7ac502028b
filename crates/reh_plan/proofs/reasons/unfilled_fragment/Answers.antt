-- One place more.
use Rattle.std.proofs.Common.{◌≡◌, ◌∙◌, sym, None}
use Rattle.reh_plan.specs.Reasons.{unfilled_refusal}
use Rattle.reh_plan.proofs.ReasonLaws.{below-more}
use Rattle.reh_plan.proofs.reasons.unfilled_fragment.Goals as goal

pub loop-index-preserved : goal.loop-index-preserved
loop-index-preserved c =
    below-more (λ i. unfilled_refusal c.args.state.now c.args.ledger.now c.args.number i ≡ None)
    c.loop-index.index c.loop-index.invariant (sym c.unfilled_at.ensures ∙ c.in_default.is)
