-- One fragment more; and there is none past the last one.
use Rattle.std.proofs.Common.{ap, arith, length}
use Rattle.std.proofs.lemmas.Option.{slice_get_within}
use Rattle.reh_plan.specs.Reasons.{LacksWorkerAt}
use Rattle.reh_plan.proofs.ReasonLaws.{below-more}
use Rattle.reh_plan.proofs.reasons.without_worker.Goals as goal

pub loop-number-preserved : goal.loop-number-preserved
loop-number-preserved c =
    below-more (λ f. LacksWorkerAt c.args.workers.now.rules c.args.state.now c.args.ledger.now f → ⊥)
    c.loop-number.number c.loop-number.invariant (c.lacks_worker.ensures.no c.if-lacks_worker.false)

pub returns-clause-none : goal.returns-clause-none
returns-clause-none c = λ _ f lacks.
    c.loop-number.invariant f
    (omega (arith, slice_get_within c.args.ledger.now.metadata.fragments f lacks.0 lacks.1, c.loop-number-test.false, ap length c.fragments-number-end.ensures.fragments, ap (λ m. length m.fragments) c.metadata.ensures))
    lacks
