-- One bookie more; and those past the last one aren't registered.
use Rattle.std.proofs.Common.{◌≡◌, ◌∙◌, ap, arith, length, sym, None}
use Rattle.reh_plan.specs.Reasons.{unrolled_refusal}
use Rattle.reh_plan.proofs.ReasonLaws.{below-more, of-any}
use Rattle.reh_plan.proofs.reasons.unrolled_at.Goals as goal

pub loop-number-preserved : goal.loop-number-preserved
loop-number-preserved c =
    below-more (λ b. unrolled_refusal c.args.workers.now.rules c.args.state.now c.args.ledger.now c.args.index b ≡ None)
    c.loop-number.number c.loop-number.invariant (sym c.unrolled_by.ensures ∙ c.in_default.is)

pub returns-clause-none : goal.returns-clause-none
returns-clause-none c = λ _.
    of-any c.args.workers.now.rules c.args.state.now c.args.ledger.now c.args.index c.names.ensures.well_formed
    (λ b within. c.loop-number.invariant b
    (omega (arith, within, c.loop-number-test.false, c.len-number-end.ensures.count, ap length c.names.ensures.names)))
