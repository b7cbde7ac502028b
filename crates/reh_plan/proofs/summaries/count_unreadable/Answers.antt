-- There are few lines.
use Rattle.std.proofs.Common.{◌*◌, ◌≤◌, length, ap, arith}
use Rattle.reh_types.specs.declared.limits.TheConstants.{MAX_FRAGMENTS, MAX_LEDGERS}
use Rattle.reh_model.specs.Survey.{survey}
use Rattle.reh_plan.proofs.SummaryLaws.{survey_few}
use Rattle.reh_plan.proofs.summaries.count_unreadable.Goals as goal

pub overflow_add-count : goal.overflow_add-count
overflow_add-count c =
    let few : length (survey c.args.state.now) ≤ MAX_FRAGMENTS * MAX_LEDGERS = survey_few c.args.state.now c.ledgers-limits.ensures.well_formed in
    omega (arith, few, ap length c.in_ok-lines.ensures)
