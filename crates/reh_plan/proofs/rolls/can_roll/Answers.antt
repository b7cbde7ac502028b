-- No roll is accepted at an index that no ensemble has.
use Rattle.std.proofs.Common.{◌<◌, arith}
use Rattle.reh_types.specs.declared.limits.TheConstants.{MAX_ENSEMBLE_SIZE}
use Rattle.reh_plan.proofs.RollLaws.{roll_within}
use Rattle.reh_plan.proofs.rolls.can_roll.Goals as goal

pub returns : goal.returns
returns c = λ _ b i may none.
    let within : i < MAX_ENSEMBLE_SIZE =
    roll_within c.args.state.now c.args.ledger i b c.assert_well_formed.ensures none in
    c.loop-index.invariant b i (omega (arith, within, c.loop-index-test.false)) may none
