-- A name that can't be printed is asked of only for JSON.
use Rattle.reh_waves.specs.Json.{ArePrintable}
use Rattle.reh_stop.specs.Rounds.{IsUnprintable}
use Rattle.reh_stop.proofs.FaultLaws.{if_err, unprintable}
use Rattle.reh_stop.proofs.rounds.say_rounds.Goals as goal

pub returns-in_err-check_names-clause-fault : goal.returns-in_err-check_names-clause-fault
returns-in_err-check_names-clause-fault c =
    let each = ArePrintable c.args.names.now in
    if_err (IsUnprintable c.args.as_json each) _ c.in_err-check_names.field-0.0 c.from_residual.ensures.1
    (unprintable c.args.as_json each each c.if-as_json.true (λ are. are) c.in_err-check_names.field-0.0
    c.in_err-check_names.ensures.fault)
