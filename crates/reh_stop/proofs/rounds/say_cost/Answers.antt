-- A name that can't be printed is asked of only for JSON.
use Rattle.reh_waves.specs.Json.{ArePrintable}
use Rattle.reh_stop.specs.Rounds.{IsUnprintable}
use Rattle.reh_stop.proofs.FaultLaws.{if_err, unprintable}
use Rattle.reh_stop.proofs.rounds.say_cost.Goals as goal

pub returns-in_err-check_names-clause-fault : goal.returns-in_err-check_names-clause-fault
returns-in_err-check_names-clause-fault c =
    let names = ArePrintable c.args.names.now in
    let racks = ArePrintable c.args.racks.now in
    if_err (IsUnprintable c.args.as_json (names × racks)) _ c.in_err-check_names.field-0.0 c.from_residual.ensures.1
    (unprintable c.args.as_json names (names × racks) c.if-as_json.true (λ are. are.0) c.in_err-check_names.field-0.0
    c.in_err-check_names.ensures.fault)

pub returns-in_err-check_names-2-clause-fault : goal.returns-in_err-check_names-2-clause-fault
returns-in_err-check_names-2-clause-fault c =
    let names = ArePrintable c.args.names.now in
    let racks = ArePrintable c.args.racks.now in
    if_err (IsUnprintable c.args.as_json (names × racks)) _ c.in_err-check_names-2.field-0.0
    c.from_residual-in_err-check_names-2.ensures.1
    (unprintable c.args.as_json racks (names × racks) c.if-as_json.true (λ are. are.1) c.in_err-check_names-2.field-0.0
    c.in_err-check_names-2.ensures.fault)
