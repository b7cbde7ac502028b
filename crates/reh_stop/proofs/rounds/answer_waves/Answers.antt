-- The names, the rounds and the text.
use Rattle.reh_stop.specs.Rounds.{AreUnsaid}
use Rattle.reh_stop.proofs.FaultLaws.{if_err, unsaid}
use Rattle.reh_stop.proofs.rounds.answer_waves.Goals as goal

pub returns-in_err-text-clause-fault : goal.returns-in_err-text-clause-fault
returns-in_err-text-clause-fault c =
    let g = c.args.gathered.now in
    let asked = c.args.asked.now in
    let fault = c.in_err-text.field-0.0 in
    if_err (AreUnsaid g asked) _ fault c.from_residual-in_err-text.ensures.1
    (unsaid g asked c.names_of-names.result.now c.names_of-names.ensures.names fault c.in_err-text.ensures.fault)

pub returns-clause-said : goal.returns-clause-said
returns-clause-said c = record {
  names = c.names_of-names.result.now;
  are_names = c.names_of-names.ensures.names;
  waves = c.in_ok-waves.waves;
  are_rounds = c.in_ok-waves.ensures;
  says = c.in_ok-text.ensures.text;
  printable = c.in_ok-text.ensures.printable;
}
