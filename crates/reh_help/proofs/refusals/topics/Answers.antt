-- Each is found by its number, and by its name.
use Rattle.std.proofs.Common.{refl}
use Rattle.reh_types.specs.declared.refusals.Refusal.TheVariants.{NoBookie}
use Rattle.reh_help.proofs.refusals.topics.Goals as goal

pub returns-clause-each : goal.returns-clause-each
returns-clause-each c NoBookie = refl
returns-clause-each c refusal = refl

pub returns-clause-named : goal.returns-clause-named
returns-clause-named c NoBookie = refl
returns-clause-named c refusal = refl
