-- Event by event, fragments stay where they begin, and more may come.
use Rattle.reh_changes.proofs.KeptLaws.{HaveSameLedgers-replay}
use Rattle.reh_changes.proofs.ToldLaws.{HaveSameLedgers-back}
use Rattle.reh_changes.proofs.laws.events_keep_ledgers.Goals as goal

pub returns-clause-on : goal.returns-clause-on
returns-clause-on c = HaveSameLedgers-replay

pub returns-clause-back : goal.returns-clause-back
returns-clause-back c = λ s t events leads. HaveSameLedgers-back s t (HaveSameLedgers-replay s t events leads)
