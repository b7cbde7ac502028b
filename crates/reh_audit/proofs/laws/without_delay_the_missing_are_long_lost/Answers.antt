-- The ledger that is found names bookies that have registrations.
use Rattle.reh_model.proofs.AuditLaws.{long_lost-missing}
use Rattle.reh_model.proofs.WellFormedLaws.{IsLedger-found}
use Rattle.reh_audit.proofs.laws.without_delay_the_missing_are_long_lost.Goals as goal

pub returns : goal.returns
returns c = λ s was none l g found. long_lost-missing s g was (IsLedger-found s l g was found) none
