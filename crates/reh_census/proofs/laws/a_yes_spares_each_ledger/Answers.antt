use Rattle.reh_census.proofs.YesLaws.{yes-judged, yes-new_ledgers, yes-recoverable, yes-replaceable, yes-writable}
use Rattle.reh_census.proofs.laws.a_yes_spares_each_ledger.Goals as goal

pub returns-clause-recoverable : goal.returns-clause-recoverable
returns-clause-recoverable c holders ledgers bookies question not_judged stopped g tail goes =
    yes-recoverable holders ledgers bookies question not_judged stopped goes g tail

pub returns-clause-writable : goal.returns-clause-writable
returns-clause-writable c holders ledgers bookies question not_judged stopped g tail goes =
    yes-writable holders ledgers bookies question not_judged stopped goes g tail

pub returns-clause-replaceable : goal.returns-clause-replaceable
returns-clause-replaceable c holders ledgers bookies question not_judged stopped g fragment goes =
    yes-replaceable holders ledgers bookies question not_judged stopped goes g fragment

pub returns-clause-new_ledgers : goal.returns-clause-new_ledgers
returns-clause-new_ledgers c holders ledgers bookies question not_judged stopped goes =
    yes-new_ledgers holders ledgers bookies question not_judged stopped goes

pub returns-clause-judged : goal.returns-clause-judged
returns-clause-judged c holders ledgers bookies question not_judged stopped goes =
    yes-judged holders ledgers bookies question not_judged stopped goes
