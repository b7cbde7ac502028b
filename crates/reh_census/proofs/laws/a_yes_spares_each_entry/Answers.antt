use Rattle.reh_census.proofs.YesLaws.{yes-disks, yes-kept, yes-readable}
use Rattle.reh_census.proofs.laws.a_yes_spares_each_entry.Goals as goal

pub returns-clause-readable : goal.returns-clause-readable
returns-clause-readable c holders ledgers bookies question not_judged stopped holds g fragment entry goes =
    yes-readable holders ledgers bookies question not_judged stopped goes g fragment entry holds

pub returns-clause-kept : goal.returns-clause-kept
returns-clause-kept c holders ledgers bookies question not_judged stopped holds g fragment entry goes =
    yes-kept holders ledgers bookies question not_judged stopped goes g fragment entry holds

pub returns-clause-disks : goal.returns-clause-disks
returns-clause-disks c holders ledgers bookies question not_judged stopped holds g fragment entry goes =
    yes-disks holders ledgers bookies question not_judged stopped goes g fragment entry holds
