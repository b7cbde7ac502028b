use Rattle.reh_census.proofs.RuleLaws.{kept-best_part, kept-worst_part}
use Rattle.reh_census.proofs.TailLaws.{breaks_new_ledgers-part, breaks_recoverable-part, breaks_replaceable-part, breaks_writable-part, needs_disk-part}
use Rattle.reh_census.proofs.laws.each_rule_is_monotone.Goals as goal

pub returns-clause-every : goal.returns-clause-every
returns-clause-every c = λ keep part whole class within. kept-best_part keep part whole class within

pub returns-clause-some : goal.returns-clause-some
returns-clause-some c = λ keep part whole class within. kept-worst_part keep part whole class within

pub returns-clause-recoverable : goal.returns-clause-recoverable
returns-clause-recoverable c = λ bookies question part whole tail within. breaks_recoverable-part bookies question part whole within tail

pub returns-clause-writable : goal.returns-clause-writable
returns-clause-writable c = λ bookies question part whole tail within. breaks_writable-part bookies question part whole within tail

pub returns-clause-new_ledgers : goal.returns-clause-new_ledgers
returns-clause-new_ledgers c = λ bookies question part whole within. breaks_new_ledgers-part bookies question part whole within

pub returns-clause-replaceable : goal.returns-clause-replaceable
returns-clause-replaceable c = λ bookies question part whole members within. breaks_replaceable-part bookies question part whole within members

pub returns-clause-disks : goal.returns-clause-disks
returns-clause-disks c = λ bookies question part whole class within. needs_disk-part bookies question part whole within class
