-- Metadata without a line is the same, and each other change has a line in any case.
use Rattle.reh_changes.proofs.ToldLaws.{lines_of-some, all_lines-none, entries_told, metadata_lines-none}
use Rattle.reh_changes.proofs.laws.changes_are_told.Goals as goal

pub returns-clause-each : goal.returns-clause-each
returns-clause-each c = lines_of-some

pub returns-clause-none : goal.returns-clause-none
returns-clause-none c = all_lines-none

pub returns-clause-entries : goal.returns-clause-entries
returns-clause-entries c = entries_told

pub returns-clause-metadata : goal.returns-clause-metadata
returns-clause-metadata c = metadata_lines-none
