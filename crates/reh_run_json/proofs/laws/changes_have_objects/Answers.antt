-- There is an object exactly where there is a line.
use Rattle.reh_run_json.proofs.ObjectLaws.{change_objects-some, change_objects-none, metadata_changes-none}
use Rattle.reh_run_json.proofs.laws.changes_have_objects.Goals as goal

pub returns-clause-each : goal.returns-clause-each
returns-clause-each c = change_objects-some

pub returns-clause-none : goal.returns-clause-none
returns-clause-none c = change_objects-none

pub returns-clause-metadata : goal.returns-clause-metadata
returns-clause-metadata c = metadata_changes-none
