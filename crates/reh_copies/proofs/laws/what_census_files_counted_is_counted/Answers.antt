use Rattle.reh_copies.proofs.FilesLaws.{counted-all}
use Rattle.reh_copies.proofs.laws.what_census_files_counted_is_counted.Goals as goal

pub returns : goal.returns
returns c = counted-all
