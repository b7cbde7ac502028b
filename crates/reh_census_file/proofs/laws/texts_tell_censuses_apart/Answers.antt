use Rattle.reh_census_file.proofs.WholeAgain.{texts_apart}
use Rattle.reh_census_file.proofs.laws.texts_tell_censuses_apart.Goals as goal

pub returns : goal.returns
returns c = texts_apart
