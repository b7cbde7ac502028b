use Rattle.reh_census_file.proofs.WholeTakes.{found_text, found_canonical}
use Rattle.reh_census_file.proofs.WholeAgain.{found_again}
use Rattle.reh_census_file.proofs.reading.read_census.Goals as goal

pub returns-clause-text : goal.returns-clause-text
returns-clause-text c = found_text c.args.bytes.now c.read_all.result c.read_all.ensures

pub returns-clause-canonical : goal.returns-clause-canonical
returns-clause-canonical c = found_canonical c.args.bytes.now c.read_all.result c.read_all.ensures

pub returns-clause-only : goal.returns-clause-only
returns-clause-only c = found_again c.args.bytes.now c.read_all.result c.read_all.ensures
