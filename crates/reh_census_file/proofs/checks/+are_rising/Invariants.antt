use Rattle.std.proofs.Common.{length}
use Rattle.reh_census_file.proofs.checks.+are_rising.Given as goal

abbrev pub decreases-are_rising : goal.decreases-are_rising
decreases-are_rising l = length l.numbers.now
