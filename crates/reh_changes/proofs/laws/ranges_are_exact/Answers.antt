-- Entry by entry, a range is open from the first one that passes to the last.
use Rattle.reh_changes.proofs.EntryLaws.{ranges_in-entries, ranges_in-apart}
use Rattle.reh_changes.proofs.laws.ranges_are_exact.Goals as goal

pub returns-clause-entries : goal.returns-clause-entries
returns-clause-entries c = ranges_in-entries

pub returns-clause-apart : goal.returns-clause-apart
returns-clause-apart c = ranges_in-apart
