-- Each call looks at one member less.
use Rattle.std.proofs.Common.{length}
use Rattle.reh_meta.proofs.fragments.+are_different.Given as goal

abbrev pub decreases-are_different : goal.decreases-are_different
decreases-are_different l = length l.members.now
