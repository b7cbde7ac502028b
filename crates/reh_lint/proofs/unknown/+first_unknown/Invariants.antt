-- One word less at each call.
use Rattle.std.proofs.Common.{length}
use Rattle.reh_lint.proofs.unknown.+first_unknown.Given as goal

abbrev pub decreases-first_unknown : goal.decreases-first_unknown
decreases-first_unknown l = length l.words.now
