-- Those that are passed.
use Rattle.std.proofs.Common.{◌≡◌, take}
use Rattle.reh_tally.specs.Few.{capped, entries_among}
use Rattle.reh_tally.proofs.few.entries_among.Given as goal

abbrev pub invariant-loop-fragment : goal.invariant-loop-fragment
invariant-loop-fragment l = l.total ≡ capped (entries_among (take l.fragment-index l.fragments))
