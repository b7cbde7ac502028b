-- Those that are passed.
use Rattle.std.proofs.Common.{◌≡◌, take}
use Rattle.reh_census.specs.Counting.{count_in}
use Rattle.reh_answer.specs.Facts.{is_nowhere}
use Rattle.reh_answer.proofs.counts.count_unreadable.Given as goal

abbrev pub invariant-loop-counted : goal.invariant-loop-counted
invariant-loop-counted l = l.entries ≡ count_in (take l.counted-index l.census) is_nowhere
