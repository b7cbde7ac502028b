-- Those of the classes that are passed.
use Rattle.std.proofs.Common.{take}
use Rattle.reh_census.specs.Counting.{count_in}
use Rattle.reh_waves.specs.Fewest.{AreFewest}
use Rattle.reh_waves.proofs.fewest.fewest_copies.Given as goal

abbrev pub invariant-loop-counted : goal.invariant-loop-counted
invariant-loop-counted l = AreFewest (count_in (take l.counted-index l.entries)) l.fewest
