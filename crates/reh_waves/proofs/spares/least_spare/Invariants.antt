-- Those of the ledgers that are passed.
use Rattle.std.proofs.Common.{take}
use Rattle.reh_census.specs.Bookies.{bookies_of}
use Rattle.reh_census.specs.Counting.{count_tails_in}
use Rattle.reh_waves.specs.Fewest.{AreLeastSpare}
use Rattle.reh_waves.proofs.spares.least_spare.Given as goal

abbrev pub invariant-loop-counted : goal.invariant-loop-counted
invariant-loop-counted l = AreLeastSpare (count_tails_in (take l.counted-index l.tails)) (bookies_of l.bookies) l.least
