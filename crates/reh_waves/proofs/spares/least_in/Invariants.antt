-- The least of the write sets that are passed.
use Rattle.reh_census.specs.Bookies.{bookies_of}
use Rattle.reh_waves.specs.Fewest.{IsLeastOf, spare}
use Rattle.reh_waves.proofs.spares.least_in.Given as goal

abbrev pub invariant-loop-entry : goal.invariant-loop-entry
invariant-loop-entry l = IsLeastOf (spare (bookies_of l.bookies) l.tail) l.entry l.least
