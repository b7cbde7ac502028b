-- A flag for each bookie that is passed.
use Rattle.std.proofs.Common.{◌≡◌, map}
use Rattle.reh_census.specs.Bookies.{bookies_of}
use Rattle.reh_census.specs.Striping.{range}
use Rattle.reh_waves.specs.Losses.{stopped_by}
use Rattle.reh_waves.specs.declared.losses.Lost.TheVariants.{Rack}
use Rattle.reh_waves.proofs.losses.rack_set.Given as goal

abbrev pub invariant-loop-bookie : goal.invariant-loop-bookie
invariant-loop-bookie l = l.flags.items ≡ map (stopped_by (bookies_of l.bookies) (Rack l.rack)) (range 0 l.bookie)
