-- The flags of the bookies that are passed.
use Rattle.std.proofs.Common.{◌≡◌, map}
use Rattle.reh_census.specs.Striping.{range}
use Rattle.reh_stop.specs.Named.{is_stopped}
use Rattle.reh_stop.proofs.named.stopped_of.Given as goal

abbrev pub invariant-loop-bookie : goal.invariant-loop-bookie
invariant-loop-bookie l = l.flags.items ≡ map (is_stopped l.cluster l.words l.racks) (range 0 l.bookie)
