-- Those of the bookies that are passed.
use Rattle.std.proofs.Common.{◌≡◌, take}
use Rattle.std.specs.Prelude.{filter}
use Rattle.reh_census.specs.Bookies.{bookies_of}
use Rattle.reh_waves.proofs.risk.registered_in.Given as goal

abbrev pub invariant-loop-bookie : goal.invariant-loop-bookie
invariant-loop-bookie l = l.registered.items ≡ filter (bookies_of l.bookies).is_registered (take l.bookie-index l.order)
