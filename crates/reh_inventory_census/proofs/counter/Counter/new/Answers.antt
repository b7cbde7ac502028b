-- It has counted nothing.
use Rattle.std.proofs.Common.{refl}
use Rattle.reh_census.specs.Bookies.{bookies_of, holders}
use Rattle.reh_inventory_census.proofs.CensusLaws.{nothing-counted}
use Rattle.reh_inventory_census.proofs.counter.Counter.new.Goals as goal

pub returns-clause-none : goal.returns-clause-none
returns-clause-none c = nothing-counted _ (c.new.ensures (holders (bookies_of c.args.bookies))) refl refl
