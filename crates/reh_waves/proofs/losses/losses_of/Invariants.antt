-- Those that are passed.
use Rattle.std.proofs.Common.{◌≡◌, map, take}
use Rattle.reh_census.specs.Bookies.{bookies_of}
use Rattle.reh_census.specs.Counting.{counting_in, not_judged}
use Rattle.reh_waves.specs.Losses.{loss_on}
use Rattle.reh_waves.proofs.losses.losses_of.Given as goal

abbrev pub invariant-loop-one : goal.invariant-loop-one
invariant-loop-one l =
    l.losses.items
    ≡ map (loss_on (counting_in l.census) (bookies_of l.bookies) l.question (not_judged l.census.judged)) (take l.one-index l.lost)
