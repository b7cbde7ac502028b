-- Those of the fragments that are passed.
use Rattle.std.proofs.Common.{◌≡◌, take}
use Rattle.reh_census.specs.Bookies.{bookies_of, is_flagged}
use Rattle.reh_census.specs.Counting.{count_ensembles_in}
use Rattle.reh_census.specs.Tails.{breaks_replaceable}
use Rattle.reh_rules.proofs.places.count_places.Given as goal

abbrev pub invariant-loop-counted : goal.invariant-loop-counted
invariant-loop-counted l =
    l.fragments
    ≡ count_ensembles_in (take l.counted-index l.ensembles) (breaks_replaceable (bookies_of l.bookies) l.question (is_flagged l.stopped))
