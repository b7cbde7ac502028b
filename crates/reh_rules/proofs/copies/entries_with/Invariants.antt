-- Those of the classes that are passed.
use Rattle.std.proofs.Common.{◌≡◌, take}
use Rattle.std.specs.Prelude.{◌==◌}
use Rattle.reh_census.specs.Bookies.{is_flagged}
use Rattle.reh_census.specs.Copies.{left}
use Rattle.reh_census.specs.Counting.{count_in}
use Rattle.reh_rules.proofs.copies.entries_with.Given as goal

abbrev pub invariant-loop-counted : goal.invariant-loop-counted
invariant-loop-counted l =
    l.entries ≡ count_in (take l.counted-index l.census) (λ class. left (is_flagged l.stopped) class.known == l.copies)
