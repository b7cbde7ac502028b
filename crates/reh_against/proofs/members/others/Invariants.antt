-- Those of the bookies that are passed.
use Rattle.std.proofs.Common.{◌≡◌, take}
use Rattle.reh_census.specs.Bookies.{is_flagged}
use Rattle.reh_against.specs.Causes.{others}
use Rattle.reh_against.proofs.members.others.Given as goal

abbrev pub invariant-loop-bookie : goal.invariant-loop-bookie
invariant-loop-bookie l = l.others.items ≡ others (is_flagged l.stopped) (take l.bookie-index l.bookies)
