-- Those of the bookies that are passed.
use Rattle.std.proofs.Common.{◌≡◌, ◌≤◌}
use Rattle.std.specs.Prelude.{count_by}
use Rattle.reh_census.specs.Bookies.{bookies_of, is_flagged}
use Rattle.reh_census.specs.Tails.{has_writable}
use Rattle.reh_census.specs.Striping.{range}
use Rattle.reh_rules.proofs.racks.count_racks.Given as goal

abbrev pub invariant-loop-rack : goal.invariant-loop-rack
invariant-loop-rack l = record {
  counted : l.count ≡ count_by (has_writable (bookies_of l.bookies) (is_flagged l.stopped)) (range 0 l.rack);
  within : l.count ≤ l.rack;
}
