-- Those of the bookies that are passed.
use Rattle.std.proofs.Common.{◌≡◌, ◌≤◌, take}
use Rattle.std.specs.Prelude.{count_by}
use Rattle.reh_census.specs.Bookies.{is_flagged}
use Rattle.reh_rules.proofs.entries.count_stopped.Given as goal

abbrev pub invariant-loop-name : goal.invariant-loop-name
invariant-loop-name l = record {
  counted : l.count ≡ count_by (is_flagged l.stopped) (take l.name-index l.names);
  within : l.count ≤ l.name-index;
}
