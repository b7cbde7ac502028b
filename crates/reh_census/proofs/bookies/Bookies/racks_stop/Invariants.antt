-- The racks of those that are passed.
use Rattle.std.proofs.Common.{◌≡◌, ◌≤◌, ◌^◌, take}
use Rattle.reh_census.specs.Bookies.{racks_stop}
use Rattle.reh_census.proofs.bookies.Bookies.racks_stop.Given as goal

abbrev pub invariant-loop-bookie : goal.invariant-loop-bookie
invariant-loop-bookie l = record {
  value : l.stop ≡ racks_stop (take l.bookie-index l.bookie-items);
  within : l.stop ≤ 2 ^ 16;
}
