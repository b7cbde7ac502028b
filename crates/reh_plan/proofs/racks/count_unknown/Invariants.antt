-- Those of the racks that are passed.
use Rattle.std.proofs.Common.{◌≡◌, ◌≤◌, take}
use Rattle.std.specs.Prelude.{count_by, nat_le}
use Rattle.reh_types.specs.declared.limits.TheConstants.{MAX_BOOKIES}
use Rattle.reh_plan.proofs.racks.count_unknown.Given as goal

abbrev pub invariant-loop-rack : goal.invariant-loop-rack
invariant-loop-rack l = record {
  counted : l.count ≡ count_by (nat_le MAX_BOOKIES) (take l.rack-index l.racks);
  within : l.count ≤ l.rack-index;
}
