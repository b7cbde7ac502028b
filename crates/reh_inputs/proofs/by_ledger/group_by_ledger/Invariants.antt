-- The holdings that are passed, by ledger.
use Rattle.std.proofs.Common.{◌≤◌, ◌-◌, length, take}
use Rattle.std.specs.BTreeMap.{get}
use Rattle.std.specs.Ordering.{nat_cmp}
use Rattle.reh_inputs.specs.ByLedger.{AreOf}
use Rattle.reh_inputs.proofs.by_ledger.group_by_ledger.Given as goal

abbrev pub invariant-loop-at : goal.invariant-loop-at
invariant-loop-at l = record {
  within : l.at ≤ length l.holdings;
  passed : AreOf (take l.at l.holdings) (get nat_cmp l.by_ledger);
}

abbrev pub decreases-loop-at : goal.decreases-loop-at
decreases-loop-at l = length l.holdings - l.at
