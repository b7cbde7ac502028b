-- Those of the ledgers so far.
use Rattle.std.proofs.Common.{◌≡◌, count_by, take}
use Rattle.reh_inventory_plan.specs.Totals.{is_left_for}
use Rattle.reh_inventory_plan.proofs.totals.count_kind.Given as goal

abbrev pub invariant-loop-outcome : goal.invariant-loop-outcome
invariant-loop-outcome l = l.count ≡ count_by (is_left_for l.kind) (take l.outcome-index l.outcomes)
