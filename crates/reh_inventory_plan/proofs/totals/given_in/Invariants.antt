-- What it is given by the plans so far.
use Rattle.std.proofs.Common.{◌≡◌, fold, map, take}
use Rattle.reh_inventory_plan.specs.Totals.{given_of, nothing, together}
use Rattle.reh_inventory_plan.proofs.totals.given_in.Given as goal

abbrev pub invariant-loop-outcome : goal.invariant-loop-outcome
invariant-loop-outcome l =
    l.given ≡ fold together nothing (map (given_of l.name) (take l.outcome-index l.outcomes))
