-- The sum so far.
use Rattle.std.proofs.Common.{◌≡◌, fold, map, take}
use Rattle.reh_inventory_plan.specs.Totals.{plus, fewer_of}
use Rattle.reh_inventory_plan.proofs.totals.fewer_in.Given as goal

abbrev pub invariant-loop-outcome : goal.invariant-loop-outcome
invariant-loop-outcome l =
    l.count ≡ fold plus 0 (map fewer_of (take l.outcome-index l.outcomes))
