-- What it is given by the shares so far.
use Rattle.std.proofs.Common.{◌≡◌, fold, map, take}
use Rattle.reh_inventory_plan.specs.Totals.{given_by, nothing, together}
use Rattle.reh_inventory_plan.proofs.totals.given_among.Given as goal

abbrev pub invariant-loop-share : goal.invariant-loop-share
invariant-loop-share l =
    l.given ≡ fold together nothing (map (given_by l.name l.size) (take l.share-index l.shares))
