-- The comments on the fragments that are passed.
use Rattle.std.proofs.Common.{◌≡◌, ◌++◌, map, take}
use Rattle.reh_plan.specs.Racks.{racks_line}
use Rattle.reh_plan.proofs.fewer.tell.Given as goal

abbrev pub invariant-loop-found : goal.invariant-loop-found
invariant-loop-found l =
    l.plan ≡ record l.fn.plan { lines = l.fn.plan.lines ++ map racks_line (take l.found-index l.fewer) }
