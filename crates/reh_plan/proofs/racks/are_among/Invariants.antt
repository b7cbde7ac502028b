-- Those that are passed are.
use Rattle.std.proofs.Common.{◌≡◌, take, true}
use Rattle.std.specs.List.{list_all}
use Rattle.reh_plan.specs.Racks.{is_among}
use Rattle.reh_plan.proofs.racks.are_among.Given as goal

abbrev pub invariant-loop-rack : goal.invariant-loop-rack
invariant-loop-rack l = list_all (is_among l.others) (take l.rack-index l.racks) ≡ true
