-- Those that are passed stay.
use Rattle.std.proofs.Common.{◌≡◌, false, not, take}
use Rattle.std.specs.List.{list_any}
use Rattle.reh_inventory_plan.specs.Asked.{stays_up}
use Rattle.reh_inventory_plan.proofs.asked.misses_one.Given as goal

abbrev pub invariant-loop-member : goal.invariant-loop-member
invariant-loop-member l =
    list_any (λ name. not (stays_up l.head l.lost name)) (take l.member-index l.members) ≡ false
