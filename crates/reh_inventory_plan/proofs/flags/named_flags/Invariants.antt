-- The flags of the bookies so far.
use Rattle.std.proofs.Common.{◌≡◌, map, take}
use Rattle.reh_inventory_plan.specs.Asked.{passes}
use Rattle.reh_inventory_plan.proofs.flags.named_flags.Given as goal

abbrev pub invariant-loop-number : goal.invariant-loop-number
invariant-loop-number l =
    l.flags.items ≡ map (passes l.words l.any_if_none) (take l.number l.names)
