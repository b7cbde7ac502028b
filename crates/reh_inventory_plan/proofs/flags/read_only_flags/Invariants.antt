-- The flags of the bookies so far.
use Rattle.std.proofs.Common.{◌≡◌, map, take}
use Rattle.reh_inventory_plan.proofs.flags.read_only_flags.Given as goal

abbrev pub invariant-loop-mark : goal.invariant-loop-mark
invariant-loop-mark l =
    l.flags.items ≡ map (λ m. m.is_read_only) (take l.mark-index l.marks)
