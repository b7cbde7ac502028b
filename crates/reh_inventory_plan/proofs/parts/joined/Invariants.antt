-- Those so far were added.
use Rattle.std.proofs.Common.{◌≡◌, ◌++◌}
use Rattle.reh_inventory_plan.proofs.parts.joined.Given as goal

abbrev pub invariant-loop-other : goal.invariant-loop-other
invariant-loop-other l = l.bookies.items ≡ l.fn.bookies.items ++ l.yielded
