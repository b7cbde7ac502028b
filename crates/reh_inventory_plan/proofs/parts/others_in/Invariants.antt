-- Each so far is one of them.
use Rattle.std.specs.Prelude.{All, Contains}
use Rattle.reh_inventory_plan.proofs.parts.others_in.Given as goal

abbrev pub invariant-loop-number : goal.invariant-loop-number
invariant-loop-number l = All (Contains l.all) l.others.items
