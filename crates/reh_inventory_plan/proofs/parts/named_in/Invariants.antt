-- Those of the bookies so far.
use Rattle.std.proofs.Common.{◌≡◌, take}
use Rattle.reh_inventory_plan.specs.Parts.{named_in}
use Rattle.reh_inventory_plan.proofs.parts.named_in.Given as goal

abbrev pub invariant-loop-bookie : goal.invariant-loop-bookie
invariant-loop-bookie l = l.named.items ≡ named_in l.line (take l.bookie-index l.all)
