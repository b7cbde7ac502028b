-- The racks of the bookies that are passed: no more than these.
use Rattle.std.proofs.Common.{◌≡◌, ◌≤◌, length, take}
use Rattle.reh_inputs.specs.Named.{racks_of}
use Rattle.reh_inputs.proofs.named.racks_of.Given as goal

abbrev pub invariant-loop-shown : goal.invariant-loop-shown
invariant-loop-shown l = (l.racks ≡ racks_of (take l.shown-index l.all)) × (length l.racks ≤ l.shown-index)
