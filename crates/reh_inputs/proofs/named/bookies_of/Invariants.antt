-- The bookies that are passed.
use Rattle.std.proofs.Common.{◌≡◌, map, take}
use Rattle.reh_inputs.specs.Named.{bookie_in}
use Rattle.reh_inputs.proofs.named.bookies_of.Given as goal

abbrev pub invariant-loop-shown : goal.invariant-loop-shown
invariant-loop-shown l = l.bookies.items ≡ map (bookie_in l.racks) (take l.shown-index l.all)
