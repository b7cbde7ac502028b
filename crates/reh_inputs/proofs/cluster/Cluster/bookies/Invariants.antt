-- The bookies that are passed.
use Rattle.std.proofs.Common.{◌≡◌, map, take}
use Rattle.reh_inputs.specs.Cluster.{bookie_of}
use Rattle.reh_inputs.proofs.cluster.Cluster.bookies.Given as goal

abbrev pub invariant-loop-shown : goal.invariant-loop-shown
invariant-loop-shown l = l.bookies.items ≡ map (bookie_of l.self.shown) (take l.shown-index l.self.shown)
