-- The names of the racks of the bookies that are passed.
use Rattle.std.proofs.Common.{◌≡◌, map, take, string_bytes}
use Rattle.reh_inputs.specs.Cluster.{rack_name}
use Rattle.reh_inputs.proofs.cluster.Cluster.racks.Given as goal

abbrev pub invariant-loop-shown : goal.invariant-loop-shown
invariant-loop-shown l = map string_bytes l.racks.items ≡ map rack_name (take l.shown-index l.self.shown)
