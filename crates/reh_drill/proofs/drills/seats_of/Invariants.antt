use Rattle.std.proofs.Common.{◌≡◌}
use Rattle.std.specs.List.{flat_map}
use Rattle.reh_drill.specs.Drills.{seat_of}
use Rattle.reh_drill.proofs.drills.seats_of.Given as goal

abbrev pub invariant-loop-outcome : goal.invariant-loop-outcome
invariant-loop-outcome l = l.seats.items ≡ flat_map seat_of l.yielded
