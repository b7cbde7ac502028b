use Prim.Native.Nat.{◌+◌, ◌*◌}
use Rattle.reh_inputs.proofs.parts.+parts.Given as goal

abbrev pub decreases-parts_of : goal.decreases-parts_of
decreases-parts_of g l = 2 * l.workers

abbrev pub decreases-front : goal.decreases-front
decreases-front g l = 2 * l.others + 1

abbrev pub decreases-back : goal.decreases-back
decreases-back g l = 2 * l.own + 1
