use Prim.Native.Nat.{◌+◌, ◌*◌}
use Rattle.reh_inputs.proofs.parts.+drops.Given as goal

abbrev pub decreases-let_go : goal.decreases-let_go
decreases-let_go g l = 2 * l.workers

abbrev pub decreases-front : goal.decreases-front
decreases-front g l = 2 * l.others + 1

abbrev pub decreases-back : goal.decreases-back
decreases-back g l = 2 * l.own + 1
