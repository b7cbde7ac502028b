-- The bookies of the inputs that are passed, each as they all show it.
use Rattle.std.proofs.Common.{◌≡◌, All, take}
use Rattle.reh_inputs.specs.United.{AreAlike, united}
use Rattle.reh_inputs.proofs.gathered.cluster_of.Given as goal

abbrev pub invariant-loop-input : goal.invariant-loop-input
invariant-loop-input l = (l.cluster ≡ united (take l.input l.inputs)) × All (AreAlike l.cluster) (take l.input l.inputs)
