-- None of those that are passed is larger.
use Rattle.std.proofs.Common.{◌≤◌, All, length, take}
use Rattle.reh_waves.proofs.near.largest_ensemble.Given as goal

abbrev pub invariant-loop-counted : goal.invariant-loop-counted
invariant-loop-counted l = All (λ e. length e.members ≤ l.largest) (take l.counted-index l.ensembles)
