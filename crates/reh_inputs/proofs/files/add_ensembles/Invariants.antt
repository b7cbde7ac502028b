-- Those that are passed are there.
use Rattle.std.proofs.Common.{◌≡◌, ◌++◌, map, take}
use Rattle.reh_inputs.specs.Renumbered.{counted_ensemble_by}
use Rattle.reh_inputs.proofs.files.add_ensembles.Given as goal

abbrev pub invariant-loop-one : goal.invariant-loop-one
invariant-loop-one l = l.ensembles.items ≡ l.fn.ensembles.items ++ map (counted_ensemble_by l.numbers) (take l.one-index l.counted)
