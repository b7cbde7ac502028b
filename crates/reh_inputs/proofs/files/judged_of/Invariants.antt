-- What the inputs that are passed judged.
use Rattle.std.proofs.Common.{◌≡◌, fold, take}
use Rattle.reh_inputs.specs.Renumbered.{judged_by, with_judged}
use Rattle.reh_inputs.proofs.files.judged_of.Given as goal

abbrev pub invariant-loop-input : goal.invariant-loop-input
invariant-loop-input l = l.judged ≡ fold with_judged (judged_by 0 0) (take l.input-index l.inputs)
