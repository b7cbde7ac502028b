-- The bookies that are passed.
use Rattle.std.proofs.Common.{◌≡◌, take}
use Rattle.reh_inputs.specs.Renumbered.{renumbered}
use Rattle.reh_inputs.proofs.files.renumbered.Given as goal

abbrev pub invariant-loop-bookie : goal.invariant-loop-bookie
invariant-loop-bookie l = l.made.items ≡ renumbered l.numbers (take l.bookie-index l.listed)
