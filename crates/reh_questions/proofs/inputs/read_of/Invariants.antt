-- As much is read as slots are passed, each of some bytes.
use Rattle.std.proofs.Common.{◌≡◌, length, All}
use Rattle.reh_questions.specs.Inputs.{IsOfFile}
use Rattle.reh_questions.proofs.inputs.read_of.Given as goal

abbrev pub invariant-loop-slot : goal.invariant-loop-slot
invariant-loop-slot l = (length l.read.items ≡ length l.yielded) × All IsOfFile l.read.items
