-- A slot for each file that is passed.
use Rattle.std.proofs.Common.{◌≡◌, length}
use Rattle.reh_questions.proofs.inputs.slots_of.Given as goal

abbrev pub invariant-loop-path : goal.invariant-loop-path
invariant-loop-path l = length l.slots.items ≡ l._path-index
