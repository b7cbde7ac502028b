-- What the files that are passed show, their ids, and what they are.
use Rattle.std.proofs.Common.{◌≡◌, map}
use Rattle.reh_questions.proofs.inputs.in_parts.Given as goal

abbrev pub invariant-loop-file : goal.invariant-loop-file
invariant-loop-file l =
    (l.inputs.items ≡ map (λ file. file.input) l.yielded) × (l.ids.items ≡ map (λ file. file.ids) l.yielded)
    × (l.kinds.items ≡ map (λ file. file.kind) l.yielded)
