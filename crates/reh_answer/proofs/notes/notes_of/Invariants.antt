-- What is printed so far.
use Rattle.std.proofs.Common.{◌≡◌, ◌++◌, take, string_bytes}
use Rattle.std.specs.Prelude.{map, codes}
use Rattle.reh_answer.specs.Texts.{name_of}
use Rattle.reh_answer.proofs.notes.notes_of.Given as goal

abbrev pub invariant-loop-bookie : goal.invariant-loop-bookie
invariant-loop-bookie l =
    map string_bytes l.notes.items
    ≡ map (λ b. name_of (map string_bytes l.names) b ++ codes " is not registered") (take l.bookie-index l.facts.unregistered)
