-- What is printed so far.
use Rattle.std.proofs.Common.{◌≡◌, ◌++◌, take, string_bytes}
use Rattle.std.specs.Prelude.{flat_map}
use Rattle.reh_answer.specs.Texts.{note_line}
use Rattle.reh_answer.proofs.notes.push_notes.Given as goal

abbrev pub invariant-loop-note : goal.invariant-loop-note
invariant-loop-note l =
    string_bytes l.text ≡ string_bytes l.fn.text ++ flat_map (λ note. note_line (string_bytes note)) (take l.note-index l.notes)
