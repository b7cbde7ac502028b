use Rattle.std.proofs.Common.{map, string_bytes}
use Rattle.reh_answer.proofs.TextLaws.{before}
use Rattle.reh_answer.proofs.notes.push_unasked.Goals as goal

pub returns : goal.returns
returns c =
    before c.note_if-4.result (map string_bytes c.note_if-4.new.notes.items) (map string_bytes c.args.notes.now.items) (map string_bytes c.note_if.new.notes.items) _ _ c.in_ok-note_if.ensures
    (before c.note_if-4.result (map string_bytes c.note_if-4.new.notes.items) (map string_bytes c.note_if.new.notes.items) (map string_bytes c.note_if-2.new.notes.items) _ _ c.in_ok-note_if-2.ensures
    (before c.note_if-4.result (map string_bytes c.note_if-4.new.notes.items) (map string_bytes c.note_if-2.new.notes.items) (map string_bytes c.note_if-3.new.notes.items) _ _ c.in_ok-note_if-3.ensures
    c.note_if-4.ensures))
