use Rattle.std.proofs.Common.{take, take_all, ◌∙◌, ◌++◌, ℕ, List, ap, append_assoc, sym, arith, string_bytes, String, Global}
use Rattle.std.specs.Prelude.{flat_map}
use Rattle.reh_answer.specs.Texts as texts
use Rattle.reh_answer.proofs.TextLaws.{flat_map-map, printed-more}
use Rattle.reh_answer.proofs.notes.push_notes.Goals as goal

pub loop-note-preserved : goal.loop-note-preserved
loop-note-preserved c =
    let first : List ℕ = string_bytes c.args.text.now in
    let line : String Global → List ℕ = λ note. texts.note_line (string_bytes note) in
    let i : ℕ = c.loop-note.note-index in
    let note : String Global = c.note-item.result in
    c.in_ok-write.ensures.bytes
    ∙ ap (λ (t : List ℕ). t ++ line note) c.loop-note.invariant
    ∙ append_assoc first (flat_map line (take i c.args.notes.now)) (line note)
    ∙ ap (λ (t : List ℕ). first ++ t) (printed-more line c.args.notes.now i note c.loop-note-test.true c.note-item.is)

pub returns : goal.returns
returns c =
    let first : List ℕ = string_bytes c.args.text.now in
    let line : String Global → List ℕ = λ note. texts.note_line (string_bytes note) in
    c.loop-note.invariant
    ∙ ap (λ (notes : List (String Global)). first ++ flat_map line notes)
    (take_all c.loop-note.note-index c.args.notes.now (omega (arith, c.loop-note-test.false)))
    ∙ ap (λ (t : List ℕ). first ++ t) (sym (flat_map-map texts.note_line string_bytes c.args.notes.now))
