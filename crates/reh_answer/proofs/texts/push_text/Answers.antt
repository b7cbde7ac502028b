use Rattle.std.proofs.Common.{◌≡◌, ◌∙◌, ◌++◌, ℕ, List, ap, map, option_copied, string_bytes, String, Global}
use Rattle.std.specs.Prelude.{flat_map}
use Rattle.reh_answer.specs.Texts as texts
use Rattle.reh_answer.proofs.TextLaws.{before}
use Rattle.reh_answer.proofs.texts.push_text.Goals as goal

pub returns : goal.returns
returns c =
    let noted : string_bytes c.push_notes.new.text
    ≡ string_bytes c.push_against.new.text ++ flat_map texts.note_line (texts.notes_of c.args.facts.now (map string_bytes c.args.names.now) (option_copied c.args.taken)) =
    c.in_ok-push_notes.ensures
    ∙ ap (λ (notes : List (List ℕ)). string_bytes c.push_against.new.text ++ flat_map texts.note_line notes)
    (ap (λ (notes : List (String Global)). map string_bytes notes) c.deref.ensures.value ∙ c.in_ok-notes.ensures) in
    before c.push_verdict.result (string_bytes c.push_verdict.new.text) (string_bytes c.args.text.now) (string_bytes c.push_judged.new.text) _ _ c.in_ok-push_judged.ensures
    (before c.push_verdict.result (string_bytes c.push_verdict.new.text) (string_bytes c.push_judged.new.text) (string_bytes c.push_table.new.text) _ _ c.in_ok-push_table.ensures
    (before c.push_verdict.result (string_bytes c.push_verdict.new.text) (string_bytes c.push_table.new.text) (string_bytes c.push_rules.new.text) _ _ c.in_ok-push_rules.ensures
    (before c.push_verdict.result (string_bytes c.push_verdict.new.text) (string_bytes c.push_rules.new.text) (string_bytes c.push_unknown.new.text) _ _ c.in_ok-push_unknown.ensures
    (before c.push_verdict.result (string_bytes c.push_verdict.new.text) (string_bytes c.push_unknown.new.text) (string_bytes c.push_against.new.text) _ _ c.in_ok-push_against.ensures
    (before c.push_verdict.result (string_bytes c.push_verdict.new.text) (string_bytes c.push_against.new.text) (string_bytes c.push_notes.new.text) _ _ noted
    (before c.push_verdict.result (string_bytes c.push_verdict.new.text) (string_bytes c.push_notes.new.text) (string_bytes c.push_notes-2.new.text) _ _ c.in_ok-push_notes-2.ensures
    c.push_verdict.ensures))))))
