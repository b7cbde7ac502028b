-- The text is that of the census.
use Rattle.std.proofs.Common.{◌∙◌, ℕ, Bor, List, ap, string_bytes}
use Rattle.std.proofs.lemmas.Result.{IfOk-weaker}
use Rattle.reh_questions.specs.Against.{cut_notes}
use Rattle.reh_questions.specs.Inputs.{census_by}
use Rattle.reh_questions.proofs.inputs.say_gathered.Goals as goal

pub returns-clause-said : goal.returns-clause-said
returns-clause-said c =
    IfOk-weaker c.with_notes.result _ _
    (λ noted same. ap string_bytes same ∙ c.in_ok-text.ensures ∙ ap (census_by c.args.words.now.as_json) c.in_ok-census.ensures)
    c.with_notes.ensures.text

pub returns-clause-notes : goal.returns-clause-notes
returns-clause-notes c =
    IfOk-weaker c.with_notes.result _ _
    (λ noted same. same ∙ ap (λ (files : List (Bor (List ℕ))). cut_notes files c.args.kinds.now) c.deref.ensures.value)
    c.with_notes.ensures.notes
