-- The text is that of the census of what the files show.
use Rattle.std.proofs.Common.{◌∙◌, List, ap}
use Rattle.reh_questions.specs.Against.{cut_notes}
use Rattle.reh_questions.specs.declared.inputs.FileKind.{FileKind}
use Rattle.reh_questions.proofs.inputs.census_of.Goals as goal

pub returns : goal.returns
returns g c = record {
  files = c.in_ok-files.files;
  are_gathered = c.in_ok-files.ensures;
  says = c.in_ok-noted.ensures.said;
  notes =
      c.in_ok-noted.ensures.notes
      ∙ ap (λ (kinds : List FileKind). cut_notes c.args.words.now.inputs.files.items kinds) c.deref.ensures.value;
}
