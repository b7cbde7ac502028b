-- The files, of which those past the limit are left out.
use Rattle.std.proofs.Common.{◌∙◌, ap, sym, map, take, ℕ, List}
use Rattle.std.proofs.lemmas.List.{take-map}
use Rattle.std.specs.Borrow.{Bor}
use Rattle.std.specs.Prelude.{max, min}
use Rattle.reh_crew.specs.declared.threads.TheConstants.{MAX_WORKERS}
use Rattle.reh_words.specs.declared.tasks.TheConstants.{MAX_FILES}
use Rattle.reh_words.proofs.questions.asked_inputs.Goals as goal

pub returns : goal.returns
returns c =
    let text : Bor (List ℕ) → List ℕ = λ file. file.now in
    record {
      files_are =
          ap (map text) c.truncate.ensures.items ∙ sym (take-map text MAX_FILES c.in_ok-files.files.items)
          ∙ ap (take MAX_FILES) c.in_ok-files.ensures;
      after_is = c.get_str.ensures;
      is_strict = c.is_given.ensures;
      readers = record {
        number = c.number_of.result;
        is_number = c.number_of.ensures;
        works =
            c.min-workers.ensures
            ∙ ap (λ (n : ℕ). min n MAX_WORKERS) (c.max.ensures ∙ ap (λ (n : ℕ). max n 1) c.unwrap_or-workers.ensures);
      };
    }
