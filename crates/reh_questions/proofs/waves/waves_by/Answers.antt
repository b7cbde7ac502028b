-- The words are asked of what the files show together, of which each bookie is shown.
use Rattle.std.proofs.Common.{◌∙◌, subst, sym}
use Rattle.reh_stop.specs.Rounds.{SaysRounds}
use Rattle.reh_stop.proofs.GatheredLaws.{each_shown}
use Rattle.reh_questions.specs.Against.{cut_notes}
use Rattle.reh_questions.specs.Inputs.{waves_asked}
use Rattle.reh_questions.proofs.waves.waves_by.Goals as goal

pub answer_waves-requires : goal.answer_waves-requires
answer_waves-requires c = each_shown _ _ _ c.requires.of_files.gathers

pub returns-in_ok-noted-in-Ok : goal.returns-in_ok-noted-in-Ok
returns-in_ok-noted-in-Ok c = record {
  files = c.args.files.now;
  are_gathered = c.requires;
  says = subst (SaysRounds c.args.files.now.gathered (waves_asked c.args.words.now)) (sym c.in_ok-noted-in-Ok.ensures.text)
      c.in-Ok.ensures.said;
  notes = c.in_ok-noted-in-Ok.ensures.notes ∙ (λ i. cut_notes (c.deref.ensures.value i) (c.deref-in-Ok.ensures.value i));
}
