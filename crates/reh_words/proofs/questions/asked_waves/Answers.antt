use Rattle.std.proofs.Common.{refl}
use Rattle.reh_words.proofs.questions.asked_waves.Goals as goal

pub returns : goal.returns
returns c = (
  refl,
  record {
    reads = c.in_ok-asked_inputs.ensures;
    asks = c.asked_question.ensures;
    keeps_to_racks = c.is_given.ensures;
    prints = c.is_json.ensures;
  },
)
