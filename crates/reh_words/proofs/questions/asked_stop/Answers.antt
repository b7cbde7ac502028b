use Rattle.std.proofs.Common.{refl}
use Rattle.reh_words.proofs.questions.asked_stop.Goals as goal

pub returns : goal.returns
returns c = (
  refl,
  record {
    reads = c.in_ok-asked_inputs.ensures;
    bookies_are = c.in_ok-words_of.ensures;
    racks_are = c.in_ok-words_of-2.ensures;
    asks = c.asked_question.ensures;
    prints = c.is_json.ensures;
  },
)
