-- The words are asked of what the files show together.
use Rattle.std.proofs.Common.{refl}
use Rattle.reh_questions.proofs.stops.said_of.Goals as goal

pub returns : goal.returns
returns g c = record {
  files = c.in_ok-files.files;
  are_gathered = c.in_ok-files.ensures;
  asked = record {
    bookies = c.deref.result;
    racks = c.deref-2.result;
    question = c.args.stop.now.question;
    as_json = c.args.stop.now.as_json;
  };
  same_bookies = c.deref.ensures.value;
  same_racks = c.deref-2.ensures.value;
  same_question = refl;
  same_form = refl;
  says = c.in_ok-said.ensures;
}
