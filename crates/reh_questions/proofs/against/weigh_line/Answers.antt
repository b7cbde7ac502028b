-- One line more.
use Rattle.std.proofs.Common.{◌++◌, ◌∷◌, []}
use Rattle.reh_questions.proofs.against.weigh_line.Goals as goal

pub returns-in-Ok : goal.returns-in-Ok
returns-in-Ok c = λ names strict ids ledgers was. record {
  first = was.first;
  lines = was.lines ++ c.args.line.now ∷ [];
  weighing = c.in-Ok.ensures names strict ids ledgers was.first was.lines was.weighing;
}
